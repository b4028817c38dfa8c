-- Names without their scopes, and the lines of variables and scopes.
use Rattle.std.proofs.Common.{◌≡◌, ◌<◌, ◌≤◌, ◌+◌, ◌-◌, ℕ, suc, Bool, cond, ◌==◌, List, [], ◌∷◌, ◌++◌, length, take, drop, min, refl, sym, ap, ◌∙◌, append_assoc, inl, inr, arith}
use Rattle.std.specs.Prelude.{not, codes, decimal}
use Rattle.std.specs.List.{after_last}
use Rattle.std.proofs.lemmas.List.{take_min, drop_all}
use Rattle.std.proofs.lemmas.Bool.{cases_lt}
use Rattle.std.proofs.Math.Seq.{take-nil, drop-nil}
use Rattle.vdesign.specs.Design.{Variable, Scope}
use Rattle.basis.specs.declared.timescale.Span.{Span}
use Rattle.basis.specs.Timescales.{count_number, unit_word}
use Rattle.vcd_text.specs.DumpText.{timescale_line, bounds_text, closings, code, identifier, is_written, kind_word, line, following, named_variable_line, scope_line, scope_lines, scope_text, variable_lines}

-- what stands in a name's last part
abbrev pub is_no_dot : ℕ → Bool
is_no_dot c = not (c == 46)

-- where no variable is left, their numbers don't matter
module _ (around n k : ℕ) (written mark : Bool) (s : Scope) (after : ℕ) (marks : List Bool) (scopes : List Scope) where
  text_of_none : cond written (scope_text around n mark s (take k [])) [] ++ scope_lines after (n + k) marks scopes (drop k [])
      ≡ cond written (closings (around - s.depth) ++ scope_line s.name ++ cond mark [] []) [] ++ scope_lines after (n + k) marks scopes []
  text_of_none =
      ap (λ (vs : List Variable). cond written (scope_text around n mark s vs) [] ++ scope_lines after (n + k) marks scopes (drop k [])) (take-nil k)
      ∙ ap (λ (vs : List Variable). cond written (scope_text around n mark s []) [] ++ scope_lines after (n + k) marks scopes vs) (drop-nil k)

no_variables : (around n m : ℕ) (marks : List Bool) (scopes : List Scope) → scope_lines around n marks scopes [] ≡ scope_lines around m marks scopes []
no_variables around n m marks [] = refl
no_variables around n m [] (s ∷ scopes) = refl
no_variables around n m (mark ∷ marks) (s ∷ scopes) =
    let written : Bool = is_written mark s marks scopes in
    let after : ℕ = cond written (suc s.depth) around in
    let piece : List ℕ = cond written (closings (around - s.depth) ++ scope_line s.name ++ cond mark [] []) [] in
    text_of_none around n s.variables written mark s after marks scopes
    ∙ ap (λ (text : List ℕ). piece ++ text) (no_variables after (n + s.variables) (m + s.variables) marks scopes)
    ∙ sym (text_of_none around m s.variables written mark s after marks scopes)

-- a scope that says of more variables than there are has those that there are
same_lines : (around n k j : ℕ) (marks : List Bool) (scopes : List Scope) (vs : List Variable) → j ≡ min k (length vs) →
    scope_lines around (n + j) marks scopes (drop j vs) ≡ scope_lines around (n + k) marks scopes (drop k vs)
same_lines around n k j marks scopes vs is = elim (cases_lt (length vs) k) [
  | inl lt ↦ (let e : length vs ≤ j = omega (arith, is, lt) in
      ap (scope_lines around (n + j) marks scopes) (drop_all j vs e)
      ∙ no_variables around (n + j) (n + k) marks scopes
      ∙ sym (ap (scope_lines around (n + k) marks scopes) (drop_all k vs (omega (arith, lt)))))
  | inr le ↦ (let e : j ≡ k = omega (arith, is, le) in ap (λ (m : ℕ). scope_lines around (n + m) marks scopes (drop m vs)) e)
]

-- one piece more
piece_more : (text so_far now next piece : List ℕ) → now ≡ text ++ so_far → next ≡ now ++ piece → next ≡ text ++ (so_far ++ piece)
piece_more text so_far now next piece p q = q ∙ ap (λ (x : List ℕ). x ++ piece) p ∙ append_assoc text so_far piece

-- the pieces of a scope's line
pub scope_put : (text t1 t2 t3 t4 : List ℕ) (name : List ℕ) → t1 ≡ text ++ codes "$scope module " →
    t2 ≡ t1 ++ name →
    t3 ≡ t2 ++ codes " $end" →
    t4 ≡ t3 ++ 10 ∷ [] →
    t4 ≡ text ++ scope_line name
scope_put text t1 t2 t3 t4 name s1 s2 s3 s4 =
    let p2 = piece_more text (codes "$scope module ") t1 t2 (name) s1 s2 in
    let p3 = piece_more text (codes "$scope module " ++ name) t2 t3 (codes " $end") p2 s3 in
    piece_more text (codes "$scope module " ++ name ++ codes " $end") t3 t4 (10 ∷ []) p3 s4

-- the pieces of a variable's line
pub variable_put : (text t1 t2 t3 t4 t5 t6 t7 t8 t9 t10 t11 : List ℕ) (name : List ℕ) (v : Variable) → t1 ≡ text ++ codes "$var " →
    t2 ≡ t1 ++ kind_word v.kind →
    t3 ≡ t2 ++ codes " " →
    t4 ≡ t3 ++ decimal v.length →
    t5 ≡ t4 ++ codes " " →
    t6 ≡ t5 ++ name →
    t7 ≡ t6 ++ codes " " →
    t8 ≡ t7 ++ identifier (after_last (λ c. c == 46) v.name) →
    t9 ≡ t8 ++ bounds_text v.bounds →
    t10 ≡ t9 ++ codes " $end" →
    t11 ≡ t10 ++ 10 ∷ [] →
    t11 ≡ text ++ named_variable_line name v
variable_put text t1 t2 t3 t4 t5 t6 t7 t8 t9 t10 t11 name v s1 s2 s3 s4 s5 s6 s7 s8 s9 s10 s11 =
    let p2 = piece_more text (codes "$var ") t1 t2 (kind_word v.kind) s1 s2 in
    let p3 = piece_more text (codes "$var " ++ kind_word v.kind) t2 t3 (codes " ") p2 s3 in
    let p4 = piece_more text (codes "$var " ++ kind_word v.kind ++ codes " ") t3 t4 (decimal v.length) p3 s4 in
    let p5 = piece_more text (codes "$var " ++ kind_word v.kind ++ codes " " ++ decimal v.length) t4 t5 (codes " ") p4 s5 in
    let p6 = piece_more text (codes "$var " ++ kind_word v.kind ++ codes " " ++ decimal v.length ++ codes " ") t5 t6 (name) p5 s6 in
    let p7 = piece_more text (codes "$var " ++ kind_word v.kind ++ codes " " ++ decimal v.length ++ codes " " ++ name) t6 t7 (codes " ") p6 s7 in
    let p8 = piece_more text (codes "$var " ++ kind_word v.kind ++ codes " " ++ decimal v.length ++ codes " " ++ name ++ codes " ") t7 t8 (identifier (after_last (λ c. c == 46) v.name)) p7 s8 in
    let p9 = piece_more text (codes "$var " ++ kind_word v.kind ++ codes " " ++ decimal v.length ++ codes " " ++ name ++ codes " " ++ identifier (after_last (λ c. c == 46) v.name)) t8 t9 (bounds_text v.bounds) p8 s9 in
    let p10 = piece_more text (codes "$var " ++ kind_word v.kind ++ codes " " ++ decimal v.length ++ codes " " ++ name ++ codes " " ++ identifier (after_last (λ c. c == 46) v.name) ++ bounds_text v.bounds) t9 t10 (codes " $end") p9 s10 in
    piece_more text (codes "$var " ++ kind_word v.kind ++ codes " " ++ decimal v.length ++ codes " " ++ name ++ codes " " ++ identifier (after_last (λ c. c == 46) v.name) ++ bounds_text v.bounds ++ codes " $end") t10 t11 (10 ∷ []) p10 s11

pub precision_put : (text t1 t2 t3 t4 t5 t6 name : List ℕ) (p : Span) → t1 ≡ text ++ codes "$timescale " →
    t2 ≡ t1 ++ decimal (count_number p.count) →
    t3 ≡ t2 ++ codes " " →
    t4 ≡ t3 ++ name →
    name ≡ unit_word p.unit →
    t5 ≡ t4 ++ codes " $end" →
    t6 ≡ t5 ++ 10 ∷ [] →
    t6 ≡ text ++ timescale_line p
precision_put text t1 t2 t3 t4 t5 t6 name p s1 s2 s3 s4 is s5 s6 =
    let p2 = piece_more text (codes "$timescale ") t1 t2 (decimal (count_number p.count)) s1 s2 in
    let p3 = piece_more text (codes "$timescale " ++ decimal (count_number p.count)) t2 t3 (codes " ") p2 s3 in
    let p4 = piece_more text (codes "$timescale " ++ decimal (count_number p.count) ++ codes " ") t3 t4 (unit_word p.unit) p3 (s4 ∙ ap (λ (x : List ℕ). t3 ++ x) is) in
    let p5 = piece_more text (codes "$timescale " ++ decimal (count_number p.count) ++ codes " " ++ unit_word p.unit) t4 t5 (codes " $end") p4 s5 in
    piece_more text (codes "$timescale " ++ decimal (count_number p.count) ++ codes " " ++ unit_word p.unit ++ codes " $end") t5 t6 (10 ∷ []) p5 s6

-- one closing line more
pub closing_more : (text more whole : List ℕ) (count i : ℕ) → i < count → more ≡ text ++ line (codes "$upscope $end") → text ++ closings (count - i) ≡ whole →
    more ++ closings (count - (i + 1)) ≡ whole
closing_more text more whole count i lt step so_far =
    let e : count - i ≡ suc (count - (i + 1)) = omega (arith, lt) in
    ap (λ (x : List ℕ). x ++ closings (count - (i + 1))) step
    ∙ append_assoc text (line (codes "$upscope $end")) (closings (count - (i + 1)))
    ∙ sym (ap (λ (m : ℕ). text ++ closings m) e)
    ∙ so_far

-- the pieces of a scope that is written
pub written_put : (text closed named listed : List ℕ) (around n : ℕ) (mark : Bool) (s : Scope) (own : List Variable) →
    closed ≡ text ++ closings (around - s.depth) → named ≡ closed ++ scope_line s.name →
    listed ≡ named ++ cond mark (variable_lines n own) [] → listed ≡ text ++ scope_text around n mark s own
written_put text closed named listed around n mark s own s1 s2 s3 =
    let p2 = piece_more text (closings (around - s.depth)) closed named (scope_line s.name) s1 s2 in
    piece_more text (closings (around - s.depth) ++ scope_line s.name) named listed (cond mark (variable_lines n own) []) p2 s3

-- one scope's text, and then the others'
pub scope_more : (text listed whole : List ℕ) (around after n : ℕ) (written mark : Bool) (marks : List Bool) (s : Scope) (scopes : List Scope)
    (vs own rest : List Variable) (j m : ℕ) → j ≡ min s.variables (length vs) → m ≡ j → own ≡ take j vs → rest ≡ drop j vs →
    written ≡ is_written mark s marks scopes → after ≡ cond written (suc s.depth) around →
    listed ≡ text ++ cond written (scope_text around n mark s own) [] → text ++ scope_lines around n (mark ∷ marks) (s ∷ scopes) vs ≡ whole →
    listed ++ scope_lines after (n + m) marks scopes rest ≡ whole
scope_more text listed whole around after n written mark marks s scopes vs own rest j m is long own_is rest_is written_is after_is listed_is so_far =
    let own_same : own ≡ take s.variables vs = own_is ∙ ap (λ (i : ℕ). take i vs) is ∙ take_min s.variables vs in
    let by : Bool → List ℕ = λ b. cond b (scope_text around n mark s (take s.variables vs)) []
    ++ scope_lines (cond b (suc s.depth) around) (n + s.variables) marks scopes (drop s.variables vs) in
    let here : List ℕ = cond written (scope_text around n mark s own) [] in
    let later : List ℕ = scope_lines after (n + m) marks scopes rest in
    let later_same : later ≡ scope_lines (cond written (suc s.depth) around) (n + s.variables) marks scopes (drop s.variables vs) =
    ap (λ (i : ℕ). scope_lines i (n + m) marks scopes rest) after_is
    ∙ ap (λ (i : ℕ). scope_lines (cond written (suc s.depth) around) (n + i) marks scopes rest) long
    ∙ ap (scope_lines (cond written (suc s.depth) around) (n + j) marks scopes) rest_is
    ∙ same_lines (cond written (suc s.depth) around) n s.variables j marks scopes vs is in
    ap (λ (x : List ℕ). x ++ later) listed_is
    ∙ append_assoc text here later
    ∙ ap (λ (x : List ℕ). text ++ (here ++ x)) later_same
    ∙ ap (λ (x : List Variable). text ++ (cond written (scope_text around n mark s x) []
    ++ scope_lines (cond written (suc s.depth) around) (n + s.variables) marks scopes (drop s.variables vs))) own_same
    ∙ ap (λ (b : Bool). text ++ by b) written_is
    ∙ so_far

-- one variable's line, and then the others'
pub name_more : (name after : List ℕ) (n i : ℕ) → name ≡ code (n + i) → after ≡ following name → after ≡ code (n + (i + 1))
name_more name after n i is step =
    let next : n + (i + 1) ≡ suc (n + i) = omega arith in
    step ∙ ap following is ∙ sym (ap code next)

pub variable_more : (text name more whole : List ℕ) (n i : ℕ) (v : Variable) (vs : List Variable) → name ≡ code (n + i) →
    more ≡ text ++ named_variable_line name v → text ++ variable_lines (n + i) (v ∷ vs) ≡ whole → more ++ variable_lines (n + (i + 1)) vs ≡ whole
variable_more text name more whole n i v vs is step so_far =
    let next : n + (i + 1) ≡ suc (n + i) = omega arith in
    let after : List ℕ = variable_lines (suc (n + i)) vs in
    ap (λ (m : ℕ). more ++ variable_lines m vs) next
    ∙ ap (λ (x : List ℕ). x ++ after) step
    ∙ ap (λ (x : List ℕ). (text ++ named_variable_line x v) ++ after) is
    ∙ append_assoc text (named_variable_line (code (n + i)) v) after
    ∙ so_far
