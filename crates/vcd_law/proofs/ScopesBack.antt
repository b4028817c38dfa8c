-- What the scopes of a header declare.
use Rattle.std.proofs.Common.{◌≡◌, ℕ, zero, suc, ◌+◌, ◌-◌, ◌<◌, ◌≤◌, Bool, true, false, ◌&&◌, ◌||◌, if◌then◌else◌, List, [], ◌∷◌, ◌++◌, length, take, drop, ◌⊎◌, refl, ap, sym, ◌∙◌, subst, inl, inr, arith, append_assoc, append-nil, length-append}
use Rattle.std.specs.Prelude.{nat_lt}
use Rattle.std.proofs.lemmas.Bool.{cases_Bool, cases_lt, le-ltb, lt-ltb}
use Rattle.std.proofs.lemmas.List.{take-append-drop}
use Rattle.basis.proofs.Bools.{or_left, or_right}
use Rattle.vdesign.specs.Design.{Variable, Scope}
use Rattle.vcd_read.specs.Words.{Text}
use Rattle.vcd_read.specs.Declarations as declarations
use Rattle.vcd_text.specs.DumpText.{closings, is_any_below, is_written, scope_line, scope_lines, scope_text, variable_lines}
use Rattle.vcd_law.specs.Headers.{AreNamed, AreNested, IsWord, all_seen, inmost, inner, round_it, seen_in}
use Rattle.vcd_law.proofs.LinesBack.{Leads, lead_closings, lead_none, lead_scope, lead_then, lead_variables}

-- ---- which scopes are written

after_or : (a b c : Bool) → a ≡ true → (a && (b || c)) ≡ false → (b || c) ≡ false
after_or a b c first none = sym (ap (λ (t : Bool). t && (b || c)) first) ∙ none

-- where none is written below a depth, none is below a greater one
below_more : (low high : ℕ) (marks : List Bool) (scopes : List Scope) → low ≤ high → is_any_below low marks scopes ≡ false → is_any_below high marks scopes ≡ false
below_more low high marks [] le none = refl
below_more low high [] (s ∷ scopes) le none = refl
below_more low high (mark ∷ marks) (s ∷ scopes) le none = elim (cases_lt high s.depth) [
  | inl deep ↦ (let rest : (mark || is_any_below low marks scopes) ≡ false =
      after_or (nat_lt low s.depth) mark (is_any_below low marks scopes) (lt-ltb low s.depth (omega arith)) none in
      (λ i. lt-ltb high s.depth deep i && (or_left mark (is_any_below low marks scopes) rest i
      || below_more low high marks scopes le (or_right mark (is_any_below low marks scopes) rest) i)))
  | inr low_down ↦ ap (λ (t : Bool). t && (mark || is_any_below high marks scopes)) (le-ltb high s.depth low_down)
]

-- ---- lists of open scopes

drop_front : (us ws : List Text) (k : ℕ) → drop (length us + k) (us ++ ws) ≡ drop k ws
drop_front [] ws k = let same : 0 + k ≡ k = omega arith in ap (λ (n : ℕ). drop n ws) same
drop_front (u ∷ us) ws k = let same : suc (length us) + k ≡ suc (length us + k) = omega arith in ap (λ (n : ℕ). drop n (u ∷ us ++ ws)) same ∙ drop_front us ws k

drop_part : (us ws : List Text) (k : ℕ) → k ≤ length us → drop k (us ++ ws) ≡ drop k us ++ ws
drop_part us ws zero le = refl
drop_part [] ws (suc k) le = absurd (omega arith)
drop_part (u ∷ us) ws (suc k) le = drop_part us ws k (omega arith)

length_drop : (ws : List Text) (k : ℕ) → k ≤ length ws → length (drop k ws) + k ≡ length ws
length_drop ws zero le = omega arith
length_drop [] (suc k) le = absurd (omega arith)
length_drop (w ∷ ws) (suc k) le = let more : length (drop k ws) + k ≡ length ws = length_drop ws k (omega arith) in omega arith

-- Of the scopes that are open in the design and of those that are open in the text the outer ones are the same; below them none is written
-- in the design until one of these ends.
record Both (design text : List Text) (marks : List Bool) (scopes : List Scope) : Type 0 where
  unwritten : List Text
  shut : List Text
  common : List Text
  in_design : design ≡ unwritten ++ common
  in_text : text ≡ shut ++ common
  quiet : (unwritten ≡ []) ⊎ (is_any_below (length common) marks scopes ≡ false)

abbrev selected : Bool → ℕ → List Variable → List declarations.Variable
selected mark n vs = if mark then all_seen n vs else []

mark_lead : (mark : Bool) (prefixes : List Text) (n : ℕ) (vs : List Variable) → AreNamed (inmost prefixes) vs →
    Leads prefixes prefixes (if mark then variable_lines n vs else []) (selected mark n vs)
mark_lead true prefixes n vs named = lead_variables prefixes n vs named
mark_lead false prefixes n vs named = lead_none prefixes

-- a scope that is written, in the scopes round it
scope_lead : (shut left : List Text) (n : ℕ) (mark : Bool) (s : Scope) (vs : List Variable) → length left ≡ s.depth → IsWord s.name →
    AreNamed (inner left s.name) vs → Leads (shut ++ left) (inner left s.name ∷ left) (scope_text (length (shut ++ left)) n mark s vs) (selected mark n vs)
scope_lead shut left n mark s vs deep word named =
    let now : List Text = inner left s.name ∷ left in
    let count : length (shut ++ left) - s.depth ≡ length shut = omega (arith, length-append shut left) in
    subst (λ (k : ℕ). Leads (shut ++ left) now (closings k ++ scope_line s.name ++ (if mark then variable_lines n vs else [])) (selected mark n vs)) (sym count)
    (lead_then (shut ++ left) now now (closings (length shut) ++ scope_line s.name) (if mark then variable_lines n vs else []) [] (selected mark n vs)
    (lead_then (shut ++ left) left now (closings (length shut)) (scope_line s.name) [] [] (lead_closings shut left) (lead_scope left s.name word))
    (mark_lead mark now n vs named))

abbrev Goal : List Text → Bool → ℕ → Bool → Scope → List Bool → List Scope → List Variable → Type 0
Goal text written n mark s marks scopes variables =
    Leads text [] ((if written then scope_text (length text) n mark s (take s.variables variables) else [])
    ++ scope_lines (if written then suc s.depth else length text) (n + s.variables) marks scopes (drop s.variables variables))
    (selected mark n (take s.variables variables) ++ seen_in (n + s.variables) marks scopes (drop s.variables variables))

all_closed : (text : List Text) → Leads text [] (closings (length text)) []
all_closed text = subst (λ (prefixes : List Text). Leads prefixes [] (closings (length text)) []) (append-nil text) (lead_closings text [])

-- one that isn't: its variables aren't, either
skip_lead : (text : List Text) (n : ℕ) (mark : Bool) (s : Scope) (marks : List Bool) (scopes : List Scope) (variables : List Variable) → mark ≡ false →
    Leads text [] (scope_lines (length text) (n + s.variables) marks scopes (drop s.variables variables)) (seen_in (n + s.variables) marks scopes (drop s.variables variables)) →
    Goal text false n mark s marks scopes variables
skip_lead text n mark s marks scopes variables none rest =
    subst (λ (b : Bool). Leads text [] (scope_lines (length text) (n + s.variables) marks scopes (drop s.variables variables))
    (selected b n (take s.variables variables) ++ seen_in (n + s.variables) marks scopes (drop s.variables variables))) (sym none) rest

-- the scopes round one that is no deeper than those in common
module _ (design text : List Text) (mark : Bool) (marks : List Bool) (s : Scope) (scopes : List Scope) (b : Both design text (mark ∷ marks) (s ∷ scopes))
    (near : s.depth ≤ length b.common) where
  abbrev left : List Text
  left = drop (length b.common - s.depth) b.common

  abbrev more_shut : List Text
  more_shut = b.shut ++ take (length b.common - s.depth) b.common

  left_length : length left ≡ s.depth
  left_length = let all : length left + (length b.common - s.depth) ≡ length b.common = length_drop b.common (length b.common - s.depth) (omega arith) in omega arith

  left_round : round_it design s ≡ left
  left_round =
      let long : length design ≡ length b.unwritten + length b.common = ap length b.in_design ∙ length-append b.unwritten b.common in
      let count : length design - s.depth ≡ length b.unwritten + (length b.common - s.depth) = omega (arith, near) in
      ap (λ (k : ℕ). drop k design) count ∙ ap (drop (length b.unwritten + (length b.common - s.depth))) b.in_design
      ∙ drop_front b.unwritten b.common (length b.common - s.depth)

  text_is : text ≡ more_shut ++ left
  text_is =
      b.in_text ∙ ap (λ (list : List Text). b.shut ++ list) (sym (take-append-drop (length b.common - s.depth) b.common))
      ∙ sym (append_assoc b.shut (take (length b.common - s.depth) b.common) left)

-- nothing is open in the design below those in common
deep_left : (design text : List Text) (mark : Bool) (marks : List Bool) (s : Scope) (scopes : List Scope) (b : Both design text (mark ∷ marks) (s ∷ scopes)) →
    s.depth ≤ length design → length b.common < s.depth → is_any_below (length b.common) (mark ∷ marks) (s ∷ scopes) ≡ false
deep_left design text mark marks s scopes b within deep = elim b.quiet [
  | inl none ↦ (let long : length design ≡ length b.common = ap length (b.in_design ∙ ap (λ (us : List Text). us ++ b.common) none) in absurd (omega arith))
  | inr quiet ↦ quiet
]

scopes_lead : (design text : List Text) (n : ℕ) (marks : List Bool) (scopes : List Scope) (variables : List Variable) → Both design text marks scopes →
    AreNested design scopes variables → Leads text [] (scope_lines (length text) n marks scopes variables) (seen_in n marks scopes variables)
scopes_lead design text n marks [] variables b nested = all_closed text
scopes_lead design text n [] (s ∷ scopes) variables b nested = all_closed text
scopes_lead design text n (mark ∷ marks) (s ∷ scopes) variables b nested =
    let vs : List Variable = take s.variables variables in
    let rest : List Variable = drop s.variables variables in
    let prefixes : List Text = inner (round_it design s) s.name ∷ round_it design s in
    elim (cases_lt (length b.common) s.depth) [
      | inl deep ↦ (
          let quiet : (mark || is_any_below (length b.common) marks scopes) ≡ false =
          after_or (nat_lt (length b.common) s.depth) mark (is_any_below (length b.common) marks scopes) (lt-ltb (length b.common) s.depth deep)
          (deep_left design text mark marks s scopes b nested.0 deep) in
          let no_mark : mark ≡ false = or_left mark (is_any_below (length b.common) marks scopes) quiet in
          let below : is_any_below (length b.common) marks scopes ≡ false = or_right mark (is_any_below (length b.common) marks scopes) quiet in
          let unwritten : is_written mark s marks scopes ≡ false =
          (λ i. no_mark i || below_more (length b.common) s.depth marks scopes (omega arith) below i) in
          let long : length design ≡ length b.unwritten + length b.common = ap length b.in_design ∙ length-append b.unwritten b.common in
          let part : round_it design s ≡ drop (length design - s.depth) b.unwritten ++ b.common =
          ap (drop (length design - s.depth)) b.in_design ∙ drop_part b.unwritten b.common (length design - s.depth) (omega arith) in
          subst (λ (w : Bool). Goal text w n mark s marks scopes variables) (sym unwritten)
          (skip_lead text n mark s marks scopes variables no_mark
          (scopes_lead prefixes text (n + s.variables) marks scopes rest
          (record {
            unwritten = inner (round_it design s) s.name ∷ drop (length design - s.depth) b.unwritten;
            shut = b.shut;
            common = b.common;
            in_design = ap (λ (list : List Text). inner (round_it design s) s.name ∷ list) part;
            in_text = b.in_text;
            quiet = inr below;
          }) nested.3)))
      | inr near ↦ (
          let here : List Text = left design text mark marks s scopes b near in
          let gone : List Text = more_shut design text mark marks s scopes b near in
          let long : length here ≡ s.depth = left_length design text mark marks s scopes b near in
          let round : round_it design s ≡ here = left_round design text mark marks s scopes b near in
          let open_now : text ≡ gone ++ here = text_is design text mark marks s scopes b near in
          elim (cases_Bool (is_written mark s marks scopes)) [
            | inl written ↦ (
                let now : List Text = inner here s.name ∷ here in
                let count : length now ≡ suc s.depth = ap suc long in
                let first : Leads text now (scope_text (length text) n mark s vs) (selected mark n vs) =
                subst (λ (list : List Text). Leads list now (scope_text (length list) n mark s vs) (selected mark n vs)) (sym open_now)
                (scope_lead gone here n mark s vs long nested.1 (subst (λ (list : List Text). AreNamed (inner list s.name) vs) round nested.2)) in
                subst (λ (w : Bool). Goal text w n mark s marks scopes variables) (sym written)
                (subst (λ (k : ℕ). Leads text [] (scope_text (length text) n mark s vs ++ scope_lines k (n + s.variables) marks scopes rest)
                (selected mark n vs ++ seen_in (n + s.variables) marks scopes rest)) count
                (lead_then text now [] (scope_text (length text) n mark s vs) (scope_lines (length now) (n + s.variables) marks scopes rest) (selected mark n vs)
                (seen_in (n + s.variables) marks scopes rest) first
                (scopes_lead prefixes now (n + s.variables) marks scopes rest
                (record {
                  unwritten = [];
                  shut = [];
                  common = now;
                  in_design = ap (λ (list : List Text). inner list s.name ∷ list) round;
                  in_text = refl;
                  quiet = inl refl;
                }) nested.3))))
            | inr unwritten ↦ (
                subst (λ (w : Bool). Goal text w n mark s marks scopes variables) (sym unwritten)
                (skip_lead text n mark s marks scopes variables (or_left mark (is_any_below s.depth marks scopes) unwritten)
                (scopes_lead prefixes text (n + s.variables) marks scopes rest
                (record {
                  unwritten = inner (round_it design s) s.name ∷ [];
                  shut = gone;
                  common = here;
                  in_design = ap (λ (list : List Text). inner (round_it design s) s.name ∷ list) round;
                  in_text = open_now;
                  quiet = inr (ap (λ (k : ℕ). is_any_below k marks scopes) long ∙ or_right mark (is_any_below s.depth marks scopes) unwritten);
                }) nested.3)))
          ])
    ]

pub all_scopes_lead : (marks : List Bool) (scopes : List Scope) (variables : List Variable) → AreNested [] scopes variables →
    Leads [] [] (scope_lines 0 0 marks scopes variables) (seen_in 0 marks scopes variables)
all_scopes_lead marks scopes variables nested =
    scopes_lead [] [] 0 marks scopes variables (record { unwritten = []; shut = []; common = []; in_design = refl; in_text = refl; quiet = inl refl }) nested
