-- A dump is read back.
use Rattle.std.proofs.Common.{◌≡◌, ℕ, zero, suc, ◌+◌, ◌<◌, ◌^◌, Bool, true, false, if◌then◌else◌, List, [], ◌∷◌, ◌++◌, Some, None, length, take, drop, replicate, refl, ap, sym, ◌∙◌, subst, arith}
use Rattle.vdesign.specs.Design.{Variable, Scope, Design}
use Rattle.vmodel.specs.History.{History}
use Rattle.vcd_read.specs.Words.{words_of}
use Rattle.vcd_read.specs.Declarations.{Declares}
use Rattle.vcd_read.specs.Declarations as declarations
use Rattle.vcd_text.specs.DumpText.{DumpSlot, body, dump_of, dump_slots, nonempty_pieces, pieces, scope_marks, slots_after, spread, variable_marks}
use Rattle.vcd_law.specs.Headers.{AreNested, all_seen, variable_seen, seen_in}
use Rattle.vcd_law.specs.ReadBack.{HaveValues, RiseTo, body_read}
use Rattle.vcd_law.specs.WholeDumps.{IsReadBack, seen_marked}
use Rattle.vcd_law.proofs.HeaderBack.{header_told}

none_marked : (n : ℕ) (marks : List Bool) → seen_marked n marks [] ≡ []
none_marked n marks = refl

unmarked : (n : ℕ) (vs : List Variable) → seen_marked n [] vs ≡ []
unmarked n [] = refl
unmarked n (v ∷ vs) = refl

-- the variables of the first scope, and those behind them
marked_front : (mark : Bool) (count n : ℕ) (marks : List Bool) (vs : List Variable) →
    seen_marked n (replicate count mark ++ marks) vs
    ≡ (if mark then all_seen n (take count vs) else []) ++ seen_marked (n + count) marks (drop count vs)
marked_front true zero n marks vs = let same : n ≡ n + 0 = omega arith in ap (λ (k : ℕ). seen_marked k marks vs) same
marked_front false zero n marks vs = let same : n ≡ n + 0 = omega arith in ap (λ (k : ℕ). seen_marked k marks vs) same
marked_front true (suc count) n marks [] = sym (none_marked (n + suc count) marks)
marked_front false (suc count) n marks [] = sym (none_marked (n + suc count) marks)
marked_front true (suc count) n marks (v ∷ vs) =
    let same : suc n + count ≡ n + suc count = omega arith in
    ap (λ (list : List declarations.Variable). variable_seen n v ∷ list) (marked_front true count (suc n) marks vs)
    ∙ ap (λ (k : ℕ). variable_seen n v ∷ (all_seen (suc n) (take count vs) ++ seen_marked k marks (drop count vs))) same
marked_front false (suc count) n marks (v ∷ vs) =
    let same : suc n + count ≡ n + suc count = omega arith in
    marked_front false count (suc n) marks vs ∙ ap (λ (k : ℕ). seen_marked k marks (drop count vs)) same

seen_spread : (n : ℕ) (marks : List Bool) (scopes : List Scope) (vs : List Variable) → seen_in n marks scopes vs ≡ seen_marked n (spread marks scopes) vs
seen_spread n marks [] vs = sym (unmarked n vs)
seen_spread n [] (s ∷ scopes) vs = sym (unmarked n vs)
seen_spread n (mark ∷ marks) (s ∷ scopes) vs =
    ap (λ (list : List declarations.Variable). (if mark then all_seen n (take s.variables vs) else []) ++ list) (seen_spread (n + s.variables) marks scopes (drop s.variables vs))
    ∙ sym (marked_front mark s.variables n (spread marks scopes) vs)

pub whole_told : body_read → (design : Design) (history : History) (first : DumpSlot) (later : List DumpSlot) →
    dump_slots (slots_after [] history.items) ≡ first ∷ later → AreNested [] design.scopes design.variables →
    RiseTo first.time later history.end.time → history.end.time < 2 ^ 64 → HaveValues (length first.values) (first ∷ later) →
    IsReadBack design history first later
whole_told read design history first later slots nested rise small have =
    let marks : List Bool = variable_marks design first.commands in
    let text : List ℕ = body (nonempty_pieces (pieces marks (first ∷ later))) history.end.time in
    let head = header_told design (scope_marks design first.commands) nested in
    let told = read marks first later history.end.time rise small have in (
      head.0,
      words_of text,
      told.0,
      ap (λ (list : List DumpSlot). words_of (dump_of design list history.end.time)) slots ∙ head.1 text,
      subst (λ (list : List declarations.Variable). Declares None [] [] head.0 (Some design.scale.precision) list)
          (seen_spread 0 (scope_marks design first.commands) design.scopes design.variables) head.2,
      told.1,
      told.2,
      told.3,
    )
