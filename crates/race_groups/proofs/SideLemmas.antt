-- The logs of the sides of a difference.
use Rattle.std.proofs.Common.{◌≡◌, ◌≢◌, ℕ, ◌+◌, ◌<◌, ◌≤◌, List, [], length, map, slice_get, None, Some, sym, ap, ◌∙◌, subst, inl, inr}
use Rattle.std.proofs.Common.{arith}
use Rattle.std.specs.Prelude.{option_map}
use Rattle.std.proofs.lemmas.Bool.{cases_lt}
use Rattle.std.proofs.lemmas.Option.{same_Some, slice_get-map}
use Rattle.basis.proofs.Lists.{at_contains, of_mapped, place_within}
use Rattle.explore.specs.Ranked.{pairs_of}
use Rattle.explore.specs.declared.rank_marks.FoundMark.{FoundMark}
use Rattle.vmachine.specs.declared.machine_state.MachineState.{MachineState}
use Rattle.racebook.proofs.ListLemmas.{contains_at}
use Rattle.race_groups.specs.declared.group.Difference.{Difference}
use Rattle.race_groups.specs.Found.{IsLogOf, logs_of}
use Rattle.race_groups.specs.Inner.{AreDefault, IsDefault, IsDeparted, IsLogOfEnds}

-- the log of a side that is there
pub side_at : {A : Type 0} (f : A → List (ℕ × ℕ)) (sides : List A) (i : ℕ) (side : A) → slice_get sides i ≡ Some side →
    slice_get (map f sides) i ≡ Some (f side)
side_at f sides i side at = slice_get-map f sides i ∙ ap (option_map f) at

pub no_side : {A : Type 0} (f : A → List (ℕ × ℕ)) (sides : List A) (i : ℕ) → slice_get sides i ≡ None → IsDefault (map f sides) i
no_side f sides i none log at = absurd (let e = sym at ∙ slice_get-map f sides i ∙ ap (option_map f) none in cc)

pub default_side : {A : Type 0} (f : A → List (ℕ × ℕ)) (sides : List A) (i : ℕ) (side : A) → slice_get sides i ≡ Some side → f side ≡ [] →
    IsDefault (map f sides) i
default_side f sides i side at none log is = same_Some log (f side) (sym is ∙ side_at f sides i side at) ∙ none

-- a side's log that names a departure is one of the difference
pub departed_log : (d : Difference) (i : ℕ) (log : List (ℕ × ℕ)) → IsDeparted (logs_of d) i log → IsLogOf d log
departed_log d i log is = inl (contains_at (logs_of d) i log is.0, is.1)

-- where no side's does, none is
pub no_departed_log : (d : Difference) (count : ℕ) (log : List (ℕ × ℕ)) → length (logs_of d) ≤ count → AreDefault (logs_of d) count →
    log ≡ [] → IsLogOf d log
no_departed_log d count log whole none is = inr (
  is,
  λ other has.
      (let p = at_contains (logs_of d) other has in
      let lt = place_within (logs_of d) p.0 other p.1 in
      none p.0 (omega (arith, whole, lt)) other p.1),
)

pub none_looked_at : (logs : List (List (ℕ × ℕ))) (count : ℕ) → count ≡ 0 → AreDefault logs count
none_looked_at logs count none side lt = absurd (omega (arith, none, lt))

pub one_more : (logs : List (List (ℕ × ℕ))) (count : ℕ) → AreDefault logs count → IsDefault logs count → AreDefault logs (count + 1)
one_more logs count before here side lt = elim (cases_lt side count) [
  | inl there ↦ before side there
  | inr last ↦ subst (IsDefault logs) (let e : count ≡ side = omega (arith, lt, last) in e) here
]

-- ---- ends

pub ends_log : (ends : List (FoundMark MachineState)) (i : ℕ) (found : FoundMark MachineState) (log : List (ℕ × ℕ)) →
    slice_get ends i ≡ Some found → found.log ≢ [] → log ≡ found.log → IsLogOfEnds (pairs_of ends) log
ends_log ends i found log at some is =
    let pair : MachineState × List (ℕ × ℕ) = (found.state, found.log) in
    let there : slice_get (pairs_of ends) i ≡ Some pair = slice_get-map (λ (f : FoundMark MachineState). (f.state, f.log)) ends i
    ∙ ap (option_map (λ (f : FoundMark MachineState). (f.state, f.log))) at in
    let logs = map (λ (e : MachineState × List (ℕ × ℕ)). e.1) (pairs_of ends) in
    subst (IsLogOfEnds (pairs_of ends)) (sym is)
    (inl (contains_at logs i found.log (side_at (λ (e : MachineState × List (ℕ × ℕ)). e.1) (pairs_of ends) i pair there), some))

pub no_ends_log : (ends : List (FoundMark MachineState)) (n : ℕ) (log : List (ℕ × ℕ)) → length ends ≤ n →
    ((k : ℕ) (found : FoundMark MachineState) → k < n → slice_get ends k ≡ Some found → found.log ≡ []) → log ≡ [] →
    IsLogOfEnds (pairs_of ends) log
no_ends_log ends n log whole none is =
    let logs = map (λ (e : MachineState × List (ℕ × ℕ)). e.1) (pairs_of ends) in
    inr (
      is,
      λ other has.
          (let p = at_contains logs other has in
          let m = of_mapped (λ (e : MachineState × List (ℕ × ℕ)). e.1) (pairs_of ends) p.0 other p.1 in
          let f = of_mapped (λ (g : FoundMark MachineState). (g.state, g.log)) ends p.0 m.0 m.1 in
          let lt = place_within ends p.0 f.0 f.1 in
          sym m.2 ∙ ap (λ (e : MachineState × List (ℕ × ℕ)). e.1) (sym f.2) ∙ none p.0 f.0 (omega (arith, whole, lt)) f.1),
    )

pub one_more_end : (ends : List (FoundMark MachineState)) (i : ℕ) (item : FoundMark MachineState) → slice_get ends i ≡ Some item →
    ((k : ℕ) (found : FoundMark MachineState) → k < i → slice_get ends k ≡ Some found → found.log ≡ []) → item.log ≡ [] →
    (k : ℕ) (found : FoundMark MachineState) → k < i + 1 → slice_get ends k ≡ Some found → found.log ≡ []
one_more_end ends i item at before none k found lt at' = elim (cases_lt k i) [
  | inl there ↦ before k found there at'
  | inr last ↦
      let here : k ≡ i = omega (arith, lt, last) in
      ap (λ (f : FoundMark MachineState). f.log) (same_Some found item (sym at' ∙ ap (slice_get ends) here ∙ at)) ∙ none
]
