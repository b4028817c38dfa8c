-- The marks in which runs have ended, among all.
use Rattle.std.proofs.Common.{◌≡◌, ◌++◌, ◌∷◌, ℕ, List, [], Option, Some, None, is_some, sym, ap, ◌∙◌, subst, inl, inr, append-nil, append_assoc}
use Rattle.std.specs.List.{Contains}
use Rattle.std.proofs.lemmas.List.{map-append}
use Rattle.std.proofs.lemmas.List.Elements.{Contains-append_left, Contains-append_right, Contains-append_cases, Contains-push_cases}
use Rattle.basis.proofs.Lists.{at_contains}
use Rattle.sched_core.specs.declared.end.End.{End}
use Rattle.explore.specs.Ranked.{pairs_of}
use Rattle.explore.specs.declared.rank_marks.FoundMark.{FoundMark}
use Rattle.vmodel.specs.State.{State}
use Rattle.vmodel.specs.Run.{Setting}
use Rattle.vmachine.specs.declared.machine_state.MachineState.{MachineState}
use Rattle.vmachine.specs.Machines.{Stands}
use Rattle.vmachine.specs.Reads.{end_in}
use Rattle.racebook.specs.Inner.{AreEndsOf, GoesOn, GoesOnByEnd, HasEnded}

pub ends_of_both : (setting : Setting) (marks more ends others : List (MachineState × List (ℕ × ℕ))) → AreEndsOf setting marks ends → AreEndsOf setting more others →
    AreEndsOf setting (marks ++ more) (ends ++ others)
ends_of_both setting marks more ends others first second = record {
  each = λ end has. elim (Contains-append_cases ends others end has) [
    | inl a ↦ (let f = first.each end a in (Contains-append_left marks more end f.0, f.1))
    | inr b ↦ (let s = second.each end b in (Contains-append_right marks more end s.0, s.1))
  ];
  whole = λ found has. elim (Contains-append_cases marks more found has) [
    | inl a ↦ elim (first.whole found a) [
      | inl kept ↦ inl (Contains-append_left ends others found kept)
      | inr on ↦ inr on
    ]
    | inr b ↦ elim (second.whole found b) [
      | inl kept ↦ inl (Contains-append_right ends others found kept)
      | inr on ↦ inr on
    ]
  ];
}

pub no_ends : (setting : Setting) → AreEndsOf setting [] []
no_ends setting = record { each = λ end has. absurd (let p = at_contains [] end has in let q = p.1 in cc); whole = λ found has. absurd (let p = at_contains [] found has in let q = p.1 in cc) }

-- ---- what an answer about the end tells

-- the answer is that of each state of a run for which the machine's stands
abbrev pub TellsEnd : Setting → MachineState → Option End → Type 0
TellsEnd setting s answer = (t : State) → Stands setting s t → answer ≡ end_in t

pub has_ended : (setting : Setting) (s : MachineState) (answer : Option End) (end : End) → TellsEnd setting s answer → answer ≡ Some end → HasEnded setting s
has_ended setting s answer end tells some = λ t st. ap is_some (sym (tells t st) ∙ some)

pub goes_on : (setting : Setting) (s : MachineState) (answer : Option End) → TellsEnd setting s answer → answer ≡ None → GoesOn setting s
goes_on setting s answer tells none = λ t st. sym (tells t st) ∙ none

-- ---- one mark after another

alone : (end found : MachineState × List (ℕ × ℕ)) → Contains (end ∷ []) found → end ≡ found
alone end found has = elim (Contains-push_cases [] end found has) [
  | inl none ↦ absurd (let p = at_contains [] found none in let q = p.1 in cc)
  | inr is ↦ is
]

one_end : (setting : Setting) (end : MachineState × List (ℕ × ℕ)) → HasEnded setting end.0 → AreEndsOf setting (end ∷ []) (end ∷ [])
one_end setting end ended = record {
  each = λ found has. (has, subst (λ (x : MachineState × List (ℕ × ℕ)). HasEnded setting x.0) (alone end found has) ended);
  whole = λ found has. inl has;
}

one_on : (setting : Setting) (end : MachineState × List (ℕ × ℕ)) → GoesOn setting end.0 → AreEndsOf setting (end ∷ []) []
one_on setting end on = record {
  each = λ found has. absurd (let p = at_contains [] found has in let q = p.1 in cc);
  whole = λ found has. inr (subst (λ (x : MachineState × List (ℕ × ℕ)). GoesOn setting x.0) (alone end found has) on);
}

-- of the marks that were looked at, those in front of what is left
pub record EndsSoFar (setting : Setting) (all left ends : List (FoundMark MachineState)) : Type 0 where
  pub looked_at : List (FoundMark MachineState)
  pub whole : looked_at ++ left ≡ all
  pub are : AreEndsOf setting (pairs_of looked_at) (pairs_of ends)

pub ends_start : (setting : Setting) (all left ends : List (FoundMark MachineState)) → left ≡ all → ends ≡ [] → EndsSoFar setting all left ends
ends_start setting all left ends is none = record {
  looked_at = [];
  whole = is;
  are = subst (λ (l : List (FoundMark MachineState)). AreEndsOf setting [] (pairs_of l)) (sym none) (no_ends setting);
}

abbrev pair : FoundMark MachineState → MachineState × List (ℕ × ℕ)
pair found = (found.state, found.log)

module _ (setting : Setting) (all left ends rest new : List (FoundMark MachineState)) (found : FoundMark MachineState) (so_far : EndsSoFar setting all left ends) (first : left ≡ found ∷ rest) where
  moved : (so_far.looked_at ++ found ∷ []) ++ rest ≡ all
  moved = append_assoc so_far.looked_at (found ∷ []) rest ∙ ap (λ l. so_far.looked_at ++ l) (sym first) ∙ so_far.whole

  ends_kept : HasEnded setting found.state → new ≡ ends ++ found ∷ [] → EndsSoFar setting all rest new
  ends_kept ended is =
      let both = ends_of_both setting (pairs_of so_far.looked_at) (pair found ∷ []) (pairs_of ends) (pair found ∷ []) so_far.are (one_end setting (pair found) ended) in
      let e : pairs_of (so_far.looked_at ++ found ∷ []) ≡ pairs_of so_far.looked_at ++ pair found ∷ [] = map-append pair so_far.looked_at (found ∷ []) in
      let f : pairs_of new ≡ pairs_of ends ++ pair found ∷ [] = ap pairs_of is ∙ map-append pair ends (found ∷ []) in
      record {
        looked_at = so_far.looked_at ++ found ∷ [];
        whole = moved;
        are = subst (λ (m : List (MachineState × List (ℕ × ℕ))). AreEndsOf setting m (pairs_of new)) (sym e)
            (subst (λ (m : List (MachineState × List (ℕ × ℕ))). AreEndsOf setting (pairs_of so_far.looked_at ++ pair found ∷ []) m) (sym f) both);
      }

  ends_passed : GoesOn setting found.state → new ≡ ends → EndsSoFar setting all rest new
  ends_passed on is =
      let both = ends_of_both setting (pairs_of so_far.looked_at) (pair found ∷ []) (pairs_of ends) [] so_far.are (one_on setting (pair found) on) in
      let e : pairs_of (so_far.looked_at ++ found ∷ []) ≡ pairs_of so_far.looked_at ++ pair found ∷ [] = map-append pair so_far.looked_at (found ∷ []) in
      let f : pairs_of new ≡ pairs_of ends ++ [] = ap pairs_of is ∙ sym (append-nil (pairs_of ends)) in
      record {
        looked_at = so_far.looked_at ++ found ∷ [];
        whole = moved;
        are = subst (λ (m : List (MachineState × List (ℕ × ℕ))). AreEndsOf setting m (pairs_of new)) (sym e)
            (subst (λ (m : List (MachineState × List (ℕ × ℕ))). AreEndsOf setting (pairs_of so_far.looked_at ++ pair found ∷ []) m) (sym f) both);
      }

pub ends_on : (setting : Setting) (all left ends rest new : List (FoundMark MachineState)) (found : FoundMark MachineState) → EndsSoFar setting all left ends → left ≡ found ∷ rest → GoesOnByEnd setting found ends new → EndsSoFar setting all rest new
ends_on setting all left ends rest new found so_far first (inl (is, on)) = ends_passed setting all left ends rest new found so_far first on is
ends_on setting all left ends rest new found so_far first (inr (is, ended)) = ends_kept setting all left ends rest new found so_far first ended is

pub ends_done : (setting : Setting) (all left ends : List (FoundMark MachineState)) → EndsSoFar setting all left ends → left ≡ [] → AreEndsOf setting (pairs_of all) (pairs_of ends)
ends_done setting all left ends so_far none =
    let e : so_far.looked_at ≡ all = sym (append-nil so_far.looked_at) ∙ ap (λ l. so_far.looked_at ++ l) (sym none) ∙ so_far.whole in
    subst (λ (l : List (FoundMark MachineState)). AreEndsOf setting (pairs_of l) (pairs_of ends)) e so_far.are
