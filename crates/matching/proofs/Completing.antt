-- Each explained run goes on from one that was explained up to a time before, by the next slot or none.
use Rattle.std.proofs.Common.{◌≡◌, ℕ, ◌+◌, ◌-◌, ◌<◌, ◌≤◌, zero, suc, Bool, true, false, List, length, inl, inr, ◌⊎◌, arith, ap, refl, sym}
use Rattle.std.proofs.Common.{◌∙◌, subst}
use Rattle.std.proofs.lemmas.Bool.{cases_lt}
use Rattle.sched_core.specs.Ranks.{IsRanked}
use Rattle.statebook.proofs.FrontierLemmas.{rank_rises}
use Rattle.sched_core.specs.Rules.{Rules, IsLawful, stands, choice_at, IsRun, NamesBelow}
use Rattle.matching.specs.Explained.{EndsSlots, IsAtEnd, IsExplained, NoEndWithin}
use Rattle.matching.specs.Inner.Slots.{EndsSlot}
use Rattle.matching.proofs.JoinedLogs.{between, between_choice, between_length, between_names, both_within, front_within}
use Rattle.matching.proofs.Segments.{ChooseAlike, run_alike, run_front, stands_alike, stretch}

-- what is up to v at first and beyond it in the end passes v in one step
pub passes : (f : ℕ → ℕ) (v k : ℕ) → f 0 ≤ v → v < f k → (i : ℕ) × (i < k) × (f i ≤ v) × (v < f (suc i))
passes f v zero first last = absurd (omega (arith, first, last))
passes f v (suc k) first last = elim (cases_lt v (f k)) [
  | inl beyond ↦ (let p = passes f v k first beyond in (p.0, omega (arith, p.1), p.2, p.3))
  | inr within ↦ (k, omega arith, within, last)
]

either : (b : Bool) → (b ≡ true) ⊎ (b ≡ false)
either true = inl refl
either false = inr refl

module _ {S : Type 0} (r : Rules S) (law : IsLawful r) (rank : S → ℕ) (ranked : IsRanked r rank) (slots : EndsSlots r rank)
    (shown : ℕ → S → ℕ) (most v w : ℕ) (log : List (ℕ × ℕ)) (k : ℕ) (e : IsExplained r rank shown most w log k) (le : v ≤ w) where
  -- the run ends before the time
  pub earlier : rank (stands r log k) ≤ v → IsExplained r rank shown most v log k
  earlier begun = record {
    run = e.run;
    names = e.names;
    mark = e.mark;
    begun = begun;
    last = elim e.last [ inl none ↦ inl none | inr later ↦ inr (omega (arith, later, le)) ];
    fits = λ j u at within. e.fits j u at (omega (arith, within, le));
    few = e.few;
  }

  module _ (i : ℕ) (lt : i < k) (before : rank (stands r log i) ≤ v) (behind : v < rank (stands r log (suc i))) where
    -- the step beyond the time is from the end of a slot
    pub ends_there : r.mark (stands r log i) ≡ true
    ends_there = elim (either (r.mark (stands r log i))) [
      | inl is ↦ is
      | inr not ↦ absurd (omega (arith, slots.stays log i (run_front r log k (suc i) e.run lt) not, before, behind))
    ]

    -- which is by choice 0
    pub goes_on : r.after (stands r log i) 0 ≡ stands r log (suc i)
    goes_on =
        let none : 0 ≡ choice_at log i = omega
        (arith, e.run i lt, slots.one_way log i (run_front r log k i e.run (omega (arith, lt))) ends_there) in
        ap (r.after (stands r log i)) none

    front : List (ℕ × ℕ)
    front = between 0 i log

    front_alike : ChooseAlike log (between 0 i log) i
    front_alike j less = sym (between_choice log 0 i j (omega (arith, less)) ∙ ap (choice_at log) (omega arith))

    pub front_same : (j : ℕ) → j ≤ i → stands r log j ≡ stands r (between 0 i log) j
    front_same j le = stands_alike r log (between 0 i log) i j front_alike le

    at_end : (j u : ℕ) → IsAtEnd r rank (between 0 i log) i j u → u ≤ v → IsAtEnd r rank log k j u
    at_end j u at within =
        let here : stands r log j ≡ stands r (between 0 i log) j = front_same j at.within in
        record {
          within = omega (arith, at.within, lt);
          mark = ap r.mark here ∙ at.mark;
          ended = omega (arith, ap rank here, at.ended);
          next = λ less. elim (cases_lt j i) [
            | inl short ↦ omega (arith, at.next short, ap rank (front_same (suc j) short))
            | inr ge ↦ (
                let itself : i ≡ j = omega (arith, ge, at.within) in
                let P : ℕ → Type 0 = λ m. u < rank (stands r log (suc m)) in
                subst P itself (omega (arith, behind, within)))
          ];
        }

    -- the run up to that step is explained up to the time
    pub front_explained : IsExplained r rank shown most v (between 0 i log) i
    front_explained =
        let here : stands r log i ≡ stands r (between 0 i log) i = front_same i (omega arith) in
        let P : S → Type 0 = λ s. v < rank (r.after s 0) in
        record {
          run = run_alike r log (between 0 i log) i front_alike (run_front r log k i e.run (omega (arith, lt)));
          names = subst (λ n. NamesBelow (between 0 i log) n) (omega arith) (between_names log 0 i);
          mark = sym (ap r.mark here) ∙ ends_there;
          begun = omega (arith, ap rank here, before);
          last = inr (subst P here (omega (arith, ap rank goes_on, behind)));
          fits = λ j u at within. ap (shown u) (sym (front_same j at.within)) ∙ e.fits j u (at_end j u at within)
              (omega (arith, within, le));
          few = λ a b up within none.
              (let whole : NoEndWithin r log a b = λ m ge less. (ap r.mark (front_same m (omega (arith, less, within))) ∙ none m ge less)
              in
              omega (arith, front_within log i a b, e.few a b up (omega (arith, within, lt)) whole));
        }

    -- no slot ends behind it, where its slot is not before w
    pub no_end : w ≤ rank (stands r log (suc i)) → NoEndWithin r log (suc i) k
    no_end due m ge less = elim (either (r.mark (stands r log m))) [
      | inr not ↦ not
      | inl is ↦ (
          let one = rank_rises r rank ranked log (suc i) m (run_front r log k m e.run (omega (arith, less))) ge in
          let two = slots.later log m (run_front r log k (suc m) e.run less) is in
          let three = rank_rises r rank ranked log (suc m) k e.run less in
          absurd (omega (arith, one, two, three, due, e.begun)))
    ]

    -- the rest of the run is one of the next slot
    pub rest : (start : S) → r.same start (stands r log (suc i)) ≡ true → w ≤ rank (stands r log (suc i)) →
        EndsSlot r start (between (suc i) k log) (k - suc i) (stands r log k)
    rest start first due =
        let whole : suc i + (k - suc i) ≡ k = omega (arith, lt) in
        let P : ℕ → Type 0 = λ n. IsRun r log n in
        let N : ℕ → Type 0 = λ n. NoEndWithin r log (suc i) n in
        let M : ℕ → Type 0 = λ n. r.mark (stands r log n) ≡ true in
        let E : ℕ → Type 0 = λ n. EndsSlot r start (between (suc i) n log) (k - suc i) (stands r log n) in
        subst E whole (stretch r law start log (suc i) (k - suc i) first (subst P (sym whole) e.run) (subst N (sym whole) (no_end due))
        (subst M (sym whole) e.mark))

    -- with few departures, and no more in both than in all
    pub rest_few : w ≤ rank (stands r log (suc i)) → length (between (suc i) k log) ≤ most
    rest_few due = omega (arith, between_length log (suc i) k, e.few (suc i) k lt (omega arith) (no_end due))

    pub both_few : length (between 0 i log) + length (between (suc i) k log) ≤ length log
    both_few = omega (arith, between_length log 0 i, between_length log (suc i) k, both_within log i (suc i) k (omega arith))

-- the whole run is one of the first slot, where it ends at the rank that runs open with
pub whole_slot : {S : Type 0} (r : Rules S) → IsLawful r → (rank : S → ℕ) → IsRanked r rank → EndsSlots r rank →
    (shown : ℕ → S → ℕ) (most : ℕ) (log : List (ℕ × ℕ)) (k : ℕ) → IsExplained r rank shown most (rank r.first) log k →
    (start : S) → r.same start r.first ≡ true →
    EndsSlot r start (between 0 k log) k (stands r log k) × (length (between 0 k log) ≤ most) × (length (between 0 k log) ≤ length log)
whole_slot {S} r law rank ranked slots shown most log k e start first =
    let none : NoEndWithin r log 0 k = λ m ge less. elim (either (r.mark (stands r log m))) [
      | inr not ↦ not
      | inl is ↦ (
          let one = rank_rises r rank ranked log 0 m (run_front r log k m e.run (omega (arith, less))) ge in
          let two = slots.later log m (run_front r log k (suc m) e.run less) is in
          let three = rank_rises r rank ranked log (suc m) k e.run less in
          absurd (omega (arith, one, two, three, e.begun)))
    ] in
    let whole : 0 + k ≡ k = omega arith in
    let P : ℕ → Type 0 = λ n. IsRun r log n in
    let N : ℕ → Type 0 = λ n. NoEndWithin r log 0 n in
    let M : ℕ → Type 0 = λ n. r.mark (stands r log n) ≡ true in
    let E : ℕ → Type 0 = λ n. EndsSlot r start (between 0 n log) k (stands r log n) in (
      subst E whole (stretch r law start log 0 k first (subst P (sym whole) e.run) (subst N (sym whole) none)
          (subst M (sym whole) e.mark)),
      omega (arith, between_length log 0 k, e.few 0 k (omega arith) (omega arith) none),
      omega (arith, between_length log 0 k, both_within log 0 0 k (omega arith)),
    )
