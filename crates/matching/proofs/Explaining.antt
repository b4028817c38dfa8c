-- What is explained up to a time, and what of it is explained up to another.
use Rattle.std.proofs.Common.{◌≡◌, ℕ, ◌+◌, ◌-◌, ◌<◌, ◌≤◌, zero, suc, true, List, ◌++◌, length, inl, inr, ◌⊎◌, arith, ap, refl, sym, ◌∙◌}
use Rattle.std.proofs.Common.{subst}
use Rattle.std.proofs.lemmas.Bool.{cases_lt}
use Rattle.basis.proofs.Bools.{clash}
use Rattle.sched_core.specs.Ranks.{IsRanked}
use Rattle.statebook.proofs.FrontierLemmas.{rank_rises}
use Rattle.sched_core.specs.Rules.{Rules, IsLawful, stands, choice_at, IsRun, NamesBelow}
use Rattle.matching.specs.Slots.{one_slot}
use Rattle.matching.specs.Answers.{ComesNear}
use Rattle.matching.specs.Explained.{EndsSlots, IsAtEnd, IsExplained, NoEndWithin, departures_within}
use Rattle.matching.specs.Inner.Slots.{log_later, EndsSlot}
use Rattle.matching.proofs.JoinedLogs.{choice_beyond, joined_after, joined_before, names_joined, none_before, none_beyond, shifted_length}
use Rattle.matching.proofs.JoinedLogs.{within_all, within_joined}
use Rattle.matching.proofs.Segments.{ChooseAlike, ChoosesFrom, along, along_open, along_run, rank_stays, run_alike, stands_alike}

-- Two references show the same up to a time.
abbrev pub ShowAlike : {S : Type 0} → (ℕ → S → ℕ) → (ℕ → S → ℕ) → ℕ → Type 0
ShowAlike {S} one other upto = (v : ℕ) (s : S) → v ≤ upto → one v s ≡ other v s

pub shown_alike : {S : Type 0} (r : Rules S) (rank : S → ℕ) (one other : ℕ → S → ℕ) (most v : ℕ) (log : List (ℕ × ℕ)) (k : ℕ) →
    ShowAlike one other v → IsExplained r rank one most v log k → IsExplained r rank other most v log k
shown_alike r rank one other most v log k alike e = record {
  run = e.run;
  names = e.names;
  mark = e.mark;
  begun = e.begun;
  last = e.last;
  fits = λ j u at le. sym (alike u (stands r log j) le) ∙ e.fits j u at le;
  few = e.few;
}

-- The reference shows the same from one time to before another.
abbrev pub ShowsOn : {S : Type 0} → (ℕ → S → ℕ) → ℕ → ℕ → Type 0
ShowsOn {S} shown v w = (u : ℕ) (s : S) → v ≤ u → u < w → shown u s ≡ shown v s

-- the state shows what is shown from one time up to another, if it does at both
pub shows_between : {S : Type 0} (shown : ℕ → S → ℕ) (v w u : ℕ) (s : S) → ShowsOn shown v w → shown v s ≡ 0 → shown w s ≡ 0 → v ≤ u →
    u ≤ w → shown u s ≡ 0
shows_between {S} shown v w u s on before now le within = elim (cases_lt u w) [
  | inl lt ↦ on u s le lt ∙ before
  | inr ge ↦ (
      let same : w ≡ u = omega arith in
      let P : ℕ → Type 0 = λ t. shown t s ≡ 0 in
      subst P same now)
]

-- a run whose next slot is later is explained up to the later time
pub waits_on : {S : Type 0} (r : Rules S) (rank : S → ℕ) → IsRanked r rank →
    (shown : ℕ → S → ℕ) (most v w : ℕ) (log : List (ℕ × ℕ)) (k : ℕ) → IsExplained r rank shown most v log k → v ≤ w →
    ShowsOn shown v w → shown w (stands r log k) ≡ 0 →
    (r.width (stands r log k) ≡ 0) ⊎ (w < rank (r.after (stands r log k) 0)) → IsExplained r rank shown most w log k
waits_on r rank ranked shown most v w log k e le on now last = record {
  run = e.run;
  names = e.names;
  mark = e.mark;
  begun = omega (arith, e.begun, le);
  last = last;
  fits = λ j u at within. elim (cases_lt v u) [
    | inr early ↦ e.fits j u at early
    | inl more ↦ elim (cases_lt j k) [
      | inl lt ↦ (
          let later : rank (stands r log (suc j)) ≤ rank (stands r log k) = rank_rises r rank ranked log (suc j) k e.run lt in
          absurd (omega (arith, at.next lt, later, e.begun, more)))
      | inr ge ↦ (
          let itself : k ≡ j = omega (arith, ge, at.within) in
          let P : ℕ → Type 0 = λ i. shown u (stands r log i) ≡ 0 in
          let here : IsAtEnd r rank log k k v = record
          { within = omega arith; mark = e.mark; ended = e.begun; next = λ lt. absurd (omega (arith, lt)) } in
          subst P itself (shows_between shown v w u (stands r log k) on (e.fits k v here (omega arith)) now (omega (arith, more)) within))
    ]
  ];
  few = e.few;
}

-- whatever its next slot is, it shows all up to before the later time
pub waits_near : {S : Type 0} (r : Rules S) (rank : S → ℕ) → IsRanked r rank →
    (shown : ℕ → S → ℕ) (most v w : ℕ) (log : List (ℕ × ℕ)) (k : ℕ) →
    IsExplained r rank shown most v log k → v ≤ w → ShowsOn shown v w → ComesNear r rank shown most w log k
waits_near {S} r rank ranked shown most v w log k e le on = record {
  run = e.run;
  names = e.names;
  mark = e.mark;
  begun = omega (arith, e.begun, le);
  fits = λ j u at before. elim (cases_lt v u) [
    | inr early ↦ e.fits j u at early
    | inl more ↦ elim (cases_lt j k) [
      | inl lt ↦ (
          let later : rank (stands r log (suc j)) ≤ rank (stands r log k) = rank_rises r rank ranked log (suc j) k e.run lt in
          absurd (omega (arith, at.next lt, later, e.begun, more)))
      | inr ge ↦ (
          let itself : k ≡ j = omega (arith, ge, at.within) in
          let P : ℕ → Type 0 = λ i. shown u (stands r log i) ≡ 0 in
          let here : IsAtEnd r rank log k k v = record
          { within = omega arith; mark = e.mark; ended = e.begun; next = λ lt. absurd (omega (arith, lt)) } in
          subst P itself (on u (stands r log k) (omega (arith, more)) before ∙ e.fits k v here (omega arith)))
    ]
  ];
  few = e.few;
}

-- A run comes to the beginning of a slot: what it passed fits up to the time w, in no slot it departs too often, and no slot goes
-- on beyond its end.
pub record ComesTo {S : Type 0} (r : Rules S) (rank : S → ℕ) (shown : ℕ → S → ℕ) (most w : ℕ) (log : List (ℕ × ℕ)) (n : ℕ) : Type 0 where
  pub run : IsRun r log n
  pub names : NamesBelow log n
  pub rank_is : rank (stands r log n) ≡ w
  pub fits : (j u : ℕ) → j < n → r.mark (stands r log j) ≡ true → rank (stands r log j) ≤ u → u ≤ w → u < rank (stands r log (suc j)) →
      shown u (stands r log j) ≡ 0
  pub few : (i j : ℕ) → i ≤ j → j < n → NoEndWithin r log i j → departures_within log i j ≤ most
  pub ends : (i : ℕ) → i < n → (m : ℕ) × (i ≤ m) × (m < n) × (r.mark (stands r log m) ≡ true)

module _ {S : Type 0} (r : Rules S) (law : IsLawful r) (log : List (ℕ × ℕ)) (n : ℕ) (run : IsRun r log n) (names : NamesBelow log n)
    (start : S) (slot : List (ℕ × ℕ)) (c : ℕ) (s : S) (first : r.same start (stands r log n) ≡ true)
    (end : EndsSlot r start slot c s) where
  abbrev pub whole : List (ℕ × ℕ)
  whole = log ++ log_later n slot

  front_alike : ChooseAlike log whole n
  front_alike k lt = sym (joined_before log n k slot lt)

  behind : ChoosesFrom slot whole n c
  behind k lt = sym (joined_after log n k slot names)

  pub front_same : (j : ℕ) → j ≤ n → stands r log j ≡ stands r whole j
  front_same j le = stands_alike r log whole n j front_alike le

  begins_there : r.same start (stands r whole n) ≡ true
  begins_there = ap (λ t. r.same start t) (sym (front_same n (omega arith))) ∙ first

  pub there : (k : ℕ) → k ≤ c → r.same (stands (one_slot r start) slot k) (stands r whole (n + k)) ≡ true
  there = along r law start slot whole n c begins_there behind end.run

  pub joined_run : IsRun r whole (n + c)
  joined_run k lt = elim (cases_lt k n) [
    | inl before ↦ run_alike r log whole n front_alike run k before
    | inr ge ↦ (
        let is : n + (k - n) ≡ k = omega (arith, ge) in
        let P : ℕ → Type 0 = λ j. choice_at whole j < r.width (stands r whole j) in
        subst P is (along_run r law start slot whole n c begins_there behind end.run (k - n) (omega (arith, ge, lt))))
  ]

  pub joined_names : NamesBelow whole (n + c)
  joined_names = names_joined log n c slot names end.names

  -- the end of the slot
  pub joined_at : r.same s (stands r whole (n + c)) ≡ true
  joined_at = law.transitive s (stands (one_slot r start) slot c) (stands r whole (n + c)) end.at (there c (omega arith))

  pub joined_mark : r.mark (stands r whole (n + c)) ≡ true
  joined_mark = sym (law.mark_same (stands (one_slot r start) slot c) (stands r whole (n + c)) (there c (omega arith))) ∙ end.mark

  none_open : NoEndWithin r whole n (n + c)
  none_open = along_open r law start slot whole n c begins_there behind end.run

  module _ (rank : S → ℕ) (ranked : IsRanked r rank) (slots : EndsSlots r rank) (shown : ℕ → S → ℕ) (most w : ℕ)
      (base : ComesTo r rank shown most w log n) (short : length slot ≤ most) where
    pub joined_rank : rank (stands r whole (n + c)) ≡ w
    joined_rank = rank_stays r rank slots whole n c joined_run none_open ∙ sym (ap rank (front_same n (omega arith))) ∙ base.rank_is

    none_chosen : choice_at whole (n + c) ≡ 0
    none_chosen = choice_beyond whole (n + c) (n + c) joined_names (omega arith)

    last_by : (width : ℕ) → r.width (stands r whole (n + c)) ≡ width →
        (r.width (stands r whole (n + c)) ≡ 0) ⊎ (w < rank (r.after (stands r whole (n + c)) 0))
    last_by zero e = inl e
    last_by (suc m) e =
        let t : S = stands r whole (n + c) in
        let more : IsRun r whole (suc (n + c)) = λ k lt. (elim (cases_lt k (n + c)) [
          | inl before ↦ joined_run k before
          | inr ge ↦ (
              let is : n + c ≡ k = omega (arith, ge, lt) in
              let P : ℕ → Type 0 = λ j. choice_at whole j < r.width (stands r whole j) in
              subst P is (omega (arith, none_chosen, e)))
        ]) in
        let P : ℕ → Type 0 = λ i. rank t < rank (r.after t i) in
        inr (omega (arith, subst P none_chosen (slots.later whole (n + c) more joined_mark), joined_rank))

    few_by : (i j : ℕ) → i ≤ j → j ≤ n + c → NoEndWithin r whole i j → departures_within whole i j ≤ most
    few_by i j le within none =
        let parts = within_joined log (log_later n slot) i j in
        elim (cases_lt i n) [
          | inl before ↦ elim (cases_lt j n) [
            | inl lt ↦ (
                let front : NoEndWithin r log i j = λ m ge less. ap r.mark (front_same m (omega (arith, lt, less))) ∙ none m ge less in
                omega (arith, parts, none_before slot n i j (omega (arith, lt)), base.few i j le lt front))
            | inr beyond ↦ (
                let e = base.ends i before in
                let marked : r.mark (stands r whole e.0) ≡ true = sym (ap r.mark (front_same e.0 (omega (arith, e.2)))) ∙ e.3 in
                absurd (clash (r.mark (stands r whole e.0)) marked (none e.0 e.1 (omega (arith, e.2, beyond)))))
          ]
          | inr ge ↦ omega (
            arith,
            parts,
            none_beyond log n i j base.names ge,
            within_all (log_later n slot) i j,
            shifted_length n slot,
            short,
          )
        ]

    fits_by : shown w (stands r whole (n + c)) ≡ 0 → (j u : ℕ) → IsAtEnd r rank whole (n + c) j u → u ≤ w → shown u (stands r whole j) ≡ 0
    fits_by now j u at within = elim (cases_lt j n) [
      | inl before ↦ (
          let here : stands r log j ≡ stands r whole j = front_same j (omega (arith, before)) in
          let next : rank (stands r log (suc j)) ≡ rank (stands r whole (suc j)) = ap rank (front_same (suc j) before) in
          ap (shown u) (sym here) ∙ base.fits j u before (ap r.mark here ∙ at.mark) (omega (arith, ap rank here, at.ended)) within
          (omega (arith, next, at.next (omega (arith, before)))))
      | inr ge ↦ elim (cases_lt j (n + c)) [
        | inl short_of ↦ absurd (clash (r.mark (stands r whole j)) at.mark (none_open j ge short_of))
        | inr end_of ↦ (
            let itself : n + c ≡ j = omega (arith, end_of, at.within) in
            let same_rank : rank (stands r whole j) ≡ w = ap (λ i. rank (stands r whole i)) (sym itself) ∙ joined_rank in
            let time : w ≡ u = omega (arith, same_rank, at.ended, within) in
            let P : ℕ → Type 0 = λ i. shown u (stands r whole i) ≡ 0 in
            let Q : ℕ → Type 0 = λ t. shown t (stands r whole (n + c)) ≡ 0 in
            subst P itself (subst Q time now))
      ]
    ]

    fits_near : (j u : ℕ) → IsAtEnd r rank whole (n + c) j u → u < w → shown u (stands r whole j) ≡ 0
    fits_near j u at soon = elim (cases_lt j n) [
      | inl before ↦ (
          let here : stands r log j ≡ stands r whole j = front_same j (omega (arith, before)) in
          let next : rank (stands r log (suc j)) ≡ rank (stands r whole (suc j)) = ap rank (front_same (suc j) before) in
          ap (shown u) (sym here) ∙ base.fits j u before (ap r.mark here ∙ at.mark) (omega (arith, ap rank here, at.ended))
          (omega (arith, soon))
          (omega (arith, next, at.next (omega (arith, before)))))
      | inr ge ↦ elim (cases_lt j (n + c)) [
        | inl short_of ↦ absurd (clash (r.mark (stands r whole j)) at.mark (none_open j ge short_of))
        | inr end_of ↦ (
            let itself : n + c ≡ j = omega (arith, end_of, at.within) in
            let same_rank : rank (stands r whole j) ≡ w = ap (λ i. rank (stands r whole i)) (sym itself) ∙ joined_rank in
            absurd (omega (arith, same_rank, at.ended, soon)))
      ]
    ]

    -- the run that goes on into the slot shows all up to before its time
    pub near_joined : ComesNear r rank shown most w (log ++ log_later n slot) (n + c)
    near_joined = record {
      run = joined_run;
      names = joined_names;
      mark = joined_mark;
      begun = omega (arith, joined_rank);
      fits = fits_near;
      few = few_by;
    }

    -- the run that goes on into the slot is explained up to its time
    pub explained_joined : shown w (stands r whole (n + c)) ≡ 0 → IsExplained r rank shown most w (log ++ log_later n slot) (n + c)
    explained_joined now = record {
      run = joined_run;
      names = joined_names;
      mark = joined_mark;
      begun = omega (arith, joined_rank);
      last = last_by (r.width (stands r whole (n + c))) refl;
      fits = fits_by now;
      few = few_by;
    }
