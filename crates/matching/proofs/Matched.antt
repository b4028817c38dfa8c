-- From the runs that are explained up to one time to those that are up to the next.
use Rattle.std.proofs.Common.{◌≡◌, ℕ, ◌+◌, ◌-◌, ◌<◌, ◌≤◌, suc, true, List, [], ◌++◌, length, Option, Some, None, IfSome, inl, inr, ◌⊎◌}
use Rattle.std.proofs.Common.{arith, ap, refl, sym, ◌∙◌, subst}
use Rattle.std.proofs.lemmas.Bool.{cases_lt}
use Rattle.sched_core.specs.Ranks.{IsRanked}
use Rattle.statebook.proofs.FrontierLemmas.{rank_rises}
use Rattle.sched_core.specs.Rules.{Rules, IsLawful, stands, choice_at}
use Rattle.matching.specs.Answers.{IsNearRun, ComesNear}
use Rattle.matching.specs.Slots.{IsRunTo}
use Rattle.matching.specs.Explained.{EndsSlots, IsAtEnd, IsExplained}
use Rattle.matching.specs.Inner.Candidates.{EndsNear, FollowAll, GoesInto, GoesNear, GoesOn, IsAWay, IsDue, IsFittingEnd, IsIn, IsKept}
use Rattle.matching.specs.Inner.Candidates.{IsWaiting}
use Rattle.matching.specs.Inner.Candidates.{NearFromSome, Waits, WaitsNear, begins}
use Rattle.matching.specs.Inner.Searching.{AreMatched, IsOpening, OpensWith}
use Rattle.matching.specs.Inner.Slots.{log_later}
use Rattle.matching.specs.declared.answer.Explanation.{Explanation}
use Rattle.matching.specs.declared.candidates.Onward.{Onward}
use Rattle.matching.specs.declared.candidates.Way.{Way}
use Rattle.matching.specs.declared.slot.SlotStart.{SlotStart}
use Rattle.matching.proofs.Completing.{both_few, earlier, front_explained, front_same, goes_on, passes, rest, rest_few, whole_slot}
use Rattle.matching.proofs.Explaining.{ComesTo, ShowsOn, explained_joined, joined_at, joined_mark, joined_names, joined_run, near_joined}
use Rattle.matching.proofs.Explaining.{waits_near, waits_on}
use Rattle.matching.proofs.JoinedLogs.{between, choice_beyond, names_more}

-- where a run goes on from a state it goes on from an equal one
pub goes_on_alike : {S : Type 0} (r : Rules S) → IsLawful r → (rank : S → ℕ) (s t : S) (next : Option (Onward S)) → r.same s t ≡ true →
    GoesOn r rank s next → GoesOn r rank t next
goes_on_alike r law rank s t None same none = sym (law.width_same s t same) ∙ none
goes_on_alike r law rank s t (Some next) same on = (
  omega (arith, on.0, law.width_same s t same),
  law.transitive next.state (r.after s 0) (r.after t 0) on.1 (law.after_same s t 0 same on.0),
  on.2,
)

pub stands_at : {S : Type 0} (r : Rules S) → IsLawful r → (s t : S) (log : List (ℕ × ℕ)) (n : ℕ) → r.same s t ≡ true →
    IsRunTo r s log n → IsRunTo r t log n
stands_at r law s t log n same h = record
    { run = h.run; names = h.names; at = law.transitive t s (stands r log n) (law.symmetric s t same) h.at }

pub way_alike : {S : Type 0} (r : Rules S) → IsLawful r → (rank : S → ℕ) (s t : S) (way : Way S) → r.same s t ≡ true →
    IsAWay r rank (s, way) → IsAWay r rank (t, way)
way_alike r law rank s t way same h = record {
  stands = stands_at r law s t way.log way.steps same h.stands;
  mark = sym (law.mark_same s t same) ∙ h.mark;
  next = goes_on_alike r law rank s t way.next same h.next;
}

-- the rank of the next slot is that of the state after the step
pub next_rank : {S : Type 0} (r : Rules S) → IsLawful r → (rank : S → ℕ) → IsRanked r rank → (s t : S) (next : Onward S) →
    r.same s t ≡ true → GoesOn r rank s (Some next) → next.rank ≡ rank (r.after t 0)
next_rank r law rank ranked s t next same on =
    let there = (goes_on_alike r law rank s t (Some next) same on).1 in
    on.2 ∙ ranked.rank_same next.state (r.after t 0) there

-- the end of a slot stands behind its beginning
pub end_stands : {S : Type 0} (r : Rules S) → IsLawful r → (rank : S → ℕ) → IsRanked r rank → EndsSlots r rank →
    (shown : ℕ → S → ℕ) (most w : ℕ) (start : SlotStart S) (e : S × Way S) → ComesTo r rank shown most w start.log start.steps →
    r.same start.state (stands r start.log start.steps) ≡ true →
    IsFittingEnd r rank (shown w) most start e → ((s t : S) → r.same s t ≡ true → shown w s ≡ shown w t) →
    IsAWay r rank e × IsExplained r rank shown most w e.1.log e.1.steps
end_stands {S} r law rank ranked slots shown most w start e base first fits alike =
    let h = fits.ends in
    let whole : List (ℕ × ℕ) = start.log ++ log_later start.steps h.slot in
    let n : ℕ = start.steps + h.count in
    let at : r.same e.0 (stands r whole n) ≡ true = joined_at r law start.log start.steps base.run base.names start.state h.slot h.count
    e.0 first h.ends in
    let shows : shown w (stands r whole n) ≡ 0 = sym (alike e.0 (stands r whole n) at) ∙ fits.fits in
    let P : List (ℕ × ℕ) → Type 0 = λ l. IsRunTo r e.0 l e.1.steps in
    let Q : ℕ → Type 0 = λ k. IsRunTo r e.0 whole k in
    let there : IsRunTo r e.0 whole n = record {
      run = joined_run r law start.log start.steps base.run base.names start.state h.slot h.count e.0 first h.ends;
      names = joined_names r law start.log start.steps base.run base.names start.state h.slot h.count e.0 first h.ends;
      at = at;
    } in
    let E : List (ℕ × ℕ) → Type 0 = λ l. IsExplained r rank shown most w l e.1.steps in
    let F : ℕ → Type 0 = λ k. IsExplained r rank shown most w whole k in
    let marked : r.mark e.0 ≡ true = law.mark_same e.0 (stands r whole n) at ∙ joined_mark r law start.log start.steps base.run
    base.names start.state h.slot h.count e.0 first h.ends in (
      record { stands = subst P (sym h.log_is) (subst Q (sym h.steps_is) there); mark = marked; next = fits.next },
      subst E (sym h.log_is) (subst F (sym h.steps_is)
          (explained_joined r law start.log start.steps base.run base.names start.state h.slot h.count e.0 first h.ends rank ranked slots
          shown most w base h.short shows)),
    )

-- whatever it shows at its time, it has come near it
pub end_near : {S : Type 0} (r : Rules S) → IsLawful r → (rank : S → ℕ) → IsRanked r rank → EndsSlots r rank →
    (shown : ℕ → S → ℕ) (most w : ℕ)
    (start : SlotStart S) (e : Explanation S) → ComesTo r rank shown most w start.log start.steps →
    r.same start.state (stands r start.log start.steps) ≡ true → EndsNear r most start e → IsNearRun r rank shown most w e
end_near {S} r law rank ranked slots shown most w start e base first h =
    let whole : List (ℕ × ℕ) = start.log ++ log_later start.steps h.slot in
    let n : ℕ = start.steps + h.count in
    let at : r.same e.state (stands r whole n) ≡ true =
    joined_at r law start.log start.steps base.run base.names start.state h.slot h.count e.state first h.ends in
    let near : ComesNear r rank shown most w whole n = near_joined r law start.log start.steps base.run base.names start.state h.slot
    h.count
    e.state first h.ends rank ranked slots shown most w base h.short in
    let C : List (ℕ × ℕ) → Type 0 = λ l. ComesNear r rank shown most w l e.steps in
    let D : ℕ → Type 0 = λ k. ComesNear r rank shown most w whole k in
    let P : List (ℕ × ℕ) → Type 0 = λ l. r.same e.state (stands r l e.steps) ≡ true in
    let Q : ℕ → Type 0 = λ k. r.same e.state (stands r whole k) ≡ true in
    (subst C (sym h.log_is) (subst D (sym h.steps_is) near), subst P (sym h.log_is) (subst Q (sym h.steps_is) at))

-- a run that stands at a mark and goes on comes to the beginning of the next slot
comes_on : {S : Type 0} (r : Rules S) → IsLawful r → (rank : S → ℕ) → IsRanked r rank →
    (shown : ℕ → S → ℕ) (most v w : ℕ) (log : List (ℕ × ℕ)) (k : ℕ) → IsExplained r rank shown most v log k → v ≤ w →
    ShowsOn shown v w → 0 < r.width (stands r log k) → rank (r.after (stands r log k) 0) ≡ w →
    ComesTo r rank shown most w log (suc k)
comes_on {S} r law rank ranked shown most v w log k e le on wide due =
    let none : choice_at log k ≡ 0 = choice_beyond log k k e.names (omega arith) in
    let there : r.after (stands r log k) 0 ≡ stands r log (suc k) = ap (r.after (stands r log k)) (sym none) in
    record {
      run = λ j lt. elim (cases_lt j k) [
        | inl before ↦ e.run j before
        | inr ge ↦ (
            let itself : k ≡ j = omega (arith, ge, lt) in
            let P : ℕ → Type 0 = λ i. choice_at log i < r.width (stands r log i) in
            subst P itself (omega (arith, none, wide)))
      ];
      names = names_more log k (suc k) e.names (omega arith);
      rank_is = ap rank (sym there) ∙ due;
      fits = λ j u lt mark ended within next. elim (cases_lt v u) [
        | inr early ↦ (
            let at : IsAtEnd r rank log k j u = record { within = omega (arith, lt); mark = mark; ended = ended; next = λ _. next } in
            e.fits j u at early)
        | inl more ↦ elim (cases_lt j k) [
          | inl before ↦ absurd (omega (arith, rank_rises r rank ranked log (suc j) k e.run before, e.begun, more, next))
          | inr ge ↦ (
              let itself : k ≡ j = omega (arith, ge, lt) in
              let P : ℕ → Type 0 = λ i. u < rank (stands r log (suc i)) in
              let soon : u < w = omega (arith, subst P (sym itself) next, ap rank there, due) in
              let here : IsAtEnd r rank log k k v = record
              { within = omega arith; mark = e.mark; ended = e.begun; next = λ less. absurd (omega (arith, less)) } in
              let Q : ℕ → Type 0 = λ i. shown u (stands r log i) ≡ 0 in
              subst Q itself (on u (stands r log k) (omega (arith, more)) soon ∙ e.fits k v here (omega arith)))
        ]
      ];
      few = λ i j up lt none. e.few i j up (omega (arith, lt)) none;
      ends = λ i lt. (k, omega (arith, lt), omega arith, e.mark);
    }

module _ {S : Type 0} (r : Rules S) (law : IsLawful r) (rank : S → ℕ) (ranked : IsRanked r rank) (slots : EndsSlots r rank)
    (shown : ℕ → S → ℕ) (most v w : ℕ) (old new : List (S × Way S))
    (matched : AreMatched r rank shown most v old) (follow : FollowAll r rank (shown w) most w old new) (le : v ≤ w)
    (on : ShowsOn shown v w) (alike : (s t : S) → r.same s t ≡ true → shown w s ≡ shown w t)
    (least : (e : S × Way S) (next : Onward S) → IsIn old e → e.1.next ≡ Some next → w ≤ next.rank) where
  -- where a candidate's next slot is later, so it is of its run
  later_by : (c : S × Way S) (next : Option (Onward S)) → GoesOn r rank c.0 next → c.1.next ≡ next → IsWaiting w c.1 → (t : S) →
      r.same c.0 t ≡ true → (r.width t ≡ 0) ⊎ (w < rank (r.after t 0))
  later_by c None none is waits t same = inl (sym (law.width_same c.0 t same) ∙ none)
  later_by c (Some next) on is waits t same =
      let W : Option (Onward S) → Type 0 = λ n. IfSome n (λ next. w < next.rank) in
      let soon : w < next.rank = subst W is waits in
      inr (omega (arith, soon, next_rank r law rank ranked c.0 t next same on))

  waits_both : (c e : S × Way S) → IsIn old c → Waits r (shown w) w c e →
      IsAWay r rank e × IsExplained r rank shown most w e.1.log e.1.steps
  waits_both c e at h =
      let way = matched.way c at in
      let t : S = stands r c.1.log c.1.steps in
      let there : r.same c.0 t ≡ true = way.stands.at in
      let shows : shown w t ≡ 0 = sym (alike c.0 t there) ∙ h.fits in
      let P : Way S → Type 0 = λ x. IsAWay r rank (e.0, x) in
      let E : Way S → Type 0 = λ x. IsExplained r rank shown most w x.log x.steps in (
        subst P (sym h.way) (way_alike r law rank c.0 e.0 c.1 h.same way),
        subst E (sym h.way) (waits_on r rank ranked shown most v w c.1.log c.1.steps (matched.explained c at) le on shows
            (later_by c c.1.next way.next refl h.waiting t there)),
      )

  -- the run to the beginning of a candidate's next slot
  comes_into : (c : S × Way S) → IsIn old c → (next : Onward S) → IsDue w c.1 next →
      ComesTo r rank shown most w c.1.log (c.1.steps + 1) × (r.same next.state (stands r c.1.log (c.1.steps + 1)) ≡ true)
  comes_into c at next due =
      let way = matched.way c at in
      let k : ℕ = c.1.steps in
      let t : S = stands r c.1.log k in
      let there : r.same c.0 t ≡ true = way.stands.at in
      let G : Option (Onward S) → Type 0 = λ n. GoesOn r rank c.0 n in
      let goes : GoesOn r rank c.0 (Some next) = subst G due.0 way.next in
      let on_from = goes_on_alike r law rank c.0 t (Some next) there goes in
      let rank_is : next.rank ≡ rank (r.after t 0) = next_rank r law rank ranked c.0 t next there goes in
      let time : rank (r.after t 0) ≡ w = omega (arith, rank_is, due.1, least c next at due.0) in
      let e_k = matched.explained c at in
      let base : ComesTo r rank shown most w c.1.log (suc k) = comes_on r law rank ranked shown most v w c.1.log k e_k le on on_from.0
      time in
      let none : choice_at c.1.log k ≡ 0 = choice_beyond c.1.log k k e_k.names (omega arith) in
      let first : r.same next.state (stands r c.1.log (suc k)) ≡ true = ap (λ i. r.same next.state (r.after t i)) none ∙ on_from.1 in
      let one : suc k ≡ k + 1 = omega arith in
      let B : ℕ → Type 0 = λ n. ComesTo r rank shown most w c.1.log n in
      let F : ℕ → Type 0 = λ n. r.same next.state (stands r c.1.log n) ≡ true in
      (subst B one base, subst F one first)

  goes_both : (c e : S × Way S) → IsIn old c → GoesInto r rank (shown w) most w c e →
      IsAWay r rank e × IsExplained r rank shown most w e.1.log e.1.steps
  goes_both c e at h =
      let come = comes_into c at h.next h.due in
      end_stands r law rank ranked slots shown most w (begins h.next.state c.1 (c.1.steps + 1)) e come.0 come.1 h.ends alike

  near_goes : (c : S × Way S) (e : Explanation S) → IsIn old c → GoesNear r most w c e → IsNearRun r rank shown most w e
  near_goes c e at h =
      let come = comes_into c at h.next h.due in
      end_near r law rank ranked slots shown most w (begins h.next.state c.1 (c.1.steps + 1)) e come.0 come.1 h.ends

  near_waits : (c : S × Way S) (e : Explanation S) → IsIn old c → WaitsNear w c e → IsNearRun r rank shown most w e
  near_waits c e at h =
      let near : ComesNear r rank shown most w c.1.log c.1.steps =
      waits_near r rank ranked shown most v w c.1.log c.1.steps (matched.explained c at) le on in
      let stands_there : r.same c.0 (stands r c.1.log c.1.steps) ≡ true = (matched.way c at).stands.at in
      let C : List (ℕ × ℕ) → Type 0 = λ l. ComesNear r rank shown most w l e.steps in
      let D : ℕ → Type 0 = λ k. ComesNear r rank shown most w c.1.log k in
      let P : S → Type 0 = λ s. r.same s (stands r e.log e.steps) ≡ true in
      let Q : List (ℕ × ℕ) → Type 0 = λ l. r.same c.0 (stands r l e.steps) ≡ true in
      let R : ℕ → Type 0 = λ k. r.same c.0 (stands r c.1.log k) ≡ true in
      (subst C (sym h.log) (subst D (sym h.steps) near), subst P (sym h.state) (subst Q (sym h.log) (subst R (sym h.steps) stands_there)))

  -- what comes from a candidate has come near the time
  pub near_next : (e : Explanation S) → NearFromSome r most w old e → IsNearRun r rank shown most w e
  near_next e h = elim h.2 [ inl waits ↦ near_waits h.0 e h.1 waits | inr goes ↦ near_goes h.0 e h.1 goes ]

  follow_both : (e : S × Way S) → IsIn new e → IsAWay r rank e × IsExplained r rank shown most w e.1.log e.1.steps
  follow_both e at =
      let c = follow.only e at in
      elim c.2 [ inl waits ↦ waits_both c.0 e c.1 waits | inr goes ↦ goes_both c.0 e c.1 goes ]

  -- a candidate at which a run ends that waits
  still_by : (c : S × Way S) (next : Option (Onward S)) → GoesOn r rank c.0 next → c.1.next ≡ next → (t : S) → r.same c.0 t ≡ true →
      (r.width t ≡ 0) ⊎ (w < rank (r.after t 0)) → IsWaiting w c.1
  still_by c None none is t same last =
      let W : Option (Onward S) → Type 0 = λ n. IfSome n (λ next. w < next.rank) in
      subst W (sym is) tt
  still_by c (Some next) goes is t same last =
      let W : Option (Onward S) → Type 0 = λ n. IfSome n (λ next. w < next.rank) in
      let soon : w < next.rank = elim last [
        | inl none ↦ absurd (omega (arith, none, goes.0, law.width_same c.0 t same))
        | inr later ↦ omega (arith, later, next_rank r law rank ranked c.0 t next same goes)
      ] in
      subst W (sym is) soon

  kept_alike : (s t : S) (d n : ℕ) → r.same s t ≡ true → d ≤ n → IsKept r new s d → IsKept r new t n
  kept_alike s t d n same few h = record {
    entry = h.entry;
    at = h.at;
    same = law.transitive h.entry.0 s t h.same same;
    departures = omega (arith, h.departures, few);
  }

  shows_at_end : (log : List (ℕ × ℕ)) (k : ℕ) → IsExplained r rank shown most w log k → shown w (stands r log k) ≡ 0
  shows_at_end log k e =
      let at : IsAtEnd r rank log k k w = record
      { within = omega arith; mark = e.mark; ended = e.begun; next = λ less. absurd (omega (arith, less)) } in
      e.fits k w at (omega arith)

  -- a run that ends before is still there
  all_early : (log : List (ℕ × ℕ)) (k : ℕ) → IsExplained r rank shown most w log k → rank (stands r log k) ≤ v →
      IsKept r new (stands r log k) (length log)
  all_early log k e early =
      let c = matched.all log k (earlier r law rank ranked slots shown most v w log k e le early) in
      let way = matched.way c.entry c.at in
      let waits : IsWaiting w c.entry.1 = still_by c.entry c.entry.1.next way.next refl (stands r log k) c.same e.last in
      let shows : shown w c.entry.0 ≡ 0 = alike c.entry.0 (stands r log k) c.same ∙ shows_at_end log k e in
      kept_alike c.entry.0 (stands r log k) (length c.entry.1.log) (length log) c.same c.departures
      ((follow.all c.entry c.at).waits waits shows)

  -- the slot that a run goes on into was searched
  into_by : (log : List (ℕ × ℕ)) (k : ℕ) → IsExplained r rank shown most w log k → (i : ℕ) (lt : i < k) → rank (stands r log i) ≤ v →
      v < rank (stands r log (suc i)) → (c : S × Way S) → IsIn old c → r.same c.0 (stands r log i) ≡ true →
      length c.1.log ≤ length (between 0 i log) → (next : Option (Onward S)) → c.1.next ≡ next → GoesOn r rank c.0 next →
      IsKept r new (stands r log k) (length log)
  into_by log k e i lt before behind c at same few None is none =
      absurd (omega (arith, e.run i lt, none, law.width_same c.0 (stands r log i) same))
  into_by log k e i lt before behind c at same few (Some next) is goes =
      let t : S = stands r log i in
      let step : r.after t 0 ≡ stands r log (suc i) = goes_on r law rank ranked slots shown most v w log k e le i lt before behind in
      let first : r.same next.state (stands r log (suc i)) ≡ true = ap (r.same next.state) (sym step) ∙
      (goes_on_alike r law rank c.0 t (Some next) same goes).1 in
      let rank_is : next.rank ≡ rank (stands r log (suc i)) = next_rank r law rank ranked c.0 t next same goes ∙ ap rank step in
      let due : w ≤ rank (stands r log (suc i)) = omega (arith, rank_is, least c next at is) in
      let come : next.rank ≤ w = omega (arith, rank_is, rank_rises r rank ranked log (suc i) k e.run lt, e.begun) in
      let kept = (follow.all c at).ends next (is, come) (between (suc i) k log) (k - suc i) (stands r log k)
      (rest_few r law rank ranked slots shown most v w log k e le i lt before behind due)
      (rest r law rank ranked slots shown most v w log k e le i lt before behind next.state first due)
      (shows_at_end log k e) in
      kept_alike (stands r log k) (stands r log k) (length c.1.log + length (between (suc i) k log)) (length log)
      (law.reflexive (stands r log k))
      (omega (arith, few, both_few r law rank ranked slots shown most v w log k e le i lt before behind)) kept

  all_late : (log : List (ℕ × ℕ)) (k : ℕ) → IsExplained r rank shown most w log k → rank r.first ≤ v → v < rank (stands r log k) →
      IsKept r new (stands r log k) (length log)
  all_late log k e opens late =
      let p = passes (λ j. rank (stands r log j)) v k opens late in
      let i : ℕ = p.0 in
      let front = front_explained r law rank ranked slots shown most v w log k e le i p.1 p.2 p.3 in
      let c = matched.all (between 0 i log) i front in
      let there : stands r (between 0 i log) i ≡ stands r log i = sym
      (front_same r law rank ranked slots shown most v w log k e le i p.1 p.2 p.3 i (omega arith)) in
      let same : r.same c.entry.0 (stands r log i) ≡ true = ap (r.same c.entry.0) (sym there) ∙ c.same in
      let way = matched.way c.entry c.at in
      into_by log k e i p.1 p.2 p.3 c.entry c.at same c.departures c.entry.1.next refl way.next

  pub matched_next : rank r.first ≤ v → AreMatched r rank shown most w new
  matched_next opens = record {
    way = λ e at. (follow_both e at).0;
    explained = λ e at. (follow_both e at).1;
    all = λ log k e. elim (cases_lt v (rank (stands r log k))) [
      | inl late ↦ all_late log k e opens late
      | inr early ↦ all_early log k e early
    ];
  }

-- a candidate is explained up to each time before the next
pub matched_before : {S : Type 0} (r : Rules S) → IsLawful r → (rank : S → ℕ) → IsRanked r rank →
    (shown : ℕ → S → ℕ) (most v w : ℕ) (c : S × Way S) → IsAWay r rank c → IsExplained r rank shown most v c.1.log c.1.steps → v ≤ w →
    ShowsOn shown v (suc w) →
    ((next : Onward S) → c.1.next ≡ Some next → w < next.rank) → IsExplained r rank shown most w c.1.log c.1.steps
matched_before {S} r law rank ranked shown most v w c way e le on least =
    let t : S = stands r c.1.log c.1.steps in
    let here : IsAtEnd r rank c.1.log c.1.steps c.1.steps v = record
    { within = omega arith; mark = e.mark; ended = e.begun; next = λ less. absurd (omega (arith, less)) } in
    let shows : shown w t ≡ 0 = on w t le (omega arith) ∙ e.fits c.1.steps v here (omega arith) in
    let later : (next : Option (Onward S)) → c.1.next ≡ next → GoesOn r rank c.0 next →
    (r.width t ≡ 0) ⊎ (w < rank (r.after t 0)) = λ next. elim next as
    (λ (n : Option (Onward S)). c.1.next ≡ n → GoesOn r rank c.0 n → (r.width t ≡ 0) ⊎ (w < rank (r.after t 0))) [
      | None ↦ (λ is none. inl (sym (law.width_same c.0 t way.stands.at) ∙ none))
      | Some n ↦ (λ is goes. inr (omega (arith, least n is, next_rank r law rank ranked c.0 t n way.stands.at goes)))
    ] in
    waits_on r rank ranked shown most v w c.1.log c.1.steps e le (λ u s from before. on u s from (omega (arith, before))) shows
    (later c.1.next refl way.next)

-- the slot that runs open with is explained at its time
nothing_before : {S : Type 0} (r : Rules S) (rank : S → ℕ) (shown : ℕ → S → ℕ) (most : ℕ) → ComesTo r rank shown most (rank r.first) [] 0
nothing_before r rank shown most = record {
  run = λ k lt. absurd (omega (arith, lt));
  names = tt;
  rank_is = refl;
  fits = λ j u lt mark ended within next. absurd (omega (arith, lt));
  few = λ i j up lt none. absurd (omega (arith, lt));
  ends = λ i lt. absurd (omega (arith, lt));
}

opens_base : {S : Type 0} (r : Rules S) (rank : S → ℕ) (shown : ℕ → S → ℕ) (most : ℕ) (start : SlotStart S) → IsOpening r start →
    ComesTo r rank shown most (rank r.first) start.log start.steps
opens_base {S} r rank shown most start opening =
    let B : List (ℕ × ℕ) → Type 0 = λ l. ComesTo r rank shown most (rank r.first) l start.steps in
    let C : ℕ → Type 0 = λ n. ComesTo r rank shown most (rank r.first) [] n in
    subst B (sym opening.log) (subst C (sym opening.steps) (nothing_before r rank shown most))

opens_there : {S : Type 0} (r : Rules S) (start : SlotStart S) → IsOpening r start →
    r.same start.state (stands r start.log start.steps) ≡ true
opens_there {S} r start opening =
    let F : List (ℕ × ℕ) → Type 0 = λ l. r.same start.state (stands r l start.steps) ≡ true in
    let G : ℕ → Type 0 = λ n. r.same start.state (stands r [] n) ≡ true in
    subst F (sym opening.log) (subst G (sym opening.steps) opening.state)

pub near_first : {S : Type 0} (r : Rules S) → IsLawful r → (rank : S → ℕ) → IsRanked r rank → EndsSlots r rank →
    (shown : ℕ → S → ℕ) (most : ℕ)
    (start : SlotStart S) → IsOpening r start → (e : Explanation S) → EndsNear r most start e →
    IsNearRun r rank shown most (rank r.first) e
near_first r law rank ranked slots shown most start opening e h =
    end_near r law rank ranked slots shown most (rank r.first) start e (opens_base r rank shown most start opening)
    (opens_there r start opening) h

pub matched_first : {S : Type 0} (r : Rules S) → IsLawful r → (rank : S → ℕ) → IsRanked r rank → EndsSlots r rank →
    (shown : ℕ → S → ℕ) (most : ℕ) (start : SlotStart S) (new : List (S × Way S)) → IsOpening r start →
    ((s t : S) → r.same s t ≡ true → shown (rank r.first) s ≡ shown (rank r.first) t) →
    OpensWith r rank (shown (rank r.first)) most start new → AreMatched r rank shown most (rank r.first) new
matched_first {S} r law rank ranked slots shown most start new opening alike opens =
    let w : ℕ = rank r.first in
    let base = opens_base r rank shown most start opening in
    let first = opens_there r start opening in
    let both : (e : S × Way S) → IsIn new e →
    IsAWay r rank e × IsExplained r rank shown most w e.1.log e.1.steps = λ e at. end_stands r law rank ranked slots shown most w
    start e base first (opens.only e at) alike in
    let none : length start.log ≡ 0 = ap length opening.log in
    record {
      way = λ e at. (both e at).0;
      explained = λ e at. (both e at).1;
      all = λ log k e. (
          let whole = whole_slot r law rank ranked slots shown most log k e start.state opening.state in
          let at : IsAtEnd r rank log k k w = record
          { within = omega arith; mark = e.mark; ended = e.begun; next = λ less. absurd (omega (arith, less)) } in
          let kept = opens.all (between 0 k log) k (stands r log k) whole.1 whole.0 (e.fits k w at (omega arith)) in
          record {
            entry = kept.entry;
            at = kept.at;
            same = kept.same;
            departures = omega (arith, kept.departures, none, whole.2);
          });
    }
