-- The ends of a slot that were found, as candidates.
use Rattle.std.proofs.Common.{◌≡◌, ℕ, ◌+◌, ◌<◌, ◌≤◌, suc, true, List, [], ◌∷◌, ◌++◌, length, slice_get, Option, Some, IfSome, inl, inr}
use Rattle.std.proofs.Common.{◌⊎◌, arith, ap, refl, sym, ◌∙◌, subst}
use Rattle.std.proofs.lemmas.Bool.{cases_lt}
use Rattle.std.proofs.lemmas.Option.{same_Some}
use Rattle.sched_core.specs.Rules.{Rules, IsLawful, stands, choice_at}
use Rattle.statebook.specs.Covered.{IsCovered}
use Rattle.statebook.specs.declared.limits.Limits.{Limits}
use Rattle.explore.specs.Found.{AreFound, IsFound, IsListedMark}
use Rattle.matching.specs.Slots.{IsRunTo, one_slot}
use Rattle.matching.specs.Inner.Candidates.{FollowAll, Follows, GoesOn, IsAWay, IsEndOf, IsFittingEnd, IsIn, IsKept, Keeps, KeepsAll}
use Rattle.matching.specs.Inner.Candidates.{KeepsEnds, KeepsFollowing, KeepsFound, begins}
use Rattle.matching.specs.Inner.Searching.{Extends, OpensWith}
use Rattle.matching.specs.Inner.Slots.{log_later}
use Rattle.matching.specs.declared.candidates.Onward.{Onward}
use Rattle.matching.specs.declared.candidates.Way.{Way}
use Rattle.matching.specs.declared.search.Search.{Search}
use Rattle.matching.specs.declared.slot.SlotStart.{SlotStart}
use Rattle.matching.proofs.Explaining.{joined_at, joined_mark, joined_names, joined_run}
use Rattle.matching.proofs.JoinedLogs.{choice_beyond, names_more}
use Rattle.matching.proofs.Kept.{in_first, in_later, in_none, in_rest}
use Rattle.matching.proofs.Matched.{goes_on_alike}

-- the run to the end of a slot
pub stands_end : {S : Type 0} (r : Rules S) → IsLawful r → (most : ℕ) (start : SlotStart S) (s : S) (log : List (ℕ × ℕ)) (steps : ℕ) →
    IsRunTo r start.state start.log start.steps → IsEndOf r most start s log steps → IsRunTo r s log steps × (r.mark s ≡ true)
stands_end {S} r law most start s log steps from h =
    let whole : List (ℕ × ℕ) = start.log ++ log_later start.steps h.slot in
    let n : ℕ = start.steps + h.count in
    let at : r.same s (stands r whole n) ≡ true = joined_at r law start.log start.steps from.run from.names start.state h.slot h.count s
    from.at h.ends in
    let there : IsRunTo r s whole n = record {
      run = joined_run r law start.log start.steps from.run from.names start.state h.slot h.count s from.at h.ends;
      names = joined_names r law start.log start.steps from.run from.names start.state h.slot h.count s from.at h.ends;
      at = at;
    } in
    let P : List (ℕ × ℕ) → Type 0 = λ l. IsRunTo r s l steps in
    let Q : ℕ → Type 0 = λ k. IsRunTo r s whole k in (
      subst P (sym h.log_is) (subst Q (sym h.steps_is) there),
      law.mark_same s (stands r whole n) at ∙ joined_mark r law start.log start.steps from.run from.names start.state h.slot h.count s
          from.at h.ends,
    )

pub extends_on : {S : Type 0} (r : Rules S) (P : S × Way S → Type 0) (a b c : Search S) → Extends r P a b → Extends r P b c →
    Extends r P a c
extends_on r P a b c one two = record {
  time = two.time ∙ one.time;
  adds = λ e at. elim (two.adds e at) [ inl before ↦ one.adds e before | inr new ↦ inr new ];
  all = λ s d kept. two.all s d (one.all s d kept);
}

-- nothing has changed
pub extends_none : {S : Type 0} (r : Rules S) (P : S × Way S → Type 0) (a : Search S) → Extends r P a a
extends_none r P a = record { time = refl; adds = λ e at. inl at; all = λ s d kept. kept }

-- an end in which nothing differs is a candidate
pub extends_end : {S : Type 0} (r : Rules S) → IsLawful r →
    (rank differ : S → ℕ) (most : ℕ) (start : SlotStart S) (s : S) (way : Way S) (old new : Search S) →
    ((s t : S) → r.same s t ≡ true → differ s ≡ differ t) → IsEndOf r most start s way.log way.steps → differ s ≡ 0 →
    GoesOn r rank s way.next →
    new.time ≡ old.time → Keeps r s way old.candidates.entries new.candidates.entries →
    Extends r (IsFittingEnd r rank differ most start) old new
extends_end {S} r law rank differ most start s way old new alike h none next time keeps = record {
  time = time;
  adds = λ e at. elim (keeps.adds e at) [
    | inl before ↦ inl before
    | inr is ↦ (
        let F : Way S → Type 0 = λ w. IsFittingEnd r rank differ most start (e.0, w) in
        let t = stands (one_slot r start.state) h.slot h.count in
        inr (subst F (sym is.1) (record {
          ends = record {
            slot = h.slot;
            count = h.count;
            ends = record {
              run = h.ends.run;
              names = h.ends.names;
              mark = h.ends.mark;
              at = law.transitive e.0 s t (law.symmetric s e.0 is.0) h.ends.at;
            };
            short = h.short;
            log_is = h.log_is;
            steps_is = h.steps_is;
          };
          fits = sym (alike s e.0 is.0) ∙ none;
          next = goes_on_alike r law rank s e.0 way.next is.0 next;
        })))
  ];
  all = keeps.all;
}

pub kept_end : {S : Type 0} (r : Rules S) (s t : S) (way : Way S) (old new : List (S × Way S)) (d : ℕ) → Keeps r s way old new → s ≡ t →
    length way.log ≡ d → IsKept r new t d
kept_end {S} r s t way old new d keeps same count =
    let P : S → Type 0 = λ x. IsKept r new x d in
    let K : ℕ → Type 0 = λ n. IsKept r new s n in
    subst P same (subst K count keeps.kept)

-- of the ends that were found those that aren't left are taken in
pub record TakenIn {S : Type 0} (r : Rules S) (limits : Limits) (differ : S → ℕ) (start : SlotStart S)
    (marks left : List (S × List (ℕ × ℕ))) (entries : List (S × Way S)) : Type 0 where
  pub found : (p : S × List (ℕ × ℕ)) → IsIn left p → IsFound (one_slot r start.state) limits p
  pub kept : (p : S × List (ℕ × ℕ)) → IsIn marks p → IsIn left p ⊎ (differ p.0 ≡ 0 → IsKept r entries p.0 (length start.log + length p.1))

-- at first none was taken in
pub nothing_taken : {S : Type 0} (r : Rules S) (limits : Limits) (differ : S → ℕ) (start : SlotStart S)
    (marks left : List (S × List (ℕ × ℕ))) (entries : List (S × Way S)) → left ≡ marks → AreFound (one_slot r start.state) limits marks →
    TakenIn r limits differ start marks left entries
nothing_taken {S} r limits differ start marks left entries all found = record {
  found = λ p at. (
      let there : slice_get marks at.0 ≡ Some p = ap (λ l. slice_get l at.0) (sym all) ∙ at.1 in
      found at.0 p there);
  kept = λ p at. inl (at.0, ap (λ l. slice_get l at.0) all ∙ at.1);
}

pub one_taken : {S : Type 0} (r : Rules S) (limits : Limits) (differ : S → ℕ) (start : SlotStart S)
    (marks left rest : List (S × List (ℕ × ℕ))) (s : S) (log : List (ℕ × ℕ)) (old new : List (S × Way S)) →
    TakenIn r limits differ start marks left old → left ≡ (s, log) ∷ rest → KeepsAll r old new →
    (differ s ≡ 0 → IsKept r new s (length start.log + length log)) → TakenIn r limits differ start marks rest new
one_taken {S} r limits differ start marks left rest s log old new h first all now = record {
  found = λ p at. h.found p (in_later left rest (s, log) p first at);
  kept = λ p at. elim (h.kept p at) [
    | inl there ↦ elim (in_rest left rest (s, log) p first there) [
      | inl itself ↦ (
          let K : S × List (ℕ × ℕ) → Type 0 = λ q. differ q.0 ≡ 0 → IsKept r new q.0 (length start.log + length q.1) in
          inr (subst K itself now))
      | inr later ↦ inl later
    ]
    | inr before ↦ inr (λ none. all p.0 (length start.log + length p.1) (before none))
  ];
}

pub all_taken : {S : Type 0} (r : Rules S) (limits : Limits) (differ : S → ℕ) (start : SlotStart S)
    (marks left : List (S × List (ℕ × ℕ))) (entries : List (S × Way S)) → TakenIn r limits differ start marks left entries → left ≡ [] →
    KeepsFound r differ (length start.log) marks entries
all_taken r limits differ start marks left entries h none p at = elim (h.kept p at)
    [ inl there ↦ absurd (in_none left p none there) | inr kept ↦ kept ]

-- all ends of a slot were found
pub ends_kept : {S : Type 0} (r : Rules S) → IsLawful r →
    (differ : S → ℕ) (most : ℕ) (start : SlotStart S) (marks : List (S × List (ℕ × ℕ))) (entries : List (S × Way S)) →
    ((s t : S) → r.same s t ≡ true → differ s ≡ differ t) →
    IsCovered (one_slot r start.state) most (IsListedMark (one_slot r start.state) marks) →
    KeepsFound r differ (length start.log) marks entries → KeepsEnds r differ most start entries
ends_kept {S} r law differ most start marks entries alike covered kept log n s short end none =
    let t : S = stands (one_slot r start.state) log n in
    let l = covered log n short end.run end.mark in
    let same : r.same l.found.0 s ≡ true = law.transitive l.found.0 t s l.same (law.symmetric s t end.at) in
    let h = kept l.found (l.place, l.at) (alike l.found.0 s same ∙ none) in
    record {
      entry = h.entry;
      at = h.at;
      same = law.transitive h.entry.0 l.found.0 s h.same same;
      departures = omega (arith, h.departures, l.departures);
    }

-- a run that goes on from a candidate stands at the beginning of its next slot
pub stands_next : {S : Type 0} (r : Rules S) → IsLawful r → (rank : S → ℕ) (s : S) (way : Way S) (next : Onward S) →
    IsAWay r rank (s, way) → way.next ≡ Some next → IsRunTo r next.state way.log (way.steps + 1)
stands_next {S} r law rank s way next h is =
    let k : ℕ = way.steps in
    let t : S = stands r way.log k in
    let G : Option (Onward S) → Type 0 = λ n. GoesOn r rank s n in
    let on = goes_on_alike r law rank s t (Some next) h.stands.at (subst G is h.next) in
    let none : choice_at way.log k ≡ 0 = choice_beyond way.log k k h.stands.names (omega arith) in
    let one : suc k ≡ k + 1 = omega arith in
    let P : ℕ → Type 0 = λ n. IsRunTo r next.state way.log n in
    subst P one (record {
      run = λ j lt. elim (cases_lt j k) [
        | inl before ↦ h.stands.run j before
        | inr ge ↦ (
            let itself : k ≡ j = omega (arith, ge, lt) in
            let Q : ℕ → Type 0 = λ i. choice_at way.log i < r.width (stands r way.log i) in
            subst Q itself (omega (arith, none, on.0)))
      ];
      names = names_more way.log k (suc k) h.stands.names (omega arith);
      at = ap (λ i. r.same next.state (r.after t i)) none ∙ on.1;
    })

-- what follows from a candidate whose next slot was searched
pub follows_into : {S : Type 0} (r : Rules S) (differ : S → ℕ) (most v : ℕ) (s : S) (way : Way S) (next : Onward S) (steps : ℕ)
    (entries : List (S × Way S)) → way.next ≡ Some next → next.rank ≤ v → steps ≡ way.steps + 1 →
    KeepsEnds r differ most (begins next.state way steps) entries → KeepsFollowing r differ most v (s, way) entries
follows_into {S} r differ most v s way next steps entries is due one kept = record {
  waits = λ waiting none. (
      let W : Option (Onward S) → Type 0 = λ n. IfSome n (λ x. v < x.rank) in
      let later : v < next.rank = subst W is waiting in
      absurd (omega (arith, later, due)));
  ends = λ other also. (
      let same : next ≡ other = same_Some next other (sym is ∙ also.0) in
      let E : ℕ → Type 0 = λ n. KeepsEnds r differ most (begins next.state way n) entries in
      let K : Onward S → Type 0 = λ x. KeepsEnds r differ most (begins x.state way (way.steps + 1)) entries in
      subst K same (subst E one kept));
}

pub extends_into : {S : Type 0} (r : Rules S) (rank differ : S → ℕ) (most v : ℕ) (s : S) (way : Way S) (next : Onward S) (steps : ℕ)
    (old new : Search S) → way.next ≡ Some next → next.rank ≤ v → steps ≡ way.steps + 1 →
    Extends r (IsFittingEnd r rank differ most (begins next.state way steps)) old new →
    Extends r (Follows r rank differ most v (s, way)) old new
extends_into {S} r rank differ most v s way next steps old new is due one h = record {
  time = h.time;
  adds = λ e at. elim (h.adds e at) [
    | inl before ↦ inl before
    | inr end ↦ (
        let E : ℕ → Type 0 = λ n. IsFittingEnd r rank differ most (begins next.state way n) e in
        inr (inr (record { next = next; due = (is, due); ends = subst E one end })))
  ];
  all = h.all;
}

following_more : {S : Type 0} (r : Rules S) (differ : S → ℕ) (most v : ℕ) (c : S × Way S) (old new : List (S × Way S)) →
    KeepsAll r old new → KeepsFollowing r differ most v c old → KeepsFollowing r differ most v c new
following_more r differ most v c old new all h = record {
  waits = λ waiting none. all c.0 (length c.1.log) (h.waits waiting none);
  ends = λ next due log n s short end none. all s (length c.1.log + length log) (h.ends next due log n s short end none);
}

-- what follows from the candidates that aren't left
pub record FollowedSoFar {S : Type 0} (r : Rules S) (rank differ : S → ℕ) (most v : ℕ) (old left new : List (S × Way S)) : Type 0 where
  pub those : (c : S × Way S) → IsIn left c → IsIn old c
  pub only : (e : S × Way S) → IsIn new e → (c : S × Way S) × IsIn old c × Follows r rank differ most v c e
  pub all : (c : S × Way S) → IsIn old c → IsIn left c ⊎ KeepsFollowing r differ most v c new

pub one_followed : {S : Type 0} (r : Rules S) (rank differ : S → ℕ) (most v : ℕ) (old left rest : List (S × Way S)) (s : S) (way : Way S)
    (one two : Search S) → FollowedSoFar r rank differ most v old left one.candidates.entries → left ≡ (s, way) ∷ rest →
    Extends r (Follows r rank differ most v (s, way)) one two →
    KeepsFollowing r differ most v (s, way) two.candidates.entries → FollowedSoFar r rank differ most v old rest two.candidates.entries
one_followed {S} r rank differ most v old left rest s way one two h first extends keeps = record {
  those = λ c at. h.those c (in_later left rest (s, way) c first at);
  only = λ e at. elim (extends.adds e at) [
    | inl before ↦ h.only e before
    | inr follows ↦ ((s, way), h.those (s, way) (in_first left rest (s, way) first), follows)
  ];
  all = λ c at. elim (h.all c at) [
    | inl there ↦ elim (in_rest left rest (s, way) c first there) [
      | inl itself ↦ (
          let K : S × Way S → Type 0 = λ x. KeepsFollowing r differ most v x two.candidates.entries in
          inr (subst K itself keeps))
      | inr later ↦ inl later
    ]
    | inr before ↦ inr (following_more r differ most v c one.candidates.entries two.candidates.entries extends.all before)
  ];
}

pub all_followed : {S : Type 0} (r : Rules S) (rank differ : S → ℕ) (most v : ℕ) (old left new : List (S × Way S)) →
    FollowedSoFar r rank differ most v old left new → left ≡ [] → FollowAll r rank differ most v old new
all_followed r rank differ most v old left new h none = record {
  only = h.only;
  all = λ c at. elim (h.all c at) [ inl there ↦ absurd (in_none left c none there) | inr keeps ↦ keeps ];
}

-- the ends of the first slot are all candidates
pub opens_with : {S : Type 0} (r : Rules S) (rank differ : S → ℕ) (most : ℕ) (start : SlotStart S) (old new : Search S) →
    old.candidates.entries ≡ [] → Extends r (IsFittingEnd r rank differ most start) old new →
    KeepsEnds r differ most start new.candidates.entries → OpensWith r rank differ most start new.candidates.entries
opens_with r rank differ most start old new none extends ends = record {
  only = λ e at. elim (extends.adds e at) [ inl before ↦ absurd (in_none old.candidates.entries e none before) | inr new_one ↦ new_one ];
  all = ends;
}
