-- The runs that differ least, as they are kept.
use Rattle.std.proofs.Common.{◌≡◌, ℕ, ◌+◌, ◌≤◌, Option, Some, None, IfSome, inl, inr, refl, sym, subst}
use Rattle.sched_core.specs.Rules.{Rules}
use Rattle.matching.specs.Inner.Candidates.{EndsNear, NearFrom, begins}
use Rattle.matching.specs.Inner.Searching.{AddsNear, AreNear, IsNearOr, IsOneOfBoth, IsRunOf}
use Rattle.matching.specs.declared.answer.Explanation.{Explanation}
use Rattle.matching.specs.declared.candidates.Onward.{Onward}
use Rattle.matching.specs.declared.candidates.Way.{Way}
use Rattle.matching.specs.declared.search.Nearest.{Nearest}
use Rattle.matching.specs.declared.search.Search.{Search}

old_near : {S : Type 0} (P : Explanation S → Type 0) (old : Option (Nearest S)) → IsNearOr old P old
old_near P None = tt
old_near P (Some n) = inl refl

same_near : {S : Type 0} (P : Explanation S → Type 0) (old new : Option (Nearest S)) → new ≡ old → IsNearOr old P new
same_near {S} P old new same =
    let N : Option (Nearest S) → Type 0 = λ o. IsNearOr old P o in
    subst N (sym same) (old_near P old)

such_near : {S : Type 0} (P : Explanation S → Type 0) (old new : Option (Nearest S)) (n : Nearest S) → new ≡ Some n → P n.run →
    IsNearOr old P new
such_near {S} P old new n is such =
    let N : Option (Nearest S) → Type 0 = λ o. IsNearOr old P o in
    subst N (sym is) (inr such)

-- nothing new is kept
pub near_same : {S : Type 0} (P : Explanation S → Type 0) (old new : Search S) → new.ending ≡ old.ending → new.waiting ≡ old.waiting →
    AddsNear P old new
near_same P old new ending waiting = record {
  ending = same_near P old.ending new.ending ending;
  waiting = same_near P old.waiting new.waiting waiting;
}

-- such a run is kept
pub near_ending : {S : Type 0} (P : Explanation S → Type 0) (old new : Search S) (n : Nearest S) → new.ending ≡ Some n → P n.run →
    new.waiting ≡ old.waiting → AddsNear P old new
near_ending P old new n ending such waiting = record {
  ending = such_near P old.ending new.ending n ending such;
  waiting = same_near P old.waiting new.waiting waiting;
}

pub near_waiting : {S : Type 0} (P : Explanation S → Type 0) (old new : Search S) (n : Nearest S) → new.waiting ≡ Some n → P n.run →
    new.ending ≡ old.ending → AddsNear P old new
near_waiting P old new n waiting such ending = record {
  ending = same_near P old.ending new.ending ending;
  waiting = such_near P old.waiting new.waiting n waiting such;
}

near_through : {S : Type 0} (P : Explanation S → Type 0) (a b c : Option (Nearest S)) → IsNearOr a P b → IsNearOr b P c → IsNearOr a P c
near_through P a b None one two = tt
near_through {S} P a b (Some n) one (inl is) =
    let N : Option (Nearest S) → Type 0 = λ o. IsNearOr a P o in
    subst N is one
near_through P a b (Some n) one (inr such) = inr such

pub near_on : {S : Type 0} (P : Explanation S → Type 0) (a b c : Search S) → AddsNear P a b → AddsNear P b c → AddsNear P a c
near_on P a b c one two = record {
  ending = near_through P a.ending b.ending c.ending one.ending two.ending;
  waiting = near_through P a.waiting b.waiting c.waiting one.waiting two.waiting;
}

near_so_by : {S : Type 0} (P Q : Explanation S → Type 0) → ((e : Explanation S) → P e → Q e) → (a b : Option (Nearest S)) →
    IsNearOr a P b →
    IsNearOr a Q b
near_so_by P Q so a None h = tt
near_so_by P Q so a (Some n) (inl is) = inl is
near_so_by P Q so a (Some n) (inr such) = inr (so n.run such)

pub near_so : {S : Type 0} (P Q : Explanation S → Type 0) (a b : Search S) → ((e : Explanation S) → P e → Q e) → AddsNear P a b →
    AddsNear Q a b
near_so P Q a b so h = record {
  ending = near_so_by P Q so a.ending b.ending h.ending;
  waiting = near_so_by P Q so a.waiting b.waiting h.waiting;
}

-- what is added to such runs are such runs
are_by : {S : Type 0} (P Q : Explanation S → Type 0) → ((e : Explanation S) → P e → Q e) → (old new : Option (Nearest S)) →
    IfSome old (λ n. Q n.run) → IsNearOr old P new → IfSome new (λ n. Q n.run)
are_by P Q so old None are adds = tt
are_by {S} P Q so old (Some n) are (inl is) =
    let N : Option (Nearest S) → Type 0 = λ o. IfSome o (λ m. Q m.run) in
    subst N is are
are_by P Q so old (Some n) are (inr such) = so n.run such

pub are_more : {S : Type 0} (P Q : Explanation S → Type 0) (old new : Search S) → ((e : Explanation S) → P e → Q e) →
    AreNear Q old.ending old.waiting → AddsNear P old new → AreNear Q new.ending new.waiting
are_more P Q old new so are adds = record {
  ending = are_by P Q so old.ending new.ending are.ending adds.ending;
  waiting = are_by P Q so old.waiting new.waiting are.waiting adds.waiting;
}

none_by : {S : Type 0} (P : Explanation S → Type 0) (o : Option (Nearest S)) → o ≡ None → IfSome o (λ n. P n.run)
none_by {S} P o none =
    let N : Option (Nearest S) → Type 0 = λ o. IfSome o (λ n. P n.run) in
    subst N (sym none) tt

pub none_near : {S : Type 0} (P : Explanation S → Type 0) (search : Search S) → search.ending ≡ None → search.waiting ≡ None →
    AreNear P search.ending search.waiting
none_near P search ending waiting = record { ending = none_by P search.ending ending; waiting = none_by P search.waiting waiting }

so_by : {S : Type 0} (P Q : Explanation S → Type 0) (o : Option (Nearest S)) → ((e : Explanation S) → P e → Q e) →
    IfSome o (λ n. P n.run) →
    IfSome o (λ n. Q n.run)
so_by P Q None so h = tt
so_by P Q (Some n) so h = so n.run h

pub are_so : {S : Type 0} (P Q : Explanation S → Type 0) (ending waiting : Option (Nearest S)) → ((e : Explanation S) → P e → Q e) →
    AreNear P ending waiting → AreNear Q ending waiting
are_so P Q ending waiting so h = record { ending = so_by P Q ending so h.ending; waiting = so_by P Q waiting so h.waiting }

-- the run of one of both is such
one_by : {S : Type 0} (P : Explanation S → Type 0) (o : Option (Nearest S)) (e : Explanation S) → IfSome o (λ n. P n.run) →
    IsRunOf o e → P e
one_by {S} P o e h is =
    let N : Option (Nearest S) → Type 0 = λ x. IfSome x (λ n. P n.run) in
    subst P is.2 (subst N is.1 h)

pub one_near : {S : Type 0} (P : Explanation S → Type 0) (ending waiting : Option (Nearest S)) (nearest : Option (Explanation S)) →
    AreNear P ending waiting → IfSome nearest (IsOneOfBoth ending waiting) → IfSome nearest P
one_near P ending waiting None are is = tt
one_near P ending waiting (Some e) are (inl is) = one_by P ending e are.ending is
one_near P ending waiting (Some e) are (inr is) = one_by P waiting e are.waiting is

-- the end of the next slot comes from the candidate
pub goes_near : {S : Type 0} (r : Rules S) (most v : ℕ) (s : S) (way : Way S) (next : Onward S) (steps : ℕ) (e : Explanation S) →
    way.next ≡ Some next → next.rank ≤ v → steps ≡ way.steps + 1 → EndsNear r most (begins next.state way steps) e →
    NearFrom r most v (s, way) e
goes_near {S} r most v s way next steps e is due one ends =
    let E : ℕ → Type 0 = λ n. EndsNear r most (begins next.state way n) e in
    inr (record { next = next; due = (is, due); ends = subst E one ends })
