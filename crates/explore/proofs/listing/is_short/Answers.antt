use Rattle.std.proofs.Common.{◌≡◌, ◌<◌, ◌≤◌, ℕ, Bool, true, false, List, length, arith, subst, inl, inr}
use Rattle.std.proofs.Math.Dec.{leb}
use Rattle.std.proofs.lemmas.Bool.{leb-true}
use Rattle.std.proofs.lemmas.Bool.Decides.{leb_tells}
use Rattle.explore.proofs.ListingLemmas.{long_from, long_from_none, short_from}
use Rattle.explore.proofs.listing.is_short.Goals as goal

not_both : (b : Bool) → b ≡ true → b ≡ false → ⊥
not_both b h k = cc

leb-false : (a b : ℕ) → leb a b ≡ false → b ≤ a
leb-false a b h = elim (leb_tells a b) [
  | inl tells ↦ absurd (not_both (leb a b) tells.0 h)
  | inr tells ↦ (let lt : b < a = tells.1 in omega (arith, lt))
]

pub returns-in-Some-clause-short : goal.returns-in-Some-clause-short
returns-in-Some-clause-short g c = λ t.
    let P : List (ℕ × ℕ) → Type 0 = λ l. length l ≤ c.args.departures in
    short_from g.S.PartialEq.eq c.args.marks.now.entries c.args.state.now c.in-Some.log.now c.args.departures c.in-Some.ensures.value (subst P c.members.ensures.list (leb-true (length c.members.result.now) c.args.departures t))

pub returns-in-Some-clause-long : goal.returns-in-Some-clause-long
returns-in-Some-clause-long g c = λ t.
    let P : List (ℕ × ℕ) → Type 0 = λ l. c.args.departures ≤ length l in
    long_from g.S.PartialEq.eq g.met.S.Eq.laws c.args.marks.now.entries c.requires c.args.state.now c.in-Some.log.now c.args.departures c.in-Some.ensures.value (subst P c.members.ensures.list (leb-false (length c.members.result.now) c.args.departures t))

pub returns-in-None-clause-long : goal.returns-in-None-clause-long
returns-in-None-clause-long g c = λ _. long_from_none g.S.PartialEq.eq g.met.S.Eq.laws c.args.marks.now.entries c.requires c.args.state.now c.args.departures c.in-None.ensures.value
