use Rattle.std.proofs.Common.{◌≡◌, ◌<◌, ◌≤◌, ℕ, false, List, length, subst, inl, inr}
use Rattle.std.proofs.Math.Dec.{leb}
use Rattle.std.proofs.lemmas.Bool.{leb-true}
use Rattle.std.proofs.lemmas.Bool.Decides.{leb_tells}
use Rattle.basis.proofs.Bools.{clash}
use Rattle.matching.proofs.Kept.{longer, longer_none, no_longer}
use Rattle.matching.proofs.candidates.is_kept.Goals as goal

leb-false : (a b : ℕ) → leb a b ≡ false → b < a
leb-false a b h = elim (leb_tells a b) [
  | inl tells ↦ absurd (clash (leb a b) tells.0 h)
  | inr tells ↦ tells.1
]

pub returns-in-Some-clause-kept : goal.returns-in-Some-clause-kept
returns-in-Some-clause-kept g c = λ t.
    let P : List (ℕ × ℕ) → Type 0 = λ l. length l ≤ c.args.departures in
    no_longer g.S.PartialEq.eq c.args.candidates.now.entries c.args.state.now c.in-Some.way.now c.args.departures c.in-Some.ensures.value
    (subst P c.members.ensures.list (leb-true (length c.members.result.now) c.args.departures t))

pub returns-in-Some-clause-longer : goal.returns-in-Some-clause-longer
returns-in-Some-clause-longer g c = λ t.
    let P : List (ℕ × ℕ) → Type 0 = λ l. c.args.departures < length l in
    longer g.S.PartialEq.eq g.met.S.Eq.laws c.args.candidates.now.entries c.requires c.args.state.now c.in-Some.way.now c.args.departures
    c.in-Some.ensures.value (subst P c.members.ensures.list (leb-false (length c.members.result.now) c.args.departures t))

pub returns-in-None-clause-longer : goal.returns-in-None-clause-longer
returns-in-None-clause-longer g c = λ _. longer_none g.S.PartialEq.eq g.met.S.Eq.laws c.args.candidates.now.entries c.requires
    c.args.state.now c.args.departures c.in-None.ensures.value
