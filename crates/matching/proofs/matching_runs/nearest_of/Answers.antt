use Rattle.std.proofs.Common.{inl, inr, refl}
use Rattle.matching.proofs.matching_runs.nearest_of.Goals as goal

pub returns-in-Some : goal.returns-in-Some
returns-in-Some g c = inl (c.in-Some.nearest, c.in-Some.is, refl)

pub returns-in-Some-waiting : goal.returns-in-Some-waiting
returns-in-Some-waiting g c = inr (c.in-Some-waiting.nearest, c.in-Some-waiting.is, refl)
