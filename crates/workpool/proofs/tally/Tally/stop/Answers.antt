use Rattle.std.proofs.Common.{arith, ap, sym, ◌∙◌}
use Rattle.workpool.specs.Tallies.{Seated}
use Rattle.workpool.proofs.RuleLemmas.{may_stop}
use Rattle.workpool.proofs.tally.Tally.stop.Goals as goal

pub store-requires : goal.store-requires
store-requires c = (ap (λ (s : Seated). s.tally) c.seat.view_is ∙ c.requires ∙ sym c.self.view_is, omega (arith, c.self.invariant.0), may_stop _ _ _)
