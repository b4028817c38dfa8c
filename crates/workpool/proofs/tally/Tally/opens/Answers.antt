use Rattle.std.proofs.Common.{arith, ap, sym, ◌∙◌}
use Rattle.workpool.specs.Tallies.{Seated}
use Rattle.workpool.proofs.RuleLemmas.{may_read_opens}
use Rattle.workpool.proofs.tally.Tally.opens.Goals as goal

pub load-requires : goal.load-requires
load-requires c = (ap (λ (s : Seated). s.tally) c.seat.view_is ∙ c.requires ∙ sym c.self.view_is, omega (arith, c.self.invariant.0), may_read_opens _ _ _)
