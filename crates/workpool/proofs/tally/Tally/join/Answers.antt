use Rattle.std.proofs.Common.{arith, ap, sym, ◌∙◌}
use Rattle.workpool.specs.Tallies.{Seated}
use Rattle.workpool.proofs.RuleLemmas.{may_join}
use Rattle.workpool.proofs.tally.Tally.join.Goals as goal

pub join_seat-requires : goal.join_seat-requires
join_seat-requires c = (
  ap (λ (s : Seated). s.tally) c.seat.view_is ∙ c.requires.here ∙ sym c.self.view_is,
  ap (λ (s : Seated). s.tally) c.other.view_is ∙ c.requires.there ∙ sym c.self.view_is,
  c.other.invariant,
  omega (arith, c.self.invariant.0),
  may_join _ _ _ _,
)
