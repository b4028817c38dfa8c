use Rattle.std.proofs.Common.{◌≡◌, arith, ap, sym, ◌∙◌}
use Rattle.workpool.specs.Tallies.{Seated}
use Rattle.workpool.proofs.RuleLemmas.{may_open}
use Rattle.workpool.proofs.tally.Tally.open.Goals as goal

pub fetch_add-requires : goal.fetch_add-requires
fetch_add-requires c =
    let part : c.seat.inside.seat.me.0.parts ≡ c.args.seat.now.parts = ap (λ (s : Seated). s.parts) c.seat.view_is in
    (ap (λ (s : Seated). s.tally) c.seat.view_is ∙ c.requires.here ∙ sym c.self.view_is, omega (arith, c.self.invariant.0), may_open _ _ _ (omega (arith, part, c.requires.part)))
