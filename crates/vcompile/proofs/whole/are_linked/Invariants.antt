use Rattle.std.proofs.Common.{◌≡◌, drop}
use Rattle.vcompile.specs.Whole.{are_linked}
use Rattle.vcompile.proofs.whole.are_linked.Given as goal

abbrev pub invariant-loop-action : goal.invariant-loop-action
invariant-loop-action l =
    (l.place ≡ l.action-index)
    × (are_linked l.links l.place (drop l.action-index l.actions) ≡ are_linked l.links 0 l.actions)
