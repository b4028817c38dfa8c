use Rattle.std.proofs.Common.{◌≡◌, ◌≤◌, length}
use Rattle.vcompile.specs.Links.{with_actions}
use Rattle.vcompile.proofs.links.link_actions.Given as goal

abbrev pub invariant-loop-n : goal.invariant-loop-n
invariant-loop-n l =
    (l.n ≤ length l.actions)
    × (with_actions l.actions l.n l.links ≡ with_actions l.actions (length l.actions) l.fn.links)

abbrev pub decreases-loop-n : goal.decreases-loop-n
decreases-loop-n l = l.n
