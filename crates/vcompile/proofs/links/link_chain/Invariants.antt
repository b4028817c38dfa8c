use Rattle.std.proofs.Common.{◌≡◌, ◌≤◌, drop, length}
use Rattle.vcompile.specs.Links.{first_point, with_chain}
use Rattle.vcompile.proofs.links.link_chain.Given as goal

abbrev pub invariant-loop-n : goal.invariant-loop-n
invariant-loop-n l =
    (l.n ≤ length l.places)
    × (l.links ≡ with_chain l.owner (drop l.n l.places) l.fn.end l.fn.links)
    × (l.next ≡ first_point (drop l.n l.places) l.fn.end)

abbrev pub decreases-loop-n : goal.decreases-loop-n
decreases-loop-n l = l.n
