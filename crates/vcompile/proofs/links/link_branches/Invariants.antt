use Rattle.std.proofs.Common.{◌≡◌, drop}
use Rattle.vcompile.specs.Links.{branch_bodies, with_bodies}
use Rattle.vcompile.proofs.links.link_branches.Given as goal

abbrev pub invariant-loop-branch : goal.invariant-loop-branch
invariant-loop-branch l =
    with_bodies l.owner (branch_bodies l.end (drop l.branch-index l.branches)) l.links
    ≡ with_bodies l.owner (branch_bodies l.end l.branches) l.initial.links
