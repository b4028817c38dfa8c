use Rattle.std.proofs.Common.{◌≡◌, drop}
use Rattle.vcompile.specs.Links.{branch_bodies}
use Rattle.vcompile.specs.Whole.{are_chains}
use Rattle.vcompile.proofs.whole.are_branches.Given as goal

abbrev pub invariant-loop-branch : goal.invariant-loop-branch
invariant-loop-branch l =
    are_chains l.links l.owner (branch_bodies l.end (drop l.branch-index l.branches)) ≡ are_chains l.links l.owner (branch_bodies l.end l.branches)
