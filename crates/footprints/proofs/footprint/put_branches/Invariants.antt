use Rattle.std.proofs.Common.{◌≡◌, ◌++◌, drop}
use Rattle.std.specs.List.{flat_map}
use Rattle.footprints.specs.Footprints.{named_in_branch}
use Rattle.footprints.proofs.footprint.put_branches.Given as goal

abbrev pub invariant-loop-branch : goal.invariant-loop-branch
invariant-loop-branch l = l.things.items ++ flat_map named_in_branch (drop l.branch-index l.branches) ≡ l.initial.things.items ++ flat_map named_in_branch l.branches
