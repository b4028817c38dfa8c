use Rattle.std.proofs.Common.{◌≡◌, ◌++◌, drop}
use Rattle.std.specs.List.{flat_map}
use Rattle.cause.specs.Behind.{places_in_branch}
use Rattle.cause.proofs.block.put_branches.Given as goal

abbrev pub invariant-loop-branch : goal.invariant-loop-branch
invariant-loop-branch l = l.places.items ++ flat_map places_in_branch (drop l.branch-index l.branches) ≡ l.initial.places.items ++ flat_map places_in_branch l.branches
