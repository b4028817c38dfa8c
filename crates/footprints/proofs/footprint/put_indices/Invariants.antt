use Rattle.std.proofs.Common.{◌≡◌, ◌++◌, drop}
use Rattle.std.specs.List.{flat_map}
use Rattle.footprints.specs.Footprints.{named_in_target}
use Rattle.footprints.proofs.footprint.put_indices.Given as goal

abbrev pub invariant-loop-target : goal.invariant-loop-target
invariant-loop-target l = l.things.items ++ flat_map named_in_target (drop l.target-index l.targets) ≡ l.initial.things.items ++ flat_map named_in_target l.targets
