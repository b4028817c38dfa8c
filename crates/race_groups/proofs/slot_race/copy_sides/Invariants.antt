use Rattle.std.proofs.Common.{◌≡◌, ◌++◌, drop}
use Rattle.race_groups.proofs.slot_race.copy_sides.Given as goal

abbrev pub invariant-loop-side : goal.invariant-loop-side
invariant-loop-side l = l.copied.items ++ drop l.side-index l.sides ≡ l.sides
