use Rattle.std.proofs.Common.{◌≡◌, ◌++◌, drop}
use Rattle.race_groups.proofs.slot_race.copy_witnesses.Given as goal

abbrev pub invariant-loop-witness : goal.invariant-loop-witness
invariant-loop-witness l = l.copied.items ++ drop l.witness-index l.values ≡ l.values
