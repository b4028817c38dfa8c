use Rattle.vcd_slots.specs.Standing.{IsReady}
use Rattle.inspect_trees.proofs.readers.slots.put_slots.Given as goal

abbrev pub invariant-loop : goal.invariant-loop
invariant-loop l = IsReady l.slots
