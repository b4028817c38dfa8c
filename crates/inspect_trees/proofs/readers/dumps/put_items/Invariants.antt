use Rattle.vcd_read.specs.Readers.{IsOpen}
use Rattle.inspect_trees.proofs.readers.dumps.put_items.Given as goal

abbrev pub invariant-loop : goal.invariant-loop
invariant-loop l = IsOpen l.dump
