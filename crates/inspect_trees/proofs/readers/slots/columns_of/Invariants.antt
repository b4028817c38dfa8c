use Rattle.vcd_slots.specs.Following.{IsFresh, IsSound}
use Rattle.inspect_trees.proofs.readers.slots.columns_of.Given as goal

abbrev pub invariant-loop-variable : goal.invariant-loop-variable
invariant-loop-variable l = record { sound : IsSound l.columns; fresh : IsFresh l.columns }
