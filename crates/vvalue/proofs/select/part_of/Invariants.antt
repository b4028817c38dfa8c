use Rattle.std.proofs.Common.{◌≡◌}
use Rattle.vvalue.specs.Value.{part_of}
use Rattle.vvalue.proofs.select.part_of.Given as goal

abbrev pub invariant-loop-place : goal.invariant-loop-place
invariant-loop-place l = l.read ≡ part_of l.value l.bounds l.part l.place
