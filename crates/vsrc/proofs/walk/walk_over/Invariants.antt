use Rattle.std.proofs.Common.{◌≤◌, ◌-◌, length}
use Rattle.vsrc.specs.Walking.{state_of}
use Rattle.vsrc.proofs.Whole.{Comes}
use Rattle.vsrc.proofs.walk.walk_over.Given as goal

abbrev pub invariant-loop-walk : goal.invariant-loop-walk
invariant-loop-walk l = record {
  within : l.walk.at ≤ length l.text;
  comes : Comes l.text (state_of l.walk);
}

abbrev pub decreases-loop-walk : goal.decreases-loop-walk
decreases-loop-walk l = length l.text - l.walk.at
