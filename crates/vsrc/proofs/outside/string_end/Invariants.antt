use Rattle.std.proofs.Common.{◌≡◌, ◌-◌, ◌≤◌, length}
use Rattle.vsrc.specs.Inner.{string_end_from}
use Rattle.vsrc.specs.Outside.{string_end}
use Rattle.vsrc.proofs.outside.string_end.Given as goal

-- what is found from here on is what is found in the whole
abbrev pub invariant-loop-at : goal.invariant-loop-at
invariant-loop-at l = record {
  within : l.at ≤ length l.text;
  whole : string_end_from l.text l.at ≡ string_end l.text;
}

abbrev pub decreases-loop-at : goal.decreases-loop-at
decreases-loop-at l = length l.text - l.at
