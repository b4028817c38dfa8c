use Rattle.std.proofs.Common.{◌≡◌, ◌-◌, ◌<◌, ◌≤◌, length, drop}
use Rattle.vsrc.specs.Outside.{further, block_end}
use Rattle.vsrc.proofs.outside.block_end.Given as goal

-- what is found from the last byte on is what is found in the whole
abbrev pub invariant-loop-at : goal.invariant-loop-at
invariant-loop-at l = record {
  some : 0 < l.at;
  within : l.at - 1 ≤ length l.text;
  whole : further (l.at - 1) (block_end (drop (l.at - 1) l.text)) ≡ block_end l.text;
}

abbrev pub decreases-loop-at : goal.decreases-loop-at
decreases-loop-at l = length l.text - l.at
