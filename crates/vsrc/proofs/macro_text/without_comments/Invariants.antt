use Rattle.std.proofs.Common.{◌-◌, ◌≤◌, length}
use Rattle.vsrc.proofs.MacroLines.{Cut}
use Rattle.vsrc.proofs.macro_text.without_comments.Given as goal

-- what was put and what is left make the whole
abbrev pub invariant-loop-at : goal.invariant-loop-at
invariant-loop-at l = record {
  within : l.at ≤ length l.text;
  cut : Cut l.left.items l.text l.at;
}

abbrev pub decreases-loop-at : goal.decreases-loop-at
decreases-loop-at l = length l.text - l.at
