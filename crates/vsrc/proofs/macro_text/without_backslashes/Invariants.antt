use Rattle.std.proofs.Common.{◌≡◌, ◌-◌, ◌≤◌, ◌++◌, length, drop}
use Rattle.vsrc.specs.Macros.{without_backslashes}
use Rattle.vsrc.proofs.macro_text.without_backslashes.Given as goal

-- what was put and what is left make the whole
abbrev pub invariant-loop-at : goal.invariant-loop-at
invariant-loop-at l = record {
  within : l.at ≤ length l.text;
  whole : l.lines.items ++ without_backslashes (drop l.at l.text) ≡ without_backslashes l.text;
}

abbrev pub decreases-loop-at : goal.decreases-loop-at
decreases-loop-at l = length l.text - l.at
