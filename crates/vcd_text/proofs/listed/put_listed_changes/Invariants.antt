use Rattle.std.proofs.Common.{◌≡◌, ◌-◌, ◌++◌}
use Rattle.vcd_text.specs.DumpText.{changes, value_lines}
use Rattle.vcd_text.specs.Listed.{changes_from}
use Rattle.vcd_text.proofs.listed.put_listed_changes.Given as goal

abbrev pub invariant-loop-variable : goal.invariant-loop-variable
invariant-loop-variable l =
    l.text.items ++ value_lines (changes_from l.from l.marks l.old l.new)
    ≡ l.initial.text.items ++ value_lines (changes 0 l.marks l.old l.new)

-- how many numbers of variables there are from there on
abbrev pub decreases-loop-variable : goal.decreases-loop-variable
decreases-loop-variable l = 4294967296 - l.from
