use Rattle.std.proofs.Common.{◌≡◌, ◌+◌, ◌-◌, ◌≤◌, length, take}
use Rattle.std.specs.List.{suffix_len}
use Rattle.vcd_text.proofs.HeaderLemmas.{is_no_dot}
use Rattle.vcd_text.proofs.header.own_name.Given as goal

abbrev pub invariant-loop-start : goal.invariant-loop-start
invariant-loop-start l =
    (l.start ≤ length l.name)
    × (suffix_len is_no_dot (take l.start l.name) + (length l.name - l.start) ≡ suffix_len is_no_dot l.name)

abbrev pub decreases-loop-start : goal.decreases-loop-start
decreases-loop-start l = l.start
