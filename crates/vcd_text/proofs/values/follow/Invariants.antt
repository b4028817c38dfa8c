use Rattle.std.proofs.Common.{◌≡◌, ◌++◌, drop, take, length}
use Rattle.vcd_text.specs.DumpText.{following}
use Rattle.vcd_text.proofs.values.follow.Given as goal

abbrev pub invariant-loop-i : goal.invariant-loop-i
invariant-loop-i l =
    (length l.name.items ≡ length l.initial.name.items)
    × (drop l.i l.name.items ≡ drop l.i l.initial.name.items)
    × (take l.i l.name.items ++ following (drop l.i l.initial.name.items) ≡ following l.initial.name.items)
