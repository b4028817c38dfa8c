use Rattle.std.proofs.Common.{◌≡◌, ◌≤◌, length, drop}
use Rattle.std.specs.List.{list_all}
use Rattle.vbits.specs.Letters as letters
use Rattle.value_text.proofs.unknown.are_x.Given as goal

abbrev pub invariant-loop-i : goal.invariant-loop-i
invariant-loop-i l = (l.i ≤ length l.value.letters) × (list_all letters.is_x l.value.letters ≡ list_all letters.is_x (drop l.i l.value.letters))
