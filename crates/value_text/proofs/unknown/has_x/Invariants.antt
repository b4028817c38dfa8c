use Rattle.std.proofs.Common.{◌≡◌, ◌≤◌, length, drop}
use Rattle.std.specs.List.{list_any}
use Rattle.vbits.specs.Letters as letters
use Rattle.value_text.proofs.unknown.has_x.Given as goal

abbrev pub invariant-loop-i : goal.invariant-loop-i
invariant-loop-i l = (l.i ≤ length l.value.letters) × (list_any letters.is_x l.value.letters ≡ list_any letters.is_x (drop l.i l.value.letters))
