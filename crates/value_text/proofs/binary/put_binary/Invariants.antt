use Rattle.std.proofs.Common.{◌≡◌, ◌++◌, ◌≤◌, take, map, reverse, length}
use Rattle.value_text.specs.ValueText.{binary_digit}
use Rattle.value_text.proofs.binary.put_binary.Given as goal

abbrev pub invariant-loop-i : goal.invariant-loop-i
invariant-loop-i l =
    (l.i ≤ length l.value.letters)
    × (l.text.items ++ map binary_digit (reverse (take l.i l.value.letters)) ≡ l.initial.text.items ++ map binary_digit (reverse l.value.letters))

abbrev pub decreases-loop-i : goal.decreases-loop-i
decreases-loop-i l = l.i
