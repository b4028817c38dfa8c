use Rattle.std.proofs.Common.{◌≡◌, ◌++◌, ◌*◌, ◌+◌, ◌<◌, length}
use Rattle.value_text.specs.ValueText as spec
use Rattle.value_text.proofs.digits.put_hexadecimal.Given as goal

abbrev pub invariant-loop-n : goal.invariant-loop-n
invariant-loop-n l =
    (4 * l.n < length l.value.letters + 4)
    × (l.text.items ++ spec.digits_of 4 l.n l.value.letters ≡ l.initial.text.items ++ spec.hexadecimal l.value)

abbrev pub decreases-loop-n : goal.decreases-loop-n
decreases-loop-n l = l.n
