use Rattle.std.proofs.Common.{◌≡◌, ◌≤◌, drop, length}
use Rattle.value_text.specs.ValueText as spec
use Rattle.value_text.proofs.letters.known_number.Given as goal

abbrev pub invariant-loop-i : goal.invariant-loop-i
invariant-loop-i l = (l.i ≤ length l.bits.letters) × (l.number ≡ spec.known_number (drop l.i l.bits.letters))

abbrev pub decreases-loop-i : goal.decreases-loop-i
decreases-loop-i l = l.i
