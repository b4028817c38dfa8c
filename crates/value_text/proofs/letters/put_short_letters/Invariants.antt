use Rattle.std.proofs.Common.{◌≡◌, ◌++◌, ◌≤◌}
use Rattle.value_text.specs.ValueText as spec
use Rattle.value_text.proofs.letters.put_short_letters.Given as goal

abbrev pub invariant-loop-n : goal.invariant-loop-n
invariant-loop-n l =
    (l.n ≤ spec.byte_count l.value)
    × (l.text.items ++ spec.letters_in l.is_behind l.n l.value.letters ≡ l.initial.text.items ++ spec.short_letters l.value)

abbrev pub decreases-loop-n : goal.decreases-loop-n
decreases-loop-n l = l.n
