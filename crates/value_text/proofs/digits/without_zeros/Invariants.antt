use Rattle.std.proofs.Common.{◌≡◌, length}
use Rattle.value_text.specs.ValueText as spec
use Rattle.value_text.proofs.digits.without_zeros.Given as goal

abbrev pub invariant-zeros : goal.invariant-zeros
invariant-zeros l = spec.without_zeros l.rest ≡ spec.without_zeros l.initial.rest

abbrev pub decreases-zeros : goal.decreases-zeros
decreases-zeros l = length l.rest
