use Rattle.std.proofs.Common.{◌≡◌, ◌≤◌, length, drop}
use Rattle.racebook.specs.Order.{text_number}
use Rattle.racebook.proofs.key.number.Given as goal

abbrev pub decreases-digits : goal.decreases-digits
decreases-digits l = l.left

abbrev pub invariant-digits : goal.invariant-digits
invariant-digits l = record {
  within : l.left ≤ length l.value.letters;
  number_is : l.number ≡ text_number (drop l.left l.value.letters);
}
