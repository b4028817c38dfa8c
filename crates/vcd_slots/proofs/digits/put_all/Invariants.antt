use Rattle.std.proofs.Common.{◌≡◌, ◌+◌, false, length, drop}
use Rattle.vcd_slots.specs.Slots.{put_digits}
use Rattle.vcd_slots.proofs.digits.put_all.Given as goal

abbrev pub invariant-loop-digit : goal.invariant-loop-digit
invariant-loop-digit l = record {
  len : length l.vector.letters ≡ length l.fn.start.letters + l.digit-index;
  put : put_digits l.vector.letters (drop l.digit-index l.digits) ≡ put_digits l.fn.start.letters l.fn.digits;
  unsigned : l.vector.signed ≡ false;
}
