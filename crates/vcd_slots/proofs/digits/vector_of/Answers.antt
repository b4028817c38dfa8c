use Rattle.std.proofs.Common.{◌-◌, length, ap, sym, ◌∙◌, arith}
use Rattle.vcd_slots.specs.Slots.{whole_vector}
use Rattle.vcd_slots.proofs.DigitLemmas.{none_counted}
use Rattle.vcd_slots.proofs.digits.vector_of.Goals as goal

pub returns-then-digits-width : goal.returns-then-digits-width
returns-then-digits-width c =
    c.whole_vector.ensures
    ∙ sym (ap (whole_vector c.args.width) (none_counted (length c.args.digits.now - c.args.width) c.args.digits.now (omega (arith, c.if-digits-width.true))))
