use Rattle.vcd_slots.proofs.UnitLemmas.{if_product}
use Rattle.vcd_slots.proofs.units.time_multiplied.Goals as goal

pub returns : goal.returns
returns c = if_product c.args.time c.args.told c.args.shown 18446744073709551616 c.checked_mul.result c.requires.whole c.checked_mul.ensures
