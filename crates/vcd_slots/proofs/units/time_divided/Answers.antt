use Rattle.std.proofs.Common.{arith}
use Rattle.vcd_slots.proofs.UnitLemmas.{by_quotient}
use Rattle.vcd_slots.proofs.units.time_divided.Goals as goal

pub returns : goal.returns
returns c = by_quotient c.args.time c.args.told c.args.shown c.requires.whole (omega (arith, c.if-time-parts-ne0.false))
