use Rattle.std.proofs.Common.{arith}
use Rattle.vcd_slots.proofs.PutLemmas.{forgotten, none_more}
use Rattle.vcd_slots.proofs.columns.forget.Goals as goal

pub returns : goal.returns
returns c = forgotten c.loop-value.told c.loop-value.value-index (omega arith) c.loop-value.invariant

pub loop-value-preserved : goal.loop-value-preserved
loop-value-preserved c = none_more c.loop-value.told c.loop-value.value-index (omega arith) c.loop-value.invariant
