use Rattle.vcd_read.specs.Telling.{item_of}
use Rattle.vcd_slots.proofs.OrderLemmas.{lead_told, taken_time}
use Rattle.vcd_slots.proofs.slots.take.Goals as goal

pub returns-in-Some-clause-taken : goal.returns-in-Some-clause-taken
returns-in-Some-clause-taken c =
    taken_time c.args.columns.now c.args.shown (item_of c.args.item.now) c.in-Some.time c.time_taken.result c.in-Some.ensures c.time_taken.ensures

pub returns-then-tell-clause-taken : goal.returns-then-tell-clause-taken
returns-then-tell-clause-taken c =
    lead_told c.args.columns.now c.tell.new.self c.args.shown (item_of c.args.item.now) c.in-None.ensures (c.tell.ensures.show c.if-tell.true)
