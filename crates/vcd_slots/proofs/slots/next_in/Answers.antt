use Rattle.vcd_slots.proofs.SlotLemmas.{comes_so}
use Rattle.vcd_slots.proofs.slots.next_in.Goals as goal

pub returns-in-Some-item-clause-item : goal.returns-in-Some-item-clause-item
returns-in-Some-item-clause-item g c =
    comes_so g.R.Read.remaining c.args.units c.args.dump.now c.next.new.self c.in_ok-item.field-0 c.in-Some.item c.item.result c.in-Some-item.now
    c.in-Some.is c.in_ok-item.ensures.item c.in-Some-item.is c.item.ensures
