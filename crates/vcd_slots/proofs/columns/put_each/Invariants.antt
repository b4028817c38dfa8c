use Rattle.vcd_slots.proofs.PutLemmas.{PutSo}
use Rattle.vcd_slots.proofs.columns.put_each.Given as goal

abbrev pub invariant-loop-at : goal.invariant-loop-at
invariant-loop-at l = PutSo l.watched l.is_on l.fn.told l.told l.code l.digits l.at
