use Rattle.vreport.proofs.RowLemmas.{rows_moved}
use Rattle.vreport.proofs.OrderLemmas.{rows_sorted}
use Rattle.vreport.proofs.row.rows_in_order.Goals as goal

pub returns-clause-of : goal.returns-clause-of
returns-clause-of g c = rows_moved c.args.machine.now (g.M.Marks.pairs c.args.marks.now) c.in_ok-rows.rows.items c.sort.new.self.items c.in_ok-sort.ensures.permutation c.in_ok-rows.ensures

pub returns-clause-order : goal.returns-clause-order
returns-clause-order g c = rows_sorted c.sort.new.self.items c.in_ok-sort.ensures.sorted
