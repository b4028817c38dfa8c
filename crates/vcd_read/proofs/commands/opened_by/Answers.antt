use Rattle.vcd_read.proofs.TellLemmas.{open_vars, open_all, open_off, open_on}
use Rattle.vcd_read.proofs.commands.opened_by.Goals as goal

pub returns-then-is_same : goal.returns-then-is_same
returns-then-is_same c = open_vars c.args.word.now (c.is_same.ensures.same c.if-is_same.true)

pub returns-then-is_same-2 : goal.returns-then-is_same-2
returns-then-is_same-2 c = open_all c.args.word.now (c.is_same-else-is_same.ensures.same c.if-is_same-2.true)

pub returns-then-is_same-3 : goal.returns-then-is_same-3
returns-then-is_same-3 c = open_off c.args.word.now (c.is_same-else-is_same-2.ensures.same c.if-is_same-3.true)

pub returns-then-is_same-4 : goal.returns-then-is_same-4
returns-then-is_same-4 c = open_on c.args.word.now (c.is_same-else-is_same-3.ensures.same c.if-is_same-4.true)
