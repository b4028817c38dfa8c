use Rattle.vreport.proofs.EndLemmas.{other_lines, same_end_when, same_lines}
use Rattle.vreport.proofs.ends.is_same_end.Goals as goal

pub returns : goal.returns
returns c =
    same_end_when c.args.first.now c.args.second.now c.eq.result c.if-first-second.false c.if-first-second-2.false
    (same_lines c.args.first.now.line.items c.args.second.now.line.items c.if-ne.ensures) c.eq.ensures

pub returns-then-ne : goal.returns-then-ne
returns-then-ne c = other_lines c.args.first.now c.args.second.now c.if-ne.ensures
