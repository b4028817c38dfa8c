use Rattle.std.proofs.Common.{arith}
use Rattle.vcd_text.proofs.ValueLemmas.{followed}
use Rattle.vcd_text.proofs.values.follow.Goals as goal

pub returns-then-digit-lt126 : goal.returns-then-digit-lt126
returns-then-digit-lt126 c =
    followed c.loop-i.name.items c.args.name.now.items c.loop-i.i c.index-digit.result.now c.loop-i.invariant.2 c.loop-i.invariant.1 (omega arith)
    c.index-digit.ensures (omega arith)
