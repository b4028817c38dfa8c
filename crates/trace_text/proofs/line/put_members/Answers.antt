use Rattle.std.proofs.Common.{◌++◌}
use Rattle.trace_text.specs.Traces.{numbers_text}
use Rattle.trace_text.proofs.LineLemmas.{numbers_on}
use Rattle.trace_text.proofs.line.put_members.Goals as goal

pub loop-i-preserved : goal.loop-i-preserved
loop-i-preserved c =
    numbers_on c.loop-i.text.items c.put_process.new.text.items (c.args.text.now.items ++ numbers_text c.args.set.now) c.args.set.now c.loop-i.i c.get.result
    c.get.ensures.exact c.in_ok-put_process.ensures c.loop-i.invariant
