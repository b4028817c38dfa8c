use Rattle.std.proofs.Common.{◌++◌}
use Rattle.vcd_text.specs.DumpText.{closings}
use Rattle.vcd_text.proofs.HeaderLemmas.{closing_more}
use Rattle.vcd_text.proofs.header.put_closings.Goals as goal

pub loop-preserved : goal.loop-preserved
loop-preserved c =
    closing_more c.loop.text.items c.extend_from_slice.new.self.items (c.args.text.now.items ++ closings c.args.count) c.args.count c.loop.counter
    c.loop-test.true c.in_ok-extend_from_slice.ensures.items c.loop.invariant
