use Rattle.vcd_text.proofs.HeaderLemmas.{name_more}
use Rattle.vcd_text.proofs.header.pass_by.Goals as goal

pub loop-preserved : goal.loop-preserved
loop-preserved c =
    λ n e. name_more c.loop.name.items c.follow.new.name.items n c.loop.index (c.loop.invariant n e) c.in_ok-follow.ensures
