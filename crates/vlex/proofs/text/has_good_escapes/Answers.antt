use Rattle.std.proofs.Common.{arith, ◌∙◌}
use Rattle.vlex.proofs.Escapes.{good_escapes_plain}
use Rattle.vlex.proofs.text.has_good_escapes.Goals as goal

pub loop-at-preserved-then-bytes-at-ne92 : goal.loop-at-preserved-then-bytes-at-ne92
loop-at-preserved-then-bytes-at-ne92 c =
    record { within = omega arith; same = c.loop-at.invariant.same ∙ good_escapes_plain c.args.bytes.now c.loop-at.at c.loop-at-test.true c.if-bytes-at-ne92.true }
