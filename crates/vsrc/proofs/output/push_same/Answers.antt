use Rattle.std.proofs.Common.{ℕ, ◌+◌, ◌++◌, map, drop, ap, ◌∙◌}
use Rattle.vsrc.proofs.MacroText.{same_next}
use Rattle.vsrc.proofs.output.push_same.Goals as goal

pub loop-byte-preserved : goal.loop-byte-preserved
loop-byte-preserved c =
    ap (λ xs. xs ++ map (λ (byte : ℕ). c.args.at) (drop (c.loop-byte._byte-index + 1) c.args.bytes.now)) c.in_ok-push.ensures.items
    ∙ same_next c.loop-byte.origins.items _ c.args.bytes.now c.args.at c.loop-byte._byte-index c.loop-byte-test.true c.loop-byte.invariant
