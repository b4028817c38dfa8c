use Rattle.std.proofs.Common.{refl, sym, ◌∙◌, arith}
use Rattle.std.proofs.lemmas.List.{length-reverse}
use Rattle.plain_steps.specs.InnerContinuation.{stack}
use Rattle.plain_steps.proofs.ContinuationLemmas.{differs_there, same_above, same_throughout}
use Rattle.plain_steps.proofs.continuation.Continuation.is_like_frame_by_frame.Goals as goal

pub loop-depth-init : goal.loop-depth-init
loop-depth-init c = (
  omega arith,
  c.len-len.ensures ∙ length-reverse (stack c.args.self.now),
  sym c.if-len.false ∙ c.len.ensures ∙ length-reverse (stack c.args.other.now),
  refl,
)

pub returns-then-ne : goal.returns-then-ne
returns-then-ne c =
    differs_there (stack c.args.self.now) (stack c.args.other.now) c.loop-depth.depth c.loop-depth.invariant.3
    c.at_depth.result c.at_depth-in-loop-depth.result c.at_depth.ensures c.at_depth-in-loop-depth.ensures
    c.ne.result c.ne.ensures c.if-ne.true

pub loop-depth-preserved : goal.loop-depth-preserved
loop-depth-preserved c = (
  omega (arith, c.loop-depth-test.true),
  c.loop-depth.invariant.1,
  c.loop-depth.invariant.2,
  same_above (stack c.args.self.now) (stack c.args.other.now) c.loop-depth.depth c.loop-depth.invariant.3
      c.at_depth.result c.at_depth-in-loop-depth.result c.at_depth.ensures c.at_depth-in-loop-depth.ensures
      c.ne.result c.ne.ensures c.if-ne.false,
)

pub returns : goal.returns
returns c =
    same_throughout (stack c.args.self.now) (stack c.args.other.now) c.loop-depth.depth c.loop-depth.invariant.3
    (omega (arith, c.loop-depth.invariant.1, c.loop-depth-test.false))
    (omega (arith, c.loop-depth.invariant.2, c.loop-depth-test.false))
