use Rattle.std.proofs.Common.{◌++◌, drop, length, ap, ◌∙◌, arith}
use Rattle.vmodel.specs.Step.{strobe_items}
use Rattle.vkernel.proofs.ShownLemmas.{when_refused, came_before}
use Rattle.vkernel.proofs.shown.put_strobes.Goals as goal

pub returns-in_err-line-clause-front : goal.returns-in_err-line-clause-front
returns-in_err-line-clause-front c =
    let lines = strobe_items c.args.design.now c.args.state.now in
    when_refused
    (came_before (lines c.args.places.now) c.args.items.now.items c.loop-place.items.items (lines (drop c.loop-place.place-index c.args.places.now))
    c.loop-place.invariant.1 c.loop-place.invariant.0)
    c.from_residual.result

pub returns-in_err-push-clause-front : goal.returns-in_err-push-clause-front
returns-in_err-push-clause-front c =
    let lines = strobe_items c.args.design.now c.args.state.now in
    let left = lines (drop c.loop-place.place-index c.args.places.now) in
    let kept = c.in_err-push.ensures.items in
    when_refused
    (came_before (lines c.args.places.now) c.args.items.now.items c.push.new.self.items left
    (omega (arith, ap length kept, c.loop-place.invariant.1)) (ap (λ items. items ++ left) kept ∙ c.loop-place.invariant.0))
    c.from_residual-in_err-push.result
