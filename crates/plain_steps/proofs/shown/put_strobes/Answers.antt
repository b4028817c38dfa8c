use Rattle.std.proofs.Common.{◌++◌, drop, length, ap, ◌∙◌, arith}
use Rattle.vmodel.specs.Step.{strobe_items}
use Rattle.plain_steps.proofs.ShownLemmas.{on_err, some_came}
use Rattle.plain_steps.proofs.shown.put_strobes.Goals as goal

pub returns-in_err-line-clause-front : goal.returns-in_err-line-clause-front
returns-in_err-line-clause-front c =
    let lines = strobe_items c.args.design.now c.args.state.now in
    on_err c.from_residual.result
    (some_came c.args.items.now.items (lines c.args.places.now) c.loop-place.items.items (lines (drop c.loop-place.place-index c.args.places.now))
    c.loop-place.invariant.0 c.loop-place.invariant.1)

pub returns-in_err-push-clause-front : goal.returns-in_err-push-clause-front
returns-in_err-push-clause-front c =
    let lines = strobe_items c.args.design.now c.args.state.now in
    let left = lines (drop c.loop-place.place-index c.args.places.now) in
    let kept = c.in_err-push.ensures.items in
    on_err c.from_residual-in_err-push.result
    (some_came c.args.items.now.items (lines c.args.places.now) c.push.new.self.items left
    (ap (λ items. items ++ left) kept ∙ c.loop-place.invariant.0) (omega (arith, ap length kept, c.loop-place.invariant.1)))
