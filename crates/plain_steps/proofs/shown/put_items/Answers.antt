use Rattle.std.proofs.Common.{◌∙◌}
use Rattle.std.proofs.lemmas.Result.{on_err_weaker}
use Rattle.vmodel.specs.InnerStep.{transition_to}
use Rattle.plain_steps.proofs.ShownLemmas.{on_err, front_came, whole_front_came}
use Rattle.plain_steps.proofs.shown.put_items.Goals as goal

pub returns-in_err-put_front-clause-front : goal.returns-in_err-put_front-clause-front
returns-in_err-put_front-clause-front c =
    let transition = transition_to c.args.state.now c.args.effect.now c.args.monitors.now in
    on_err c.from_residual.result
    (front_came c.args.design.now transition c.args.items.now.items c.put_front.new.items.items c.in_err-put_front.ensures.front)

pub returns-clause-front : goal.returns-clause-front
returns-clause-front c =
    let transition = transition_to c.args.state.now c.args.effect.now c.args.monitors.now in
    on_err_weaker c.put_slot_end.result
    (λ kept. whole_front_came c.args.design.now transition c.args.items.now.items c.put_slot_end.new.items.items (kept ∙ c.in_ok-put_front.ensures.ok))
    c.put_slot_end.ensures.err
