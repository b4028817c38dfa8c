use Rattle.std.proofs.Common.{sym, ap, ◌∙◌}
use Rattle.vmodel.specs.Parts.{with_parts}
use Rattle.vmodel.specs.State.{State}
use Rattle.vmodel.specs.Step.{with_woken, complete}
use Rattle.plain_steps.specs.InnerMove.{with_cause}
use Rattle.plain_steps.proofs.RanLemmas.{ran}
use Rattle.plain_steps.proofs.state.State.run.Goals as goal

pub returns-clause-ok : goal.returns-clause-ok
returns-clause-ok c =
    let course = c.in_ok-course.course in
    let effect = c.effect_at.new.effect in
    ran c.args.design.now c.args.number c.in-Some.frame c.in-Some.action.now c.held_by-held.result c.environment-environment.result course.then course.next.now effect c.args.self.now
    c.in-Some.ensures.0 c.in-Some.ensures.1 c.held_by-held.ensures c.environment-environment.ensures c.in_ok-course.ensures
    ∙ ap (λ (t : State). complete effect (with_cause effect.cause (with_woken c.args.design.now t.values effect.triggered (record t { values = with_parts effect.wrote t.values }))))
    (sym c.in_ok-place.ensures.ok)
    ∙ sym c.finish.ensures
