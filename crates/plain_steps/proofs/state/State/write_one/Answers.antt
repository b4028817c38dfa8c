use Rattle.std.proofs.Common.{◌≡◌, ◌∷◌, [], None, ap, subst, ◌∙◌}
use Rattle.vmodel.specs.Parts.{write}
use Rattle.vmodel.specs.State.{State}
use Rattle.vmodel.specs.Step.{with_woken}
use Rattle.plain_steps.specs.declared.waking.Changes.TheVariants.{One}
use Rattle.vdesign.specs.Design.{Design}
use Rattle.plain_steps.proofs.RanLemmas.{written_same, awoken_is}
use Rattle.plain_steps.proofs.state.State.write_one.Goals as goal

pub returns-in-Some : goal.returns-in-Some
returns-in-Some c =
    let s : State = Rattle.plain_steps.specs.contracts.state.State.the_view c.self.inside in
    let actions = c.deref.ensures.value ∙ ap (λ (d : Design). d.actions) c.design.view_is in
    let after : State = Rattle.plain_steps.specs.contracts.state.State.the_view
    (record { values = c.write.new.self; processes = c.wake.new.processes; queue = c.wake.new.queue; cause = c.self.inside.cause; held_back = c.self.inside.held_back; printed = c.self.inside.printed }) in
    subst (λ (t : State). after ≡ with_woken c.args.design.now t.values None (record t { values = write c.args.part t.values }))
    c.self.view_is
    (awoken_is c.args.design.now (c.args.part ∷ []) s c.write.new.self c.wake.new.processes.items c.wake.new.queue c.deref.result.now (record { changes = One c.in-Some.change; triggered = None })
    c.in-Some.ensures.values c.in-Some.ensures.change actions c.wake.ensures.processes c.wake.ensures.queue)

pub returns-in_default : goal.returns-in_default
returns-in_default c =
    let s : State = Rattle.plain_steps.specs.contracts.state.State.the_view c.self.inside in
    subst (λ (t : State). Rattle.plain_steps.specs.contracts.state.State.the_view (record c.self.inside { values = c.write.new.self }) ≡ with_woken c.args.design.now t.values None (record t { values = write c.args.part t.values }))
    c.self.view_is
    (written_same c.args.design.now (c.args.part ∷ []) s c.write.new.self c.in_default.ensures.values c.in_default.ensures.change)
