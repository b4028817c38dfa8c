use Rattle.std.proofs.Common.{◌≡◌, ap, subst, ◌∙◌, sym}
use Rattle.vmodel.specs.Parts.{with_parts}
use Rattle.vmodel.specs.State.{State}
use Rattle.vmodel.specs.Step.{with_woken}
use Rattle.plain_steps.specs.declared.waking.Changes.TheVariants.{Many}
use Rattle.vdesign.specs.Design.{Design}
use Rattle.plain_steps.proofs.RanLemmas.{awoken_is}
use Rattle.plain_steps.proofs.state.State.write_many.Goals as goal

pub returns : goal.returns
returns c =
    let s : State = Rattle.plain_steps.specs.contracts.state.State.the_view c.self.inside in
    let actions = c.deref.ensures.value ∙ ap (λ (d : Design). d.actions) c.design.view_is in
    let after : State = Rattle.plain_steps.specs.contracts.state.State.the_view
    (record { values = c.write_all.new.self; processes = c.wake.new.processes; queue = c.wake.new.queue; cause = c.self.inside.cause; held_back = c.self.inside.held_back; printed = c.self.inside.printed }) in
    subst (λ (t : State). after ≡ with_woken c.args.design.now t.values c.args.triggered (record t { values = with_parts c.args.parts.now t.values }))
    c.self.view_is
    (awoken_is c.args.design.now c.args.parts.now s c.write_all.new.self c.wake.new.processes.items c.wake.new.queue c.deref.result.now (record { changes = Many c.as_slice.result c.args.parts; triggered = c.args.triggered })
    c.write_all.ensures (sym c.as_slice.ensures, c.write_all.ensures ∙ ap (with_parts c.args.parts.now) (sym c.as_slice.ensures)) actions c.wake.ensures.processes c.wake.ensures.queue)
