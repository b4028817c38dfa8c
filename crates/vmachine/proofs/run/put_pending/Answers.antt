use Rattle.std.proofs.Common.{sym, subst}
use Rattle.vmodel.specs.InnerStep.{transition_to}
use Rattle.vmodel.specs.Touched.{HasNoSlotEnd, front_items}
use Rattle.vmodel.proofs.TouchedLemmas.{no_end_in_both, no_end_in_front}
use Rattle.vmachine.proofs.run.put_pending.Goals as goal

pub returns-clause-no_end : goal.returns-clause-no_end
returns-clause-no_end c = λ no_end.
    let transition = transition_to c.args.state.now c.args.effect.now c.args.monitors.now in
    subst HasNoSlotEnd (sym c.in_ok-put_front.ensures.ok)
    (no_end_in_both c.args.pending.now.items.items (front_items c.args.design.now transition) no_end (no_end_in_front c.args.design.now transition))
