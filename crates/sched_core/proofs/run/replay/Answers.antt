use Rattle.std.proofs.Common.{◌∙◌, sym, inl}
use Rattle.sched_core.specs.Replay.{EndsTooEarly}
use Rattle.sched_core.proofs.RunLemmas.{ends_too_early, early_not_end}
use Rattle.sched_core.proofs.run.replay.Given.{Over}
use Rattle.sched_core.proofs.run.replay.Goals as goal

early : (g : Over) (c : goal.After-drop-state g) → EndsTooEarly (g.P.Space.rules c.args.space.now) c.args.log.now c.loop-rest.n
early g c =
    ends_too_early _ c.args.log.now c.loop-rest.rest.now c.loop-rest.n c.loop-rest.invariant.left c.loop-rest.invariant.run
    (sym ((g.met.P.Space.lawful c.args.space.now).width_same _ _ c.loop-rest.invariant.at) ∙ sym c.width-width.ensures ∙ c.if-width-eq0.true)
    (sym c.is_empty.ensures ∙ c.if-is_empty.false)

pub returns-else-is_empty-clause-reason : goal.returns-else-is_empty-clause-reason
returns-else-is_empty-clause-reason g c = (c.loop-rest.n, c.loop-rest.invariant.within, inl (early g c))

pub returns-else-is_empty-clause-only_end : goal.returns-else-is_empty-clause-only_end
returns-else-is_empty-clause-only_end g c = λ n le end. absurd (early_not_end _ c.args.log.now c.loop-rest.n n (early g c) end)
