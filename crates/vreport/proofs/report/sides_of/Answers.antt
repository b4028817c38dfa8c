use Rattle.std.proofs.Common.{arith, sym, subst, ◌∙◌}
use Rattle.sched_core.specs.Logs.{IsLog}
use Rattle.racebook.specs.LineRaces.{Side}
use Rattle.vreport.specs.Inner.{HasSideLog}
use Rattle.vreport.proofs.MappedLemmas.{mapped_more, mapped_over, mapped_same}
use Rattle.vreport.proofs.report.sides_of.Goals as goal

pub loop-side-preserved : goal.loop-side-preserved
loop-side-preserved c =
    mapped_more (λ (s : Side). s) HasSideLog c.loop-side.told.items c.push.new.self.items c.args.sides.now c.loop-side.side-index c.side-item.result _ c.side-item.is
    c.loop-side-test.true c.in_ok-push.ensures.items ((λ i. (c.in_ok-copy.ensures i, c.in_ok-copy-2.ensures.equal i)) ∙ c.side.view_is)
    (subst IsLog (sym c.in_ok-copy-2.ensures.equal) c.copy-in-loop-side.ensures.lawful) c.loop-side.invariant

pub returns-clause-same : goal.returns-clause-same
returns-clause-same c =
    mapped_over (λ (s : Side). s) c.loop-side.told.items c.args.sides.now c.loop-side.side-index (omega (arith, c.loop-side-test.false)) c.loop-side.invariant.0
    ∙ mapped_same c.args.sides.now
