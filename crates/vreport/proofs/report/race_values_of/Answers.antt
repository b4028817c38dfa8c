use Rattle.std.proofs.Common.{sym, ap, subst, ◌∙◌}
use Rattle.sched_core.specs.Logs.{IsLog}
use Rattle.vreport.specs.Inner.{HasLog}
use Rattle.vreport.specs.Reports.{report_value}
use Rattle.vreport.proofs.MappedLemmas.{mapped_more}
use Rattle.vreport.proofs.report.race_values_of.Goals as goal

pub loop-witness-preserved : goal.loop-witness-preserved
loop-witness-preserved c =
    mapped_more report_value HasLog c.loop-witness.race_values.items c.push.new.self.items c.args.values.now c.loop-witness.witness-index c.witness-item.result _ c.witness-item.is
    c.loop-witness-test.true c.in_ok-push.ensures.items ((λ i. (c.in_ok-text_of_value.ensures i, c.in_ok-copy.ensures.equal i)) ∙ ap report_value c.witness.view_is)
    (subst IsLog (sym c.in_ok-copy.ensures.equal) c.copy.ensures.lawful) c.loop-witness.invariant
