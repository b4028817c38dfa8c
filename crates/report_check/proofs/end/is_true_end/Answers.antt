use Rattle.std.proofs.Common.{ap}
use Rattle.report_text.specs.Report.{End}
use Rattle.report_check.proofs.EndLemmas.{so_has_dump}
use Rattle.report_check.proofs.end.is_true_end.Goals as goal

pub is_dump-requires : goal.is_dump-requires
is_dump-requires c = record {
  ends = so_has_dump c.args.machine.now c.report.inside.steps c.args.end.now c.end.inside.log (ap (λ (e : End). e.log) c.end.view_is) (c.in_ok-ends_so.ensures.0 c.if-not-branch.false);
}
