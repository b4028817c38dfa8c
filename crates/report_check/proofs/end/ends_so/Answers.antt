use Rattle.std.proofs.Common.{ap}
use Rattle.report_text.specs.Report.{End}
use Rattle.report_check.proofs.EndLemmas.{told_where_reached}
use Rattle.report_check.proofs.end.ends_so.Goals as goal

pub returns-in-Ok : goal.returns-in-Ok
returns-in-Ok c =
    let law = c.machine_law.ensures in
    let setting = c.args.machine.now in
    told_where_reached setting (law.same setting) (law.stands setting) (law.runs setting) (law.runs_back setting) (law.width setting) c.args.steps c.args.end.now
    c.end.inside.log c.in-Ok.reached.state c.in-Ok.reached.steps (ap (λ (e : End). e.log) c.end.view_is)
    c.in-Ok.ensures.ends c.in-Ok.ensures.state c.in-Ok.ensures.within c.is_told.result c.is_told.ensures
