use Rattle.std.proofs.Common.{rules}
use Rattle.vreport.proofs.FormedLemmas.{formed}
use Rattle.vreport.proofs.report.report_with.Goals as goal

pub returns-clause-head : goal.returns-clause-head
returns-clause-head c = search rules

pub returns-clause-formed : goal.returns-clause-formed
returns-clause-formed c = λ named until dumps are.
    formed c.args.machine.now (c.run_law.ensures.shapes c.args.machine.now) (c.run_law.ensures.printed c.args.machine.now) c.args.limits.now _ c.args.races.now c.args.line_races.now named until
    (returns-clause-head c) c.in_ok-columns_of.ensures.widths c.requires c.in_ok-report_races.ensures.told c.in_ok-report_races.ensures.kept c.in_ok-report_line_races.ensures.told
    c.in_ok-report_line_races.ensures.kept dumps are
