use Rattle.vreport.proofs.EntriesLemmas.{KnowsMachine}
use Rattle.vreport.proofs.ExploredLemmas.{exploration}
use Rattle.vreport.proofs.explored.report_found.Goals as goal

pub returns-clause-exploration : goal.returns-clause-exploration
returns-clause-exploration c =
    let law = c.machine_law.ensures in
    let known : KnowsMachine c.args.machine.now = record {
      there = law.runs c.args.machine.now;
      alike = law.same c.args.machine.now;
      all = law.stands c.args.machine.now;
      first = law.first c.args.machine.now;
      width = law.width c.args.machine.now;
      mark = law.mark c.args.machine.now;
      one = law.one c.args.machine.now;
      only = law.only c.args.machine.now;
    } in
    exploration c.args.machine.now known c.args.limits.now c.args.findings.now c.in_ok-told.told.report c.requires.exhausted c.requires.steps c.in_ok-told.ensures.head c.in_ok-told.ensures.outcome
    c.in_ok-told.ensures.true_ends c.in_ok-told.ensures.ends_order c.in_ok-told.ensures.every_end c.in_ok-told.ensures.races c.in_ok-told.ensures.line_races
