use Rattle.std.proofs.Common.{◌≡◌}
use Rattle.std.proofs.lemmas.Result.{IfOk-weaker}
use Rattle.vreport.specs.Reports.{MeansEntries}
use Rattle.vreport.proofs.EntriesLemmas.{KnowsMachine}
use Rattle.vreport.proofs.ExploredLemmas.{means_entries}
use Rattle.vreport.proofs.explored.report_alone.Goals as goal

pub returns-clause-entries : goal.returns-clause-entries
returns-clause-entries c =
    let law = c.machine_law.ensures in
    let known : KnowsMachine c.args.machine.now = record {
      there = law.runs c.args.machine.now;
      alike = law.same c.args.machine.now;
      all = law.stands c.args.machine.now;
      first = law.first c.args.machine.now;
      width = law.width c.args.machine.now;
      mark = law.mark c.args.machine.now;
      one = law.one c.args.machine.now;
      only = law.only c.args.machine.now;
    } in
    IfOk-weaker c.report_found.result (λ explored. explored.status ≡ c.in_ok-findings.findings.status) (MeansEntries c.args.machine.now c.args.limits.now)
    (λ explored same. means_entries c.args.machine.now known c.args.limits.now c.in_ok-findings.findings explored c.in_ok-findings.ensures.entries same) c.report_found.ensures.status
