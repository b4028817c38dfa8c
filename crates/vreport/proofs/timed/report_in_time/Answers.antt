use Rattle.std.proofs.Common.{◌≡◌, ◌∙◌, ap, subst, sym}
use Rattle.std.proofs.lemmas.Result.{IfOk-weaker}
use Rattle.std.specs.Prelude.{IfOk}
use Rattle.explore.specs.declared.ranked_findings.RankedFindings.{RankedFindings}
use Rattle.vreport.specs.InTime.{MeansStopInTime, TellsOutcomeInTime}
use Rattle.vreport.specs.declared.timed.Spent.{Spent}
use Rattle.vreport.proofs.timed.report_in_time.Goals as goal

pub report_timed-requires : goal.report_timed-requires
report_timed-requires g c =
    let e = c.explore_in_time-found.ensures in
    record {
      races_found = e.found;
      races_closed = e.closed;
      races_exhausted = e.exhausted;
      races_fewest = e.fewest;
      races_order = e.order;
      values_order = e.values;
      lines_found = e.lines_found;
      lines_closed = e.lines_closed;
      lines_exhausted = e.lines_exhausted;
      lines_fewest = e.lines_fewest;
      lines_order = e.lines_order;
      ends_found = e.ends_found;
      ends_closed = e.ends_closed;
      ends_exhausted = e.ends_exhausted;
      of_closed = e.of_closed;
      entries = e.entries;
      steps = e.steps;
    }

pub returns-clause-outcome : goal.returns-clause-outcome
returns-clause-outcome g c = subst (λ (what : Spent). IfOk c.report_timed.result (TellsOutcomeInTime what)) c.spent.ensures c.report_timed.ensures.outcome

pub returns-clause-stopped : goal.returns-clause-stopped
returns-clause-stopped g c =
    IfOk-weaker c.report_timed.result (λ told. told.search ≡ c.explore_in_time-found.result.search) (MeansStopInTime (g.B.Watcher.stopped c.explore_in_time-found.new.watcher))
    (λ told same stopped. c.explore_in_time-found.ensures.stopped (sym (ap (λ (f : RankedFindings). f.status) same) ∙ stopped)) c.report_timed.ensures.search
