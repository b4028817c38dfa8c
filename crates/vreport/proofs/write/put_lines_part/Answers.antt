use Rattle.std.proofs.Common.{ap, ◌∙◌}
use Rattle.std.proofs.lemmas.Result.{err_from_is_err_and, IfErr-weaker, on_ok_weaker}
use Rattle.byte_sinks.specs.ByteSinks.{Stopped}
use Rattle.report_text.specs.Report.{Report}
use Rattle.report_text.specs.ReportText.{line_races_line, line_races_part, line_races_text}
use Rattle.vreport.proofs.WriteLemmas.{lines_stop, lines_stop_first, lines_taken}
use Rattle.vreport.proofs.write.put_lines_part.Goals as goal

pub returns-clause-ok : goal.returns-clause-ok
returns-clause-ok g c =
    let report = c.args.report.now in
    on_ok_weaker c.put_line_races.result (λ taken.
    lines_taken g.O.ByteSink.takes g.O.ByteSink.fails g.met.O.ByteSink.lawful report.looked report.line_races (λ e. c.in_default.not-Values (ap (λ (r : Report). r.looked) c.report.view_is ∙ e))
    c.deref.result.now c.args.byte_sink.now c.put_made.new.byte_sink c.put_line_races.new.byte_sink (c.deref.ensures.value ∙ ap (λ (r : Report). r.line_races) c.report.view_is)
    (c.in_ok-put_made.ensures.ok (line_races_line report.looked report.line_races) c.line_race_count_line.ensures) taken) c.put_line_races.ensures.ok

pub returns-clause-err : goal.returns-clause-err
returns-clause-err g c =
    let report = c.args.report.now in
    IfErr-weaker c.put_line_races.result (λ fault. Stopped g.O.ByteSink.takes g.O.ByteSink.fails c.put_made.new.byte_sink (line_races_text c.deref.result.now) fault c.put_line_races.new.byte_sink)
    (λ fault. Stopped g.O.ByteSink.takes g.O.ByteSink.fails c.args.byte_sink.now (line_races_part report.looked report.line_races) fault c.put_line_races.new.byte_sink)
    (λ fault stopped.
    lines_stop g.O.ByteSink.takes g.O.ByteSink.fails g.met.O.ByteSink.lawful report.looked report.line_races (λ e. c.in_default.not-Values (ap (λ (r : Report). r.looked) c.report.view_is ∙ e))
    c.deref.result.now c.args.byte_sink.now c.put_made.new.byte_sink c.put_line_races.new.byte_sink fault (c.deref.ensures.value ∙ ap (λ (r : Report). r.line_races) c.report.view_is)
    (c.in_ok-put_made.ensures.ok (line_races_line report.looked report.line_races) c.line_race_count_line.ensures) stopped) c.put_line_races.ensures.err

pub returns-in_err-put_made-clause-err : goal.returns-in_err-put_made-clause-err
returns-in_err-put_made-clause-err g c =
    let p = err_from_is_err_and c.from_residual.result c.from_residual.ensures.1 in
    rw (p.1, p.2) (let report = c.args.report.now in
    lines_stop_first g.O.ByteSink.takes g.O.ByteSink.fails g.met.O.ByteSink.lawful report.looked report.line_races (λ e. c.in_default.not-Values (ap (λ (r : Report). r.looked) c.report.view_is ∙ e))
    c.args.byte_sink.now c.put_made.new.byte_sink c.in_err-put_made.field-0.0 (c.in_err-put_made.ensures.err (line_races_line report.looked report.line_races) c.line_race_count_line.ensures))
