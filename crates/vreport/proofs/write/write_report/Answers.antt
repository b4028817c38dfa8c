use Rattle.std.proofs.Common.{List, ◌++◌, codes, length, OnOk, subst}
use Rattle.std.proofs.lemmas.Result.{err_from_is_err_and, IfErr-weaker, on_ok_weaker}
use Rattle.byte_sinks.specs.ByteSinks.{Stopped}
use Rattle.report_text.specs.Report.{Column, End, Race, Report}
use Rattle.report_text.specs.ReportText.{head_text, line_races_part, number_line, races_text}
use Rattle.vreport.specs.Written.{StopsEnds, StopsReport, TakesEnds, TakesReport}
use Rattle.vreport.proofs.WriteLemmas.{as_readable, as_was_read, report_stops_first, report_stops_fourth, report_stops_last, report_stops_second, report_stops_third, report_taken}
use Rattle.vreport.proofs.write.write_report.Given.{Over}
use Rattle.vreport.proofs.write.write_report.Goals as goal

pub returns-in_err-put_made-clause-err : goal.returns-in_err-put_made-clause-err
returns-in_err-put_made-clause-err g c =
    let p = err_from_is_err_and c.from_residual.result c.from_residual.ensures.1 in
    rw (p.1, p.2) (report_stops_first g.O.ByteSink.takes g.O.ByteSink.fails g.met.O.ByteSink.lawful c.args.machine.now c.args.report.now c.requires.bytes c.args.byte_sink.now c.put_made.new.byte_sink c.in_err-put_made.field-0.0 (c.in_err-put_made.ensures.err (head_text c.args.report.now ++ number_line (codes "ends") (length c.args.report.now.ends)) c.head_lines.ensures))

pub returns-in_err-put_ends-clause-err : goal.returns-in_err-put_ends-clause-err
returns-in_err-put_ends-clause-err g c =
    let p = err_from_is_err_and c.from_residual-in_err-put_ends.result c.from_residual-in_err-put_ends.ensures.1 in
    rw (p.1, p.2) (report_stops_second g.O.ByteSink.takes g.O.ByteSink.fails g.met.O.ByteSink.lawful c.args.machine.now c.args.report.now c.requires.bytes c.args.byte_sink.now c.put_made.new.byte_sink c.put_ends.new.byte_sink c.in_err-put_ends.field-0.0
    (c.in_ok-put_made.ensures.ok (head_text c.args.report.now ++ number_line (codes "ends") (length c.args.report.now.ends)) c.head_lines.ensures)
    (subst (λ (r : Report). StopsEnds g.O.ByteSink.takes g.O.ByteSink.fails c.args.machine.now r.steps r.ends c.put_made.new.byte_sink c.in_err-put_ends.field-0.0 c.put_ends.new.byte_sink) c.report.view_is
    (subst (λ (es : List End). StopsEnds g.O.ByteSink.takes g.O.ByteSink.fails c.args.machine.now c.report.inside.steps es c.put_made.new.byte_sink c.in_err-put_ends.field-0.0 c.put_ends.new.byte_sink) c.deref.ensures.value c.in_err-put_ends.ensures.err)))

pub returns-in_err-put_made-2-clause-err : goal.returns-in_err-put_made-2-clause-err
returns-in_err-put_made-2-clause-err g c =
    let p = err_from_is_err_and c.from_residual-in_err-put_made-2.result c.from_residual-in_err-put_made-2.ensures.1 in
    rw (p.1, p.2) (report_stops_third g.O.ByteSink.takes g.O.ByteSink.fails g.met.O.ByteSink.lawful c.args.machine.now c.args.report.now c.requires.bytes c.args.byte_sink.now c.put_made.new.byte_sink c.put_ends.new.byte_sink c.put_made-2.new.byte_sink c.in_err-put_made-2.field-0.0
    (c.in_ok-put_made.ensures.ok (head_text c.args.report.now ++ number_line (codes "ends") (length c.args.report.now.ends)) c.head_lines.ensures)
    (subst (λ (r : Report). TakesEnds g.O.ByteSink.takes c.args.machine.now r.steps r.ends c.put_made.new.byte_sink c.put_ends.new.byte_sink) c.report.view_is
    (subst (λ (es : List End). TakesEnds g.O.ByteSink.takes c.args.machine.now c.report.inside.steps es c.put_made.new.byte_sink c.put_ends.new.byte_sink) c.deref.ensures.value c.in_ok-put_ends.ensures.ok))
    (c.in_err-put_made-2.ensures.err (number_line (codes "races") (length c.args.report.now.races)) c.race_count_line.ensures))

pub returns-in_err-put_races-clause-err : goal.returns-in_err-put_races-clause-err
returns-in_err-put_races-clause-err g c =
    let p = err_from_is_err_and c.from_residual-in_err-put_races.result c.from_residual-in_err-put_races.ensures.1 in
    rw (p.1, p.2) (report_stops_fourth g.O.ByteSink.takes g.O.ByteSink.fails g.met.O.ByteSink.lawful c.args.machine.now c.args.report.now c.requires.bytes c.args.byte_sink.now c.put_made.new.byte_sink c.put_ends.new.byte_sink c.put_made-2.new.byte_sink c.put_races.new.byte_sink c.in_err-put_races.field-0.0
    (c.in_ok-put_made.ensures.ok (head_text c.args.report.now ++ number_line (codes "ends") (length c.args.report.now.ends)) c.head_lines.ensures)
    (subst (λ (r : Report). TakesEnds g.O.ByteSink.takes c.args.machine.now r.steps r.ends c.put_made.new.byte_sink c.put_ends.new.byte_sink) c.report.view_is
    (subst (λ (es : List End). TakesEnds g.O.ByteSink.takes c.args.machine.now c.report.inside.steps es c.put_made.new.byte_sink c.put_ends.new.byte_sink) c.deref.ensures.value c.in_ok-put_ends.ensures.ok))
    (c.in_ok-put_made-2.ensures.ok (number_line (codes "races") (length c.args.report.now.races)) c.race_count_line.ensures)
    (subst (λ (r : Report). Stopped g.O.ByteSink.takes g.O.ByteSink.fails c.put_made-2.new.byte_sink (races_text r.variables r.races) c.in_err-put_races.field-0.0 c.put_races.new.byte_sink) c.report.view_is
    (subst (λ (vs : List Column). Stopped g.O.ByteSink.takes g.O.ByteSink.fails c.put_made-2.new.byte_sink (races_text vs c.report.inside.races.items) c.in_err-put_races.field-0.0 c.put_races.new.byte_sink) c.deref-2.ensures.value
    (subst (λ (rs : List Race). Stopped g.O.ByteSink.takes g.O.ByteSink.fails c.put_made-2.new.byte_sink (races_text c.deref-2.result.now rs) c.in_err-put_races.field-0.0 c.put_races.new.byte_sink) c.deref-3.ensures.value c.in_err-put_races.ensures.err))))

-- the text was taken
it_takes : (g : Over) (c : goal.After-put_lines_part g) → OnOk c.put_lines_part.result (TakesReport g.O.ByteSink.takes c.args.machine.now c.args.report.now c.args.byte_sink.now c.put_lines_part.new.byte_sink)
it_takes g c =
    on_ok_weaker c.put_lines_part.result (λ taken.
    report_taken g.O.ByteSink.takes g.O.ByteSink.fails g.met.O.ByteSink.lawful c.args.machine.now c.args.report.now c.requires.bytes c.args.byte_sink.now c.put_made.new.byte_sink c.put_ends.new.byte_sink c.put_made-2.new.byte_sink c.put_races.new.byte_sink c.put_lines_part.new.byte_sink
    (c.in_ok-put_made.ensures.ok (head_text c.args.report.now ++ number_line (codes "ends") (length c.args.report.now.ends)) c.head_lines.ensures)
    (subst (λ (r : Report). TakesEnds g.O.ByteSink.takes c.args.machine.now r.steps r.ends c.put_made.new.byte_sink c.put_ends.new.byte_sink) c.report.view_is
    (subst (λ (es : List End). TakesEnds g.O.ByteSink.takes c.args.machine.now c.report.inside.steps es c.put_made.new.byte_sink c.put_ends.new.byte_sink) c.deref.ensures.value c.in_ok-put_ends.ensures.ok))
    (c.in_ok-put_made-2.ensures.ok (number_line (codes "races") (length c.args.report.now.races)) c.race_count_line.ensures)
    (subst (λ (r : Report). g.O.ByteSink.takes c.put_made-2.new.byte_sink (races_text r.variables r.races) c.put_races.new.byte_sink) c.report.view_is
    (subst (λ (vs : List Column). g.O.ByteSink.takes c.put_made-2.new.byte_sink (races_text vs c.report.inside.races.items) c.put_races.new.byte_sink) c.deref-2.ensures.value
    (subst (λ (rs : List Race). g.O.ByteSink.takes c.put_made-2.new.byte_sink (races_text c.deref-2.result.now rs) c.put_races.new.byte_sink) c.deref-3.ensures.value c.in_ok-put_races.ensures.ok)))
    taken) c.put_lines_part.ensures.ok

pub returns-clause-ok : goal.returns-clause-ok
returns-clause-ok g c = it_takes g c

pub returns-clause-readable : goal.returns-clause-readable
returns-clause-readable g c formed =
    on_ok_weaker c.put_lines_part.result (as_readable g.O.ByteSink.takes c.args.machine.now c.args.report.now c.args.byte_sink.now c.put_lines_part.new.byte_sink formed) (it_takes g c)

pub returns-clause-as_read : goal.returns-clause-as_read
returns-clause-as_read g c =
    on_ok_weaker c.put_lines_part.result (as_was_read g.O.ByteSink.takes c.args.machine.now c.args.report.now c.args.byte_sink.now c.put_lines_part.new.byte_sink) (it_takes g c)

pub returns-clause-err : goal.returns-clause-err
returns-clause-err g c =
    IfErr-weaker c.put_lines_part.result (λ fault. Stopped g.O.ByteSink.takes g.O.ByteSink.fails c.put_races.new.byte_sink (line_races_part c.args.report.now.looked c.args.report.now.line_races) fault c.put_lines_part.new.byte_sink)
    (λ fault. StopsReport g.O.ByteSink.takes g.O.ByteSink.fails c.args.machine.now c.args.report.now c.args.byte_sink.now fault c.put_lines_part.new.byte_sink)
    (λ fault stopped.
    report_stops_last g.O.ByteSink.takes g.O.ByteSink.fails g.met.O.ByteSink.lawful c.args.machine.now c.args.report.now c.requires.bytes c.args.byte_sink.now c.put_made.new.byte_sink c.put_ends.new.byte_sink c.put_made-2.new.byte_sink c.put_races.new.byte_sink c.put_lines_part.new.byte_sink fault
    (c.in_ok-put_made.ensures.ok (head_text c.args.report.now ++ number_line (codes "ends") (length c.args.report.now.ends)) c.head_lines.ensures)
    (subst (λ (r : Report). TakesEnds g.O.ByteSink.takes c.args.machine.now r.steps r.ends c.put_made.new.byte_sink c.put_ends.new.byte_sink) c.report.view_is
    (subst (λ (es : List End). TakesEnds g.O.ByteSink.takes c.args.machine.now c.report.inside.steps es c.put_made.new.byte_sink c.put_ends.new.byte_sink) c.deref.ensures.value c.in_ok-put_ends.ensures.ok))
    (c.in_ok-put_made-2.ensures.ok (number_line (codes "races") (length c.args.report.now.races)) c.race_count_line.ensures)
    (subst (λ (r : Report). g.O.ByteSink.takes c.put_made-2.new.byte_sink (races_text r.variables r.races) c.put_races.new.byte_sink) c.report.view_is
    (subst (λ (vs : List Column). g.O.ByteSink.takes c.put_made-2.new.byte_sink (races_text vs c.report.inside.races.items) c.put_races.new.byte_sink) c.deref-2.ensures.value
    (subst (λ (rs : List Race). g.O.ByteSink.takes c.put_made-2.new.byte_sink (races_text c.deref-2.result.now rs) c.put_races.new.byte_sink) c.deref-3.ensures.value c.in_ok-put_races.ensures.ok)))
    stopped) c.put_lines_part.ensures.err
