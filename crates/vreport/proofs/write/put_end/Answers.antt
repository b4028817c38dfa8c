use Rattle.std.proofs.Common.{refl}
use Rattle.std.proofs.lemmas.Result.{err_from_is_err_and, IfErr-weaker, on_ok_weaker}
use Rattle.report_text.specs.ReportText.{end_text}
use Rattle.vreport.specs.Dumps.{StopsDump}
use Rattle.vreport.specs.Written.{StopsEnd}
use Rattle.vreport.proofs.WriteLemmas.{end_taken, stops_at_lines, stops_in_dump}
use Rattle.vreport.proofs.write.put_end.Goals as goal

pub returns-clause-ok : goal.returns-clause-ok
returns-clause-ok g c =
    on_ok_weaker c.put_dump.result
    (end_taken g.O.ByteSink.takes g.O.ByteSink.fails g.met.O.ByteSink.lawful c.args.machine.now c.args.steps c.args.end.now (end_text c.args.end.now) c.args.end.now.log c.args.byte_sink.now c.put_made.new.byte_sink
    c.put_dump.new.byte_sink refl refl (c.in_ok-put_made.ensures.ok (end_text c.args.end.now) c.end_lines.ensures)) c.put_dump.ensures.ok

pub returns-clause-err : goal.returns-clause-err
returns-clause-err g c =
    IfErr-weaker c.put_dump.result (λ fault. StopsDump g.O.ByteSink.takes g.O.ByteSink.fails c.args.machine.now c.args.end.now.log c.args.steps c.put_made.new.byte_sink fault c.put_dump.new.byte_sink)
    (λ fault. StopsEnd g.O.ByteSink.takes g.O.ByteSink.fails c.args.machine.now c.args.steps c.args.end.now c.args.byte_sink.now fault c.put_dump.new.byte_sink)
    (λ fault. stops_in_dump g.O.ByteSink.takes g.O.ByteSink.fails g.met.O.ByteSink.lawful c.args.machine.now c.args.steps c.args.end.now (end_text c.args.end.now) c.args.end.now.log c.args.byte_sink.now c.put_made.new.byte_sink
    c.put_dump.new.byte_sink fault refl refl (c.in_ok-put_made.ensures.ok (end_text c.args.end.now) c.end_lines.ensures)) c.put_dump.ensures.err

pub returns-in_err-put_made-clause-err : goal.returns-in_err-put_made-clause-err
returns-in_err-put_made-clause-err g c =
    let p = err_from_is_err_and c.from_residual.result c.from_residual.ensures.1 in
    rw (p.1, p.2) (stops_at_lines g.O.ByteSink.takes g.O.ByteSink.fails g.met.O.ByteSink.lawful c.args.machine.now c.args.steps c.args.end.now (end_text c.args.end.now) c.args.byte_sink.now c.put_made.new.byte_sink c.in_err-put_made.field-0.0 refl
    (c.in_err-put_made.ensures.err (end_text c.args.end.now) c.end_lines.ensures))
