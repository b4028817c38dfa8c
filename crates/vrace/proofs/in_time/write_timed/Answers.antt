use Rattle.vrace.proofs.ExploreLemmas.{report_stops, reported_in_time}
use Rattle.vrace.proofs.in_time.write_timed.Goals as goal

pub returns-in-Ok-clause-ok : goal.returns-in-Ok-clause-ok
returns-in-Ok-clause-ok g c = λ lacked outcome_is.
    reported_in_time g.W.Write.contents c.args.machine.now c.args.limits.now c.args.told.now.report c.requires.exploration (c.requires.formed c.requires.named c.requires.until)
    c.args.writer.now c.write_report.new.byte_sink lacked c.args.told.now.search c.timed_of.result c.requires.up_to c.requires.of_closed outcome_is c.requires.entries c.timed_of.ensures.says c.timed_of.ensures.search
    c.in-Ok.ensures.ok

pub returns-in-Err-clause-err : goal.returns-in-Err-clause-err
returns-in-Err-clause-err g c =
    report_stops g.W.Write.contents c.args.machine.now c.args.limits.now c.args.told.now.report c.requires.exploration
    (c.requires.formed c.requires.named c.requires.until) c.args.writer.now c.write_report.new.byte_sink c.in-Err.fault
    c.of_writing.result c.of_writing.ensures c.in-Err.ensures.err
