use Rattle.vrace.proofs.ExploreLemmas.{report_stops}
use Rattle.vrace.proofs.exploring.write_explored.Goals as goal

pub returns-in-Err-clause-err : goal.returns-in-Err-clause-err
returns-in-Err-clause-err g c =
    report_stops g.W.Write.contents c.args.machine.now c.args.limits.now c.args.explored.now.report c.requires.exploration
    (c.requires.formed c.requires.named c.requires.until) c.args.writer.now c.write_report.new.byte_sink c.in-Err.fault
    c.of_writing.result c.of_writing.ensures c.in-Err.ensures.err
