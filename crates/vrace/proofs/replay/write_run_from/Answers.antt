use Rattle.vrace.proofs.DumpLemmas.{stops}
use Rattle.vrace.proofs.replay.write_run_from.Goals as goal

pub returns-in-Err-clause-err : goal.returns-in-Err-clause-err
returns-in-Err-clause-err g c =
    stops g.W.Write.contents c.args.machine.now c.args.front.run.log.now c.args.steps c.args.writer.now c.write_from.new.byte_sink c.in-Err.fault c.of_writing.result
    c.of_writing.ensures c.in-Err.ensures.err
