use Rattle.byte_sinks.specs.MeteredLaws.{stops_of}
use Rattle.vrace.proofs.replay.write_whole.Goals as goal

pub returns-in-Err-clause-err : goal.returns-in-Err-clause-err
returns-in-Err-clause-err g c = record {
  cause = c.in-Err.fault;
  is = c.of_writing.ensures;
  text = c.text.result.now;
  holds = c.text.ensures;
  stops = stops_of g.W.Write.contents c.args.writer.now c.put.new.byte_sink c.text.result.now c.in-Err.fault c.in-Err.ensures.err;
}
