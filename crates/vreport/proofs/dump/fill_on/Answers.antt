use Rattle.std.proofs.Common.{◌∙◌}
use Rattle.vreport.proofs.DumpLemmas.{on_memory, on_sink, stops_at_end, takes_whole}
use Rattle.vreport.proofs.FrontLemmas.{same_between, same_left}
use Rattle.vreport.proofs.dump.fill_on.Goals as goal

pub returns-in-Ok-finish-clause-ok : goal.returns-in-Ok-finish-clause-ok
returns-in-Ok-finish-clause-ok g c = λ first front.
    takes_whole g.O.ByteSink.takes g.O.ByteSink.fails g.met.O.ByteSink.lawful c.args.machine.now c.args.run.now.log.now c.args.steps first front.fresh front.design
    c.run_to_end.new.sink c.finish.new.self.byte_sink.now c.in-Ok.end (c.in-Ok.ensures.ends first front.given) c.in-Ok-finish.ensures.ok

pub returns-in-Err-clause-err : goal.returns-in-Err-clause-err
returns-in-Err-clause-err g c = λ first front.
    stops_at_end g.O.ByteSink.takes g.O.ByteSink.fails g.met.O.ByteSink.lawful c.args.machine.now c.args.run.now.log.now c.args.steps first front.fresh front.design
    c.run_to_end.new.sink c.finish.new.self.byte_sink.now c.in-Ok.end c.in-Err.fault (c.in-Ok.ensures.ends first front.given) c.in-Err.ensures.err

pub returns-in-Err-Fault-Sink-clause-err : goal.returns-in-Err-Fault-Sink-clause-err
returns-in-Err-Fault-Sink-clause-err g c = λ first front.
    on_sink g.O.ByteSink.takes g.O.ByteSink.fails g.met.O.ByteSink.lawful c.args.machine.now c.args.run.now.log.now c.args.steps first front.fresh front.design
    c.run_to_end.new.sink c.in-Err-Fault-Sink.field-0 c.in-Err-Fault-Sink.field-0-0 c.in-Err-Fault-Sink.fault c.in-Err-Fault-Sink.field-0-is
    c.in-Err-Fault-Sink.field-0-0-is (c.in-Err-Fault-Sink.ensures.left first front.given) c.requires.ends

pub returns-in-Err-Memory-clause-err : goal.returns-in-Err-Memory-clause-err
returns-in-Err-Memory-clause-err g c = λ first front.
    on_memory g.O.ByteSink.takes g.O.ByteSink.fails g.met.O.ByteSink.lawful c.args.machine.now c.args.run.now.log.now c.args.steps first front.fresh front.design
    c.run_to_end.new.sink c.in-Err-Memory.field-0 c.in-Err-Memory.refused c.in-Err-Memory.field-0-is (c.in-Err-Memory.ensures.left first front.given) c.requires.ends

pub returns-in-Ok-finish-clause-same : goal.returns-in-Ok-finish-clause-same
returns-in-Ok-finish-clause-same g c = λ first front.
    let there = same_between first c.args.sink.now c.run_to_end.new.sink front.given.taken.0 (c.in-Ok.ensures.ends first front.given).2.0 in
    (c.in-Ok-finish.ensures.same.0 ∙ there.0, c.in-Ok-finish.ensures.same.1 ∙ there.1)

pub returns-in-Err-clause-same : goal.returns-in-Err-clause-same
returns-in-Err-clause-same g c = λ first front.
    let there = same_between first c.args.sink.now c.run_to_end.new.sink front.given.taken.0 (c.in-Ok.ensures.ends first front.given).2.0 in
    (c.in-Err.ensures.same.0 ∙ there.0, c.in-Err.ensures.same.1 ∙ there.1)

pub returns-in-Err-Fault-Sink-clause-same : goal.returns-in-Err-Fault-Sink-clause-same
returns-in-Err-Fault-Sink-clause-same g c = λ first front.
    same_between first c.args.sink.now c.run_to_end.new.sink front.given.taken.0
    (same_left g.O.ByteSink.takes g.O.ByteSink.fails c.args.machine.now c.args.run.now.log.now c.args.steps first c.run_to_end.new.sink _ (c.in-Err-Fault-Sink.ensures.left first front.given))

pub returns-in-Err-Memory-clause-same : goal.returns-in-Err-Memory-clause-same
returns-in-Err-Memory-clause-same g c = λ first front.
    same_between first c.args.sink.now c.run_to_end.new.sink front.given.taken.0
    (same_left g.O.ByteSink.takes g.O.ByteSink.fails c.args.machine.now c.args.run.now.log.now c.args.steps first c.run_to_end.new.sink _ (c.in-Err-Memory.ensures.left first front.given))
