use Rattle.vrace.proofs.LinesLemmas.{on_memory, on_sink, takes_whole}
use Rattle.vrace.proofs.LinesFrontLemmas.{same_between, same_left}
use Rattle.vrace.proofs.lines.fill_on.Goals as goal

pub returns-in-Ok-clause-ok : goal.returns-in-Ok-clause-ok
returns-in-Ok-clause-ok g c = λ first front.
    takes_whole g.O.ByteSink.takes g.O.ByteSink.fails g.met.O.ByteSink.lawful c.args.machine.now c.args.run.now.log.now c.args.steps first front.fresh
    front.design c.run_to_end.new.sink c.in-Ok.field-0 (c.in-Ok.ensures.ends first front.given)

pub returns-in-Err-Fault-Sink-clause-err : goal.returns-in-Err-Fault-Sink-clause-err
returns-in-Err-Fault-Sink-clause-err g c = λ first front.
    on_sink g.O.ByteSink.takes g.O.ByteSink.fails g.met.O.ByteSink.lawful c.args.machine.now c.args.run.now.log.now c.args.steps first front.fresh
    front.design c.run_to_end.new.sink c.in-Err-Fault-Sink.field-0 c.in-Err-Fault-Sink.field-0-0 c.in-Err-Fault-Sink.fault c.in-Err-Fault-Sink.field-0-is
    c.in-Err-Fault-Sink.field-0-0-is (c.in-Err-Fault-Sink.ensures.left first front.given) c.requires.ends

pub returns-in-Err-Memory-clause-err : goal.returns-in-Err-Memory-clause-err
returns-in-Err-Memory-clause-err g c = λ first front.
    on_memory g.O.ByteSink.takes g.O.ByteSink.fails g.met.O.ByteSink.lawful c.args.machine.now c.args.run.now.log.now c.args.steps first front.fresh
    front.design c.run_to_end.new.sink c.in-Err-Memory.field-0 c.in-Err-Memory.refused c.in-Err-Memory.field-0-is (c.in-Err-Memory.ensures.left first front.given) c.requires.ends

pub returns-in-Ok-clause-same : goal.returns-in-Ok-clause-same
returns-in-Ok-clause-same g c = λ first front.
    same_between first c.args.sink.now c.run_to_end.new.sink front.given.taken.0 (c.in-Ok.ensures.ends first front.given).2.0

pub returns-in-Err-Fault-Sink-clause-same : goal.returns-in-Err-Fault-Sink-clause-same
returns-in-Err-Fault-Sink-clause-same g c = λ first front.
    same_between first c.args.sink.now c.run_to_end.new.sink front.given.taken.0
    (same_left g.O.ByteSink.takes g.O.ByteSink.fails c.args.machine.now c.args.run.now.log.now c.args.steps first c.run_to_end.new.sink _ (c.in-Err-Fault-Sink.ensures.left first front.given))

pub returns-in-Err-Memory-clause-same : goal.returns-in-Err-Memory-clause-same
returns-in-Err-Memory-clause-same g c = λ first front.
    same_between first c.args.sink.now c.run_to_end.new.sink front.given.taken.0
    (same_left g.O.ByteSink.takes g.O.ByteSink.fails c.args.machine.now c.args.run.now.log.now c.args.steps first c.run_to_end.new.sink _ (c.in-Err-Memory.ensures.left first front.given))
