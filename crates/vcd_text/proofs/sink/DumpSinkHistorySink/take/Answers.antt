use Rattle.vcd_text.specs.declared.progress.Progress.TheVariants.{Failed}
use Rattle.vcd_text.specs.declared.sink.DumpSink.{DumpSink}
use Rattle.vcd_text.proofs.ItemLemmas.{takes_on, fails_on, fails_here, takes_all, takes_nothing, over}
use Rattle.vcd_text.proofs.sink.DumpSinkHistorySink.take.Goals as goal

pub returns-in-Failed-clause-ok : goal.returns-in-Failed-clause-ok
returns-in-Failed-clause-ok g c =
    takes_nothing g.O.ByteSink.takes g.O.ByteSink.fails g.met.O.ByteSink.lawful c.args.self.now c.args.items.now c.in-Failed.is

pub returns-in-Err-clause-err : goal.returns-in-Err-clause-err
returns-in-Err-clause-err g c =
    let after : DumpSink g.row.O.Denot = record c.take_item.new.self { progress = Failed } in
    c.loop-item.invariant.1 after c.in-Err.fault
    (fails_here g.O.ByteSink.takes g.O.ByteSink.fails g.met.O.ByteSink.lawful c.loop-item.self after c.args.items.now c.loop-item.item-index c.item-item.result
    c.in-Err.fault c.item-item.is c.loop-item-test.true (c.in-Err.ensures.err.0, c.in-Err.ensures.err.1, over c.in-Err.fault))

pub loop-item-preserved : goal.loop-item-preserved
loop-item-preserved g c = (
  λ t p. c.loop-item.invariant.0 t
      (takes_on g.O.ByteSink.takes g.O.ByteSink.fails g.met.O.ByteSink.lawful c.loop-item.self c.take_item.new.self t c.args.items.now c.loop-item.item-index c.item-item.result
      c.item-item.is c.loop-item-test.true c.in-Ok.ensures.ok p),
  λ t fault p. c.loop-item.invariant.1 t fault
      (fails_on g.O.ByteSink.takes g.O.ByteSink.fails g.met.O.ByteSink.lawful c.loop-item.self c.take_item.new.self t c.args.items.now c.loop-item.item-index c.item-item.result fault
      c.item-item.is c.loop-item-test.true c.in-Ok.ensures.ok p),
)

pub returns-clause-ok : goal.returns-clause-ok
returns-clause-ok g c =
    c.loop-item.invariant.0 c.loop-item.self (takes_all g.O.ByteSink.takes g.O.ByteSink.fails g.met.O.ByteSink.lawful c.loop-item.self c.args.items.now c.loop-item.item-index c.loop-item-test.false)
