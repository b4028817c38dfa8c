use Rattle.lines_text.proofs.ItemLemmas.{takes_on, fails_on, fails_here, takes_all}
use Rattle.lines_text.proofs.sink.LinesSinkHistorySink.take.Goals as goal

pub returns-in-Err-clause-err : goal.returns-in-Err-clause-err
returns-in-Err-clause-err g c =
    c.loop-item.invariant.1 c.take_item.new.self c.in-Err.fault
    (fails_here g.O.ByteSink.takes g.O.ByteSink.fails g.met.O.ByteSink.lawful c.loop-item.self c.take_item.new.self c.args.items.now c.loop-item.item-index c.item-item.result
    c.in-Err.fault c.item-item.is c.loop-item-test.true c.in-Err.ensures.err)

pub loop-item-preserved : goal.loop-item-preserved
loop-item-preserved g c = (
  λ t p. c.loop-item.invariant.0 t
      (takes_on g.O.ByteSink.takes g.O.ByteSink.fails g.met.O.ByteSink.lawful c.loop-item.self c.take_item.new.self t c.args.items.now c.loop-item.item-index c.item-item.result
      c.item-item.is c.loop-item-test.true c.in-Ok.ensures.ok p),
  λ t fault p. c.loop-item.invariant.1 t fault
      (fails_on g.O.ByteSink.takes g.O.ByteSink.fails g.met.O.ByteSink.lawful c.loop-item.self c.take_item.new.self t c.args.items.now c.loop-item.item-index c.item-item.result fault
      c.item-item.is c.loop-item-test.true c.in-Ok.ensures.ok p),
)

pub returns-clause-ok : goal.returns-clause-ok
returns-clause-ok g c =
    c.loop-item.invariant.0 c.loop-item.self (takes_all g.O.ByteSink.takes g.O.ByteSink.fails g.met.O.ByteSink.lawful c.loop-item.self c.args.items.now c.loop-item.item-index c.loop-item-test.false)
