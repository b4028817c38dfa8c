use Rattle.std.proofs.Common.{drop}
use Rattle.basis.specs.declared.memory.OrMemory.{OrMemory}
use Rattle.lines_text.specs.declared.sink.LinesSink.{LinesSink}
use Rattle.lines_text.specs.Sinks.{Takes, Fails}
use Rattle.lines_text.proofs.sink.LinesSinkHistorySink.take.Given as goal

-- what taking the rest does, taking all does
abbrev pub invariant-loop-item : goal.invariant-loop-item
invariant-loop-item g l =
    ((t : LinesSink _) → Takes g.O.ByteSink.takes l.self (drop l.item-index l.items) t →
    Takes g.O.ByteSink.takes l.initial.self l.items t)
    × ((t : LinesSink _) (fault : OrMemory _) → Fails g.O.ByteSink.takes g.O.ByteSink.fails l.self (drop l.item-index l.items) fault t →
    Fails g.O.ByteSink.takes g.O.ByteSink.fails l.initial.self l.items fault t)
