use Rattle.std.proofs.Common.{drop}
use Rattle.basis.specs.declared.memory.OrMemory.{OrMemory}
use Rattle.vcd_text.specs.declared.sink.DumpSink.{DumpSink}
use Rattle.vcd_text.specs.Sinks.{Takes, Fails}
use Rattle.vcd_text.proofs.sink.DumpSinkHistorySink.take.Given as goal

-- what taking the rest does, taking all does
abbrev pub invariant-loop-item : goal.invariant-loop-item
invariant-loop-item g l =
    ((t : DumpSink _) → Takes g.O.ByteSink.takes l.self (drop l.item-index l.items) t →
    Takes g.O.ByteSink.takes l.initial.self l.items t)
    × ((t : DumpSink _) (fault : OrMemory _) → Fails g.O.ByteSink.takes g.O.ByteSink.fails l.self (drop l.item-index l.items) fault t →
    Fails g.O.ByteSink.takes g.O.ByteSink.fails l.initial.self l.items fault t)
