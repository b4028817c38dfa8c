use Rattle.std.proofs.Common.{length}
use Rattle.byte_sinks.specs.declared.metered.Metered.{Metered}
use Rattle.basis.specs.declared.memory.OrMemory.TheVariants.{Fault}
use Rattle.byte_sinks.specs.declared.fault.WriteFault.TheVariants.{Write as WriteFailed}
use Rattle.byte_sinks.specs.Metered.{Grows, Stops}
use Rattle.byte_sinks.proofs.metered.MeteredByteSink.put.Given as goal

-- what the rest does, the whole does
abbrev pub invariant-loop-rest : goal.invariant-loop-rest
invariant-loop-rest g l =
    ((m : Metered _) → Grows g.W.Write.contents l.self m l.rest → Grows g.W.Write.contents l.initial.self m l.text)
    × ((m : Metered _) → Stops g.W.Write.contents l.self m l.rest (Fault WriteFailed) → Stops g.W.Write.contents l.initial.self m l.text (Fault WriteFailed))

abbrev pub decreases-loop-rest : goal.decreases-loop-rest
decreases-loop-rest g l = length l.rest
