use Rattle.std.proofs.Common.{arith}
use Rattle.std.proofs.lemmas.Bool.Decides.{nat_tests}
use Rattle.byte_sinks.proofs.PutLemmas.{stops_by_error, stops_dry, rest_grows, rest_stops, grows_done}
use Rattle.basis.specs.declared.memory.OrMemory.TheVariants.{Fault}
use Rattle.byte_sinks.specs.declared.fault.WriteFault.TheVariants.{Write as WriteFailed}
use Rattle.byte_sinks.proofs.metered.MeteredByteSink.put.Goals as goal

pub returns-then-taken-eq0-clause-err : goal.returns-then-taken-eq0-clause-err
returns-then-taken-eq0-clause-err g c =
    c.loop-rest.invariant.1 c.write.new.self
    (stops_dry g.W.Write.contents c.loop-rest.self c.write.new.self c.loop-rest.rest.now c.in-Ok.taken (omega arith) (grind (arith, nat_tests))
    c.in-Ok.ensures.bytes c.in-Ok.ensures.failures)

pub loop-rest-preserved : goal.loop-rest-preserved
loop-rest-preserved g c = (
  λ m p. c.loop-rest.invariant.0 m
      (rest_grows g.W.Write.contents c.loop-rest.self c.write.new.self c.loop-rest.rest.now c.split_at.result.1.now c.in-Ok.taken (omega arith)
      c.in-Ok.ensures.bytes c.in-Ok.ensures.failures c.split_at.ensures.back m p),
  λ m p. c.loop-rest.invariant.1 m
      (rest_stops g.W.Write.contents c.loop-rest.self c.write.new.self c.loop-rest.rest.now c.split_at.result.1.now c.in-Ok.taken (omega arith)
      c.in-Ok.ensures.bytes c.in-Ok.ensures.failures c.split_at.ensures.back m (Fault WriteFailed) p),
)

pub returns-in-Err-clause-err : goal.returns-in-Err-clause-err
returns-in-Err-clause-err g c =
    c.loop-rest.invariant.1 c.write.new.self
    (stops_by_error g.W.Write.contents c.loop-rest.self c.write.new.self c.loop-rest.rest.now c.in-Err.ensures.bytes c.in-Err.ensures.failures)

pub returns-clause-ok : goal.returns-clause-ok
returns-clause-ok g c = c.loop-rest.invariant.0 c.loop-rest.self (grows_done g.W.Write.contents c.loop-rest.self c.loop-rest.rest.now (grind (arith, nat_tests)))
