use Rattle.vreport.proofs.WriteLemmas.{EndsLead}
use Rattle.vreport.proofs.write.put_ends.Given as goal

abbrev pub invariant-loop-place : goal.invariant-loop-place
invariant-loop-place g l = EndsLead g.O.ByteSink.takes g.O.ByteSink.fails g.met.O.ByteSink.lawful l.machine l.steps l.ends l.place l.initial.byte_sink l.byte_sink
