use Rattle.std.proofs.Common.{refl}
use Rattle.report_text.specs.ReportText.{race_text, races_text}
use Rattle.vreport.proofs.WriteLemmas.{ItemsLead}
use Rattle.vreport.proofs.write.put_races.Given as goal

abbrev pub invariant-loop-race : goal.invariant-loop-race
invariant-loop-race g l = ItemsLead g.O.ByteSink.takes g.O.ByteSink.fails g.met.O.ByteSink.lawful (race_text l.columns) (races_text l.columns) (λ x xs. refl) l.races l.race-index l.initial.byte_sink l.byte_sink
