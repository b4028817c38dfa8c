use Rattle.std.proofs.Common.{refl}
use Rattle.report_text.specs.ReportText.{line_race_text, line_races_text}
use Rattle.vreport.proofs.WriteLemmas.{ItemsLead}
use Rattle.vreport.proofs.write.put_line_races.Given as goal

abbrev pub invariant-loop-race : goal.invariant-loop-race
invariant-loop-race g l = ItemsLead g.O.ByteSink.takes g.O.ByteSink.fails g.met.O.ByteSink.lawful line_race_text line_races_text (λ x xs. refl) l.races l.race-index l.initial.byte_sink l.byte_sink
