use Rattle.std.proofs.Common.{◌≡◌, ◌++◌, drop, map}
use Rattle.report_text.specs.WellFormed.{Each}
use Rattle.racebook.specs.LineRaces.{Side}
use Rattle.vreport.specs.Inner.{HasSideLog}
use Rattle.vreport.proofs.report.sides_of.Given as goal

abbrev pub invariant-loop-side : goal.invariant-loop-side
invariant-loop-side l = (l.told.items ++ map (λ (s : Side). s) (drop l.side-index l.sides) ≡ map (λ (s : Side). s) l.sides) × Each HasSideLog l.told.items
