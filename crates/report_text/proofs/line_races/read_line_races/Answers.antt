use Rattle.std.proofs.Common.{sym, subst}
use Rattle.std.specs.Prelude.{IfOk}
use Rattle.report_text.specs.Inner.LineRaces.{AreLastTaken}
use Rattle.report_text.specs.Inner.Places.{TakesEach}
use Rattle.report_text.proofs.line_races.read_line_races.Goals as goal

pub returns-in-Lines-clause-each : goal.returns-in-Lines-clause-each
returns-in-Lines-clause-each c =
    subst (λ looked. IfOk c.counted_line_races.result (λ races. TakesEach c.args.reader.now c.counted_line_races.new.reader (AreLastTaken looked) races.items)) (sym c.in-Lines.is) c.counted_line_races.ensures.each
