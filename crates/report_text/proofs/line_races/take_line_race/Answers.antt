use Rattle.std.proofs.Common.{◌++◌, sym, ap, length}
use Rattle.report_text.specs.ReportText.{side_texts}
use Rattle.report_text.proofs.LineRaceLemmas.{line_race_is, line_race_front, sides_of}
use Rattle.report_text.proofs.line_races.take_line_race.Goals as goal

pub returns-clause-read : goal.returns-clause-read
returns-clause-read c = λ ok.
    let v = c.in_ok-sides.ensures.read ok in
    let l = c.line_race_line-time.ensures.read v.0 in (
      l.0,
      line_race_is (record { time = c.line_race_line-time.result.0; sides = c.in_ok-sides.sides.items }) c.line_race_line-time.result.1
          c.args.reader.now.rest c.line_race_line-time.new.reader.rest c.take_sides.new.reader.rest l.1 v.1.0 v.1.1 v.1.2,
    )

pub returns-clause-each : goal.returns-clause-each
returns-clause-each c = λ race rest ok h.
    let l = c.line_race_line-time.ensures.each (race.time, length race.sides) (side_texts race.sides ++ rest) ok (line_race_front race c.args.reader.now.rest rest h) in
    let v = c.in_ok-sides.ensures.each race.sides rest l.1.0 (sides_of race h.0, sym (ap (λ k. k.1) l.0), l.1.1) in
    (λ i. record { time = (l.0 i).0; sides = v.0 i }, v.1)
