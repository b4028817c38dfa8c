use Rattle.std.proofs.Common.{◌++◌, sym, length}
use Rattle.report_text.specs.ReportText.{value_lines}
use Rattle.report_text.proofs.RaceLemmas.{race_is, race_front, race_values}
use Rattle.report_text.proofs.races.take_race.Goals as goal

pub returns-clause-read : goal.returns-clause-read
returns-clause-read c = λ ok.
    let v = c.in_ok-values.ensures.read ok in
    let l = c.race_line-line.ensures.read v.0 in (
      l.0,
      race_is c.args.columns.now (record { time = c.race_line-line.result.time; variable = c.race_line-line.result.variable; values = c.in_ok-values.values.items }) c.race_line-line.result.count c.race_line-line.result.width
          l.1.0 c.args.reader.now.rest c.race_line-line.new.reader.rest c.take_values.new.reader.rest l.1.1 l.1.2 v.1.0 v.1.1 v.1.2,
    )

pub returns-clause-each : goal.returns-clause-each
returns-clause-each c = λ race rest ok h.
    let l = c.race_line-line.ensures.each race.time race.variable (length race.values) h.0.0.column (value_lines race.values ++ rest) ok (race_front c.args.columns.now race c.args.reader.now.rest rest h) in
    let v = c.in_ok-values.ensures.each race.values rest l.4.0 (race_values c.args.columns.now race c.race_line-line.result.width h.0.0 l.2) (sym l.3) l.4.1 in
    (λ i. record { time = l.0 i; variable = l.1 i; values = v.0 i }, v.1)
