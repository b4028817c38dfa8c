use Rattle.std.proofs.Common.{◌∙◌, sym}
use Rattle.report_text.specs.ReportText.{departures_word}
use Rattle.report_text.proofs.HeadingLemmas.{departures_lacks}
use Rattle.report_text.proofs.WordLemmas.{departures_injective}
use Rattle.report_text.proofs.heading_lines.departures_line.Goals as goal

pub returns-in-Some-clause-each : goal.returns-in-Some-clause-each
returns-in-Some-clause-each c = λ d rest ok h.
    let w = c.label_line.ensures.each (departures_word d) rest ok (departures_lacks d, h) in
    (departures_injective c.in-Some.departures d (sym c.in-Some.ensures.read ∙ w.0), w.1)

pub returns-in-None-clause-each : goal.returns-in-None-clause-each
returns-in-None-clause-each c = λ d rest ok h.
    let w = c.label_line.ensures.each (departures_word d) rest ok (departures_lacks d, h) in
    absurd (c.in-None.ensures.none d w.0)
