use Rattle.std.specs.Prelude.{codes}
use Rattle.report_text.specs.ReportText.{looked_word}
use Rattle.report_text.specs.Inner.Headings.{label_line_before}
use Rattle.report_text.proofs.heading_lines.named_views.Goals as goal

pub returns-clause-each : goal.returns-clause-each
returns-clause-each c = λ views rest ok is h.
    let d = c.departures_line-departures.ensures.each views.0 (label_line_before (codes "looked ") (looked_word views.1) rest) ok h in
    let l = c.looked_line-looked.ensures.each views.1 rest d.1.0 d.1.1 in
    (λ i. (d.0 i, l.0 i), l.1)
