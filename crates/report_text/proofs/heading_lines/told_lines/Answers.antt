use Rattle.std.proofs.Common.{◌≡◌, ◌∙◌, sym, subst}
use Rattle.std.specs.Prelude.{codes}
use Rattle.basis.proofs.Bools.{and_both}
use Rattle.report_text.specs.ReportText.{outcome_words}
use Rattle.report_text.specs.Inner.Headings.{Told, IsToldIn, label_line_before}
use Rattle.report_text.proofs.HeadingLemmas.{views_in}
use Rattle.report_text.proofs.heading_lines.told_lines.Goals as goal

pub returns-clause-each : goal.returns-clause-each
returns-clause-each c = λ told rest ok is h.
    let w = c.view_lines-departures.ensures.each (told.0, told.1) (label_line_before (codes "state ") (outcome_words told.2) rest) ok
    (views_in c.args.version told.0 told.1 told.2 is) h in
    let o = c.outcome_line-outcome.ensures.each told.2 rest w.1.0 w.1.1 in
    let same : ◌≡◌ {A = Told} (c.view_lines-departures.result.0, c.view_lines-departures.result.1, c.outcome_line-outcome.result) told = λ i. ((w.0 i).0, (w.0 i).1, o.0 i) in
    (same, (c.require.ensures.ok ∙ and_both _ _ o.1.0 (c.are_told.ensures.1 (subst (IsToldIn c.args.version) (sym same) is)), c.require.ensures.rest ∙ o.1.1))
