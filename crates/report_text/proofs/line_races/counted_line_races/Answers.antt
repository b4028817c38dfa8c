use Rattle.std.proofs.Common.{◌<◌, ◌^◌, ◌++◌, ◌∙◌, sym, subst, arith, length}
use Rattle.std.specs.Prelude.{codes}
use Rattle.std.specs.Fmt.{decimal}
use Rattle.report_text.specs.ReportText.{line_races_text}
use Rattle.report_text.specs.Inner.Headings.{label_line_before}
use Rattle.report_text.proofs.LineRaceLemmas.{last_spelled, lines_seen}
use Rattle.report_text.proofs.line_races.counted_line_races.Goals as goal

pub returns-clause-read : goal.returns-clause-read
returns-clause-read c = λ ok.
    let t = c.in_ok-races.ensures.read ok in
    let n = c.number_line-count.ensures.read t.0 in (
      n.0,
      (
        (t.1.0, subst (λ k. k < 2 ^ 64) (sym t.1.1) n.1.small, lines_seen c.in_ok-races.races.items),
        n.1.whole ∙ (λ i. label_line_before (codes "line races ") (decimal (sym t.1.1 i)) (t.1.2 i)) ∙ sym (last_spelled c.in_ok-races.races.items c.take_line_races.new.reader.rest),
      ),
    )

pub returns-clause-each : goal.returns-clause-each
returns-clause-each c = λ races rest ok h.
    let n = c.number_line-count.ensures.each (length races) (line_races_text races ++ rest) ok (record { small = h.0.1; above = omega arith; below = omega (arith, h.0.1); whole = h.1 ∙ last_spelled races rest }) in
    c.in_ok-races.ensures.each races rest n.1.0 (h.0.0, sym n.0, n.1.1)
