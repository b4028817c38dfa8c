use Rattle.std.proofs.Common.{◌<◌, ◌^◌, ◌++◌, ◌∙◌, ap, sym, subst, arith, length}
use Rattle.std.specs.Prelude.{codes}
use Rattle.std.specs.Fmt.{decimal}
use Rattle.report_text.specs.ReportText.{column_lines}
use Rattle.report_text.specs.Inner.Headings.{heading_before, label_line_before}
use Rattle.report_text.proofs.read.read_head.Goals as goal

pub returns-clause-read : goal.returns-clause-read
returns-clause-read c = λ ok.
    let k = c.in_ok-columns.ensures.read ok in
    let n = c.number_line-count.ensures.read k.0 in
    let h = c.read_heading-heading.ensures.read n.0 in (
      h.0,
      (
        record {
          heading = h.1.0;
          listed = k.1.0;
          few = subst (λ x. x < 2 ^ 64) (sym k.1.1) n.1.small;
          whole = h.1.1 ∙ ap (heading_before c.read_heading-heading.result) (n.1.whole ∙ (λ i. label_line_before (codes "vars ") (decimal (sym k.1.1 i)) (k.1.3 i)));
        },
        k.1.2,
      ),
    )

pub returns-clause-each : goal.returns-clause-each
returns-clause-each c = λ h columns rest ok t.
    let w = c.read_heading-heading.ensures.each h _ ok t.heading t.whole in
    let n = c.number_line-count.ensures.each (length columns) (column_lines columns ++ rest) w.1.0 (record { small = t.few; above = omega arith; below = omega (arith, t.few); whole = w.1.1 }) in
    let k = c.in_ok-columns.ensures.each columns rest n.1.0 t.listed (sym n.0) n.1.1 in
    (w.0, k.0, k.1)
