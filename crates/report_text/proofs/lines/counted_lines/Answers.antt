use Rattle.std.proofs.Common.{◌<◌, ◌^◌, ◌++◌, ◌∙◌, sym, subst, arith, length}
use Rattle.std.specs.Prelude.{codes}
use Rattle.std.specs.Fmt.{decimal}
use Rattle.report_text.specs.ReportText.{counted_texts}
use Rattle.report_text.specs.Inner.Headings.{label_line_before}
use Rattle.report_text.proofs.BagLemmas.{bag_spelled, some_each}
use Rattle.report_text.proofs.lines.counted_lines.Goals as goal

pub returns-clause-read : goal.returns-clause-read
returns-clause-read c = λ ok.
    let t = c.in_ok-bag.ensures.read ok in
    let n = c.number_line-count.ensures.read t.0 in (
      n.0,
      (
        (t.1.0.1, (t.1.0.0, subst (λ k. k < 2 ^ 64) (sym t.1.1) n.1.small)),
        n.1.whole ∙ (λ i. label_line_before (codes "lines ") (decimal (sym t.1.1 i)) (t.1.2 i)) ∙ sym (bag_spelled c.in_ok-bag.bag c.take_lines.new.reader.rest),
      ),
    )

pub returns-clause-each : goal.returns-clause-each
returns-clause-each c =
    some_each c.in_ok-bag.bag c.args.reader.now c.take_lines.new.reader (λ all rest ok h.
    let n = c.number_line-count.ensures.each (length all) (counted_texts all ++ rest) ok (record { small = h.0.1.1; above = omega arith; below = omega (arith, h.0.1.1); whole = h.1 ∙ bag_spelled all rest }) in
    c.in_ok-bag.ensures.each all rest n.1.0 ((h.0.1.0, h.0.0), sym n.0, n.1.1))
