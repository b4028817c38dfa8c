use Rattle.std.proofs.Common.{◌<◌, ◌^◌, ◌++◌, ◌∙◌, sym, subst, arith, length}
use Rattle.std.specs.Prelude.{codes}
use Rattle.std.specs.Fmt.{decimal}
use Rattle.report_text.specs.Inner.Headings.{label_line_before}
use Rattle.report_text.proofs.BagLemmas.{text_spelled}
use Rattle.report_text.proofs.lines.take_text.Goals as goal

pub returns-clause-read : goal.returns-clause-read
returns-clause-read c = λ ok.
    let b = c.bytes.ensures.read ok in
    let n = c.number_line-size.ensures.read b.0 in (
      n.0,
      (
        subst (λ k. k < 2 ^ 64) b.1.0 n.1.small,
        n.1.whole ∙ (λ i. label_line_before (codes "line ") (decimal (b.1.0 i)) (b.1.1 i)) ∙ sym (text_spelled c.bytes.result.now c.bytes.new.self.rest),
      ),
    )

pub returns-clause-each : goal.returns-clause-each
returns-clause-each c = λ line rest ok h.
    let n = c.number_line-size.ensures.each (length line) (line ++ rest) ok (record { small = h.0; above = omega arith; below = omega (arith, h.0); whole = h.1 ∙ text_spelled line rest }) in
    c.bytes.ensures.each line rest n.1.0 n.0 n.1.1
