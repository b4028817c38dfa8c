use Rattle.std.proofs.Common.{ℕ, List, ◌++◌, ◌∙◌, ap, length}
use Rattle.std.specs.Prelude.{codes}
use Rattle.report_text.specs.ReportText.{number_line}
use Rattle.report_text.proofs.PieceLemmas.{texts_more}
use Rattle.report_text.proofs.pieces.put_texts.Goals as goal

pub loop-printed-preserved : goal.loop-printed-preserved
loop-printed-preserved c =
    texts_more c.args.text.now.items c.loop-printed.text.items c.put_number_line.new.text.items c.extend_from_slice.new.self.items c.args.lines.now c.printed-item.result c.loop-printed.printed-index
    c.loop-printed-test.true c.loop-printed.invariant
    (c.in_ok-put_number_line.ensures ∙ ap (λ (t : List ℕ). c.loop-printed.text.items ++ number_line (codes "line") (length t)) (c.as_bytes.ensures ∙ c.printed-item.is))
    (c.in_ok-extend_from_slice.ensures.items ∙ ap (λ (t : List ℕ). c.put_number_line.new.text.items ++ t) (c.as_bytes-in-loop-printed.ensures ∙ c.printed-item.is))
