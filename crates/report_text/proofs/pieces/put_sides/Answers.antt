use Rattle.std.proofs.Common.{◌++◌, ◌∙◌, ap}
use Rattle.report_text.specs.ReportText.{side_text}
use Rattle.report_text.proofs.PieceLemmas.{sides_more}
use Rattle.report_text.proofs.pieces.put_sides.Goals as goal

pub loop-side-preserved : goal.loop-side-preserved
loop-side-preserved c =
    sides_more c.args.text.now.items c.loop-side.text.items c.put_side.new.text.items c.args.sides.now c.side-item.result c.loop-side.side-index
    c.loop-side-test.true c.loop-side.invariant
    (c.in_ok-put_side.ensures ∙ ap (λ x. c.loop-side.text.items ++ side_text x) c.side-item.is)
