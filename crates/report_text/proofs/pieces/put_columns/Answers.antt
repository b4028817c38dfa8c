use Rattle.std.proofs.Common.{◌++◌, ◌∙◌, ap}
use Rattle.report_text.specs.ReportText.{column_line}
use Rattle.report_text.proofs.PieceLemmas.{columns_more}
use Rattle.report_text.proofs.pieces.put_columns.Goals as goal

pub loop-column-preserved : goal.loop-column-preserved
loop-column-preserved c =
    columns_more c.args.text.now.items c.loop-column.text.items c.put_number_line.new.text.items c.args.columns.now c.column-item.result c.loop-column.column-index
    c.loop-column-test.true c.loop-column.invariant
    (c.in_ok-put_number_line.ensures ∙ rw c.deref.ensures.value (ap (λ x. c.loop-column.text.items ++ column_line x) (c.column.view_is ∙ c.column-item.is)))
