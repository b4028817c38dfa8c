use Rattle.std.proofs.Common.{List, ℕ, ap, ◌∙◌}
use Rattle.report_text.specs.Report.{Column}
use Rattle.vreport.specs.Inner.{HasWidth}
use Rattle.vreport.specs.Truth.{column_of}
use Rattle.vreport.proofs.MappedLemmas.{mapped_more}
use Rattle.vreport.proofs.report.columns_of.Goals as goal

pub loop-variable-preserved : goal.loop-variable-preserved
loop-variable-preserved c =
    let named : List ℕ → Column = λ name. record { name = name; width = c.variable.inside.length } in
    mapped_more column_of HasWidth c.loop-variable.columns.items c.push.new.self.items c.args.variables.now c.loop-variable.variable-index c.variable-item.result _ c.variable-item.is
    c.loop-variable-test.true c.in_ok-push.ensures.items (ap named (c.in_ok-from_slice.ensures.items ∙ c.deref.ensures.value) ∙ ap column_of c.variable.view_is) c.variable.invariant
    c.loop-variable.invariant
