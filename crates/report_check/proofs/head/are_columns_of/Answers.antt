use Rattle.std.proofs.Common.{refl}
use Rattle.vreport.specs.Truth.{column_of}
use Rattle.report_check.proofs.HeadLemmas.{agree_at_end}
use Rattle.report_check.proofs.head.are_columns_of.Goals as goal

pub returns : goal.returns
returns c =
    let is = agree_at_end column_of c.args.columns.now c.args.variables.now c.loop-place.place c.if-columns-variables.false c.loop-place-test.false c.loop-place.invariant in
    (λ _. is, λ _. refl)
