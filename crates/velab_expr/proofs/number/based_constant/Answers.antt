use Rattle.std.proofs.Common.{ap, ◌∙◌}
use Rattle.vlex.specs.Forms.{skip_blanks}
use Rattle.velab_expr.proofs.NumberLemmas.{based_from}
use Rattle.velab_expr.proofs.number.based_constant.Goals as goal

pub returns : goal.returns
returns c =
    based_from c.args.size.now c.args.text.now c.without_mark-behind.result.now c.skip_blanks-digits.result.now c.is_marked-marked.result c.spreads_by.result
    c.size_of.result c.first_byte.result c.based_value-value.result c.with_sign.result c.is_marked-marked.ensures c.without_mark-behind.ensures c.size_of.ensures.value
    c.first_byte.ensures (c.skip_blanks-digits.ensures ∙ ap skip_blanks c.behind_first.ensures) c.based_value-value.ensures c.with_sign.ensures c.spreads_by.ensures
