use Rattle.std.proofs.Common.{sym, ap, ◌∙◌}
use Rattle.vbits.specs.Vectors.{of_number}
use Rattle.velab_expr.proofs.NumberLemmas.{of_low_number, decimal_known}
use Rattle.velab_expr.proofs.number.decimal_value.Goals as goal

pub returns-else-is_unknown : goal.returns-else-is_unknown
returns-else-is_unknown c =
    c.from_u64.ensures
    ∙ ap (of_number c.args.size) c.low_number.ensures
    ∙ of_low_number c.args.size _ c.requires.few
    ∙ decimal_known c.args.size c.args.digits.now (sym c.is_unknown.ensures ∙ c.if-is_unknown.false)
