use Rattle.std.proofs.Common.{sym, ap, ◌∙◌}
use Rattle.vbits.specs.Vectors.{of_number}
use Rattle.velab_expr.proofs.NumberLemmas.{x_letters, z_letters, known_letters}
use Rattle.velab_expr.proofs.number.digit.Goals as goal

pub returns-then-is_x_digit : goal.returns-then-is_x_digit
returns-then-is_x_digit c = ap (λ v. v.letters) c.all_x.ensures ∙ x_letters c.args.count c.args.c (sym c.is_x_digit.ensures ∙ c.if-is_x_digit.true)

pub returns-then-is_z_digit : goal.returns-then-is_z_digit
returns-then-is_z_digit c =
    ap (λ v. v.letters) c.all_z.ensures
    ∙ z_letters c.args.count c.args.c (sym c.is_x_digit.ensures ∙ c.if-is_x_digit.false) (sym c.is_z_digit.ensures ∙ c.if-is_z_digit.true)

pub returns-else-is_z_digit : goal.returns-else-is_z_digit
returns-else-is_z_digit c =
    ap (λ v. v.letters) (c.from_u64.ensures ∙ ap (of_number c.args.count) (c.from.ensures ∙ c.digit_value.ensures))
    ∙ known_letters c.args.count c.args.c (sym c.is_x_digit.ensures ∙ c.if-is_x_digit.false) (sym c.is_z_digit.ensures ∙ c.if-is_z_digit.false)
