use Rattle.std.proofs.Common.{List, ℕ, ◌+◌, drop, ap, ◌∙◌}
use Rattle.velab_expr.specs.Literals.{constant_by, based_constant}
use Rattle.velab_expr.proofs.NumberLemmas.{all_behind}
use Rattle.velab_expr.proofs.number.constant_of.Goals as goal

pub returns-in-Some : goal.returns-in-Some
returns-in-Some c =
    c.based_constant.ensures
    ∙ ap (based_constant c.leading_digits-size.result.now) (all_behind (c.in-Some.place + 1) c.args.text.now)
    ∙ ap (λ (size : List ℕ). based_constant size (drop (c.in-Some.place + 1) c.args.text.now)) c.leading_digits-size.ensures
    ∙ ap (constant_by c.args.text.now) c.in-Some.ensures.place
