use Rattle.std.proofs.Common.{Err, ap, sym, subst, ◌∙◌}
use Rattle.vast.specs.NumberedTrees.{tree_of}
use Rattle.vvalue.specs.Value.{Environment}
use Rattle.vvalue.specs.Flaws.{flaw_of}
use Rattle.velab_expr.specs.Answers.{Refuses, value_unless_flawed}
use Rattle.velab_expr.specs.Constants.{constant_value, checked_constant}
use Rattle.velab_expr.specs.FirstWords.{first_in}
use Rattle.velab_expr.proofs.constant.worth_of.Goals as goal

pub returns-in-Some : goal.returns-in-Some
returns-in-Some c words = subst (λ fault. Refuses fault (checked_constant (first_in (tree_of words c.args.written.now)) c.args.expression.now)) (sym c.refusal.ensures)
    (ap (λ (m : Environment). value_unless_flawed (flaw_of m c.args.expression.now) (first_in (tree_of words c.args.written.now)) (constant_value c.args.expression.now)) (sym c.nothing-environment.ensures)
    ∙ ap (λ flaw. value_unless_flawed flaw (first_in (tree_of words c.args.written.now)) (constant_value c.args.expression.now)) (sym c.flaw_of.ensures ∙ c.in-Some.is)
    ∙ (λ i. Err (record { rule = sym c.rule_of.ensures i; at = sym (c.first_in.ensures words) i })))
