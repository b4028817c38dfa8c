use Rattle.std.proofs.Common.{sym, ap, ◌∙◌}
use Rattle.vexpr_parse.specs.Words.{beginning_of, by_operator}
use Rattle.vexpr_parse.proofs.ReaderRules.{chosen, passed_over}
use Rattle.vexpr_parse.proofs.words.beginning_of.Goals as goal

pub returns-then-is_name : goal.returns-then-is_name
unfolding beginning_of
returns-then-is_name c =
    sym (
    chosen _ _ _ (sym c.is_name.ensures ∙ c.if-is_name.true)
    )

pub returns-then-is_number : goal.returns-then-is_number
unfolding beginning_of
returns-then-is_number c =
    sym (
    passed_over _ _ _ (sym c.is_name.ensures ∙ c.if-is_name.false)
    ∙ chosen _ _ _ (sym c.is_number.ensures ∙ c.if-is_number.true)
    )

pub returns-then-is : goal.returns-then-is
unfolding beginning_of
returns-then-is c =
    sym (
    passed_over _ _ _ (sym c.is_name.ensures ∙ c.if-is_name.false)
    ∙ passed_over _ _ _ (sym c.is_number.ensures ∙ c.if-is_number.false)
    ∙ chosen _ _ _ (sym c.is.ensures ∙ c.if-is.true)
    )

pub returns-then-is-2 : goal.returns-then-is-2
unfolding beginning_of
returns-then-is-2 c =
    sym (
    passed_over _ _ _ (sym c.is_name.ensures ∙ c.if-is_name.false)
    ∙ passed_over _ _ _ (sym c.is_number.ensures ∙ c.if-is_number.false)
    ∙ passed_over _ _ _ (sym c.is.ensures ∙ c.if-is.false)
    ∙ chosen _ _ _ (sym c.is-else-is.ensures ∙ c.if-is-2.true)
    )

pub returns-then-is-3 : goal.returns-then-is-3
unfolding beginning_of
returns-then-is-3 c =
    sym (
    passed_over _ _ _ (sym c.is_name.ensures ∙ c.if-is_name.false)
    ∙ passed_over _ _ _ (sym c.is_number.ensures ∙ c.if-is_number.false)
    ∙ passed_over _ _ _ (sym c.is.ensures ∙ c.if-is.false)
    ∙ passed_over _ _ _ (sym c.is-else-is.ensures ∙ c.if-is-2.false)
    ∙ chosen _ _ _ (sym c.is-else-is-2.ensures ∙ c.if-is-3.true)
    )

pub returns-then-is-4 : goal.returns-then-is-4
unfolding beginning_of
returns-then-is-4 c =
    sym (
    passed_over _ _ _ (sym c.is_name.ensures ∙ c.if-is_name.false)
    ∙ passed_over _ _ _ (sym c.is_number.ensures ∙ c.if-is_number.false)
    ∙ passed_over _ _ _ (sym c.is.ensures ∙ c.if-is.false)
    ∙ passed_over _ _ _ (sym c.is-else-is.ensures ∙ c.if-is-2.false)
    ∙ passed_over _ _ _ (sym c.is-else-is-2.ensures ∙ c.if-is-3.false)
    ∙ chosen _ _ _ (sym c.is-else-is-3.ensures ∙ c.if-is-4.true)
    )

pub returns-then-is-5 : goal.returns-then-is-5
unfolding beginning_of
returns-then-is-5 c =
    sym (
    passed_over _ _ _ (sym c.is_name.ensures ∙ c.if-is_name.false)
    ∙ passed_over _ _ _ (sym c.is_number.ensures ∙ c.if-is_number.false)
    ∙ passed_over _ _ _ (sym c.is.ensures ∙ c.if-is.false)
    ∙ passed_over _ _ _ (sym c.is-else-is.ensures ∙ c.if-is-2.false)
    ∙ passed_over _ _ _ (sym c.is-else-is-2.ensures ∙ c.if-is-3.false)
    ∙ passed_over _ _ _ (sym c.is-else-is-3.ensures ∙ c.if-is-4.false)
    ∙ chosen _ _ _ (sym c.is-else-is-4.ensures ∙ c.if-is-5.true)
    )

pub returns-in-None : goal.returns-in-None
unfolding beginning_of
returns-in-None c =
    sym (
    passed_over _ _ _ (sym c.is_name.ensures ∙ c.if-is_name.false)
    ∙ passed_over _ _ _ (sym c.is_number.ensures ∙ c.if-is_number.false)
    ∙ passed_over _ _ _ (sym c.is.ensures ∙ c.if-is.false)
    ∙ passed_over _ _ _ (sym c.is-else-is.ensures ∙ c.if-is-2.false)
    ∙ passed_over _ _ _ (sym c.is-else-is-2.ensures ∙ c.if-is-3.false)
    ∙ passed_over _ _ _ (sym c.is-else-is-3.ensures ∙ c.if-is-4.false)
    ∙ passed_over _ _ _ (sym c.is-else-is-4.ensures ∙ c.if-is-5.false)
    ∙ ap by_operator (sym c.unary_of.ensures ∙ c.in-None.is)
    )

pub returns-in-Some : goal.returns-in-Some
unfolding beginning_of
returns-in-Some c =
    sym (
    passed_over _ _ _ (sym c.is_name.ensures ∙ c.if-is_name.false)
    ∙ passed_over _ _ _ (sym c.is_number.ensures ∙ c.if-is_number.false)
    ∙ passed_over _ _ _ (sym c.is.ensures ∙ c.if-is.false)
    ∙ passed_over _ _ _ (sym c.is-else-is.ensures ∙ c.if-is-2.false)
    ∙ passed_over _ _ _ (sym c.is-else-is-2.ensures ∙ c.if-is-3.false)
    ∙ passed_over _ _ _ (sym c.is-else-is-3.ensures ∙ c.if-is-4.false)
    ∙ passed_over _ _ _ (sym c.is-else-is-4.ensures ∙ c.if-is-5.false)
    ∙ ap by_operator (sym c.unary_of.ensures ∙ c.in-Some.is)
    )
