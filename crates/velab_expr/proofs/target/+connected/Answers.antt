use Rattle.std.proofs.Common.{◌≡◌, ◌+◌, true, List, drop, sym, ap, subst, ◌∙◌}
use Rattle.vast.specs.NumberedExpressions.{ExpressionTree, bit, part}
use Rattle.vast.specs.NumberedWords.{word_of}
use Rattle.vast.specs.NumberedTrees.{tree_of, trees_of}
use Rattle.vast.specs.declared.expression.Expression.{Expression}
use Rattle.vexpr_parse.specs.Texts.{words_of}
use Rattle.velab_expr.specs.Answers.{Makes, behind}
use Rattle.velab_expr.specs.InnerTargets.{lower_bit, lower_part, lower_connected, lower_all_connected}
use Rattle.velab_expr.proofs.AnswerLemmas.{hands_on, still_refused, goes_behind}
use Rattle.velab_expr.proofs.ListLemmas.{drop_at}
use Rattle.velab_expr.proofs.PartLemmas.{concatenation_is}
use Rattle.velab_expr.proofs.TargetLemmas.{bit_refused, part_refused}
use Rattle.velab_expr.proofs.target.+connected.Goals as goal

pub put_connected-returns-in-Concatenation : goal.put_connected-returns-in-Concatenation
put_connected-returns-in-Concatenation t c =
    subst (λ (tree : ExpressionTree). Makes c.put_all_connected.result c.put_all_connected.new.into.items (behind c.args.into.now.items (lower_connected c.args.scope.now tree)))
    (concatenation_is (words_of c.args.tokens.now) c.args.value.now c.in-Concatenation.at c.in-Concatenation.parts c.deref-in-Concatenation.result.now c.in-Concatenation.is c.deref-in-Concatenation.ensures.value)
    c.put_all_connected.ensures

pub put_all_connected-loop-one-preserved : goal.put_all_connected-loop-one-preserved
put_all_connected-loop-one-preserved t c =
    let words = words_of c.args.tokens.now in
    let scope = c.args.scope.now in
    let rest = drop (c.loop-one.one-index + 1) c.args.parts.now in
    goes_behind c.loop-one.into.items (lower_connected scope (tree_of words c.one-item.result)) (lower_all_connected scope (trees_of words rest))
    c.put_connected.new.into.items c.in_ok-put_connected.ensures
    ∙ ap (λ (l : List Expression). behind c.loop-one.into.items (lower_all_connected scope (trees_of words l)))
    (sym (drop_at c.args.parts.now c.loop-one.one-index c.one-item.result c.loop-one-test.true c.one-item.is))
    ∙ c.loop-one.invariant

pub put_connected-returns-in_err-bit_target-in-Bit : goal.put_connected-returns-in_err-bit_target-in-Bit
put_connected-returns-in_err-bit_target-in-Bit t c =
    let words = words_of c.args.tokens.now in
    let scope = c.args.scope.now in
    let old = c.args.into.now.items in
    let letters = word_of words c.in-Bit.name in
    let index = tree_of words c.deref.result.now in
    let is : bit letters index ≡ tree_of words c.args.value.now =
    (λ i. bit letters (tree_of words (c.deref.ensures i))) ∙ sym (ap (tree_of words) c.in-Bit.is) in
    subst (λ (tree : ExpressionTree). Makes c.from_residual-in_err-bit_target-in-Bit.result old (behind old (lower_connected scope tree))) is
    (hands_on c.from_residual-in_err-bit_target-in-Bit.result c.in_err-bit_target-in-Bit.field-0.0 old (behind old (lower_connected scope (bit letters index))) c.from_residual-in_err-bit_target-in-Bit.ensures.1
    (still_refused (lower_bit true scope letters index) (behind old (lower_connected scope (bit letters index))) (λ fault h. bit_refused true scope old letters fault index h)
    c.in_err-bit_target-in-Bit.field-0.0 c.in_err-bit_target-in-Bit.ensures))

pub put_connected-returns-in_err-part_target-in-Part : goal.put_connected-returns-in_err-part_target-in-Part
put_connected-returns-in_err-part_target-in-Part t c =
    let words = words_of c.args.tokens.now in
    let scope = c.args.scope.now in
    let old = c.args.into.now.items in
    let letters = word_of words c.in-Part.name in
    let left = tree_of words c.deref-in-Part.result.now in
    let right = tree_of words c.deref-in-Part-2.result.now in
    let is : part letters left right ≡ tree_of words c.args.value.now =
    (λ i. part letters (tree_of words (c.deref-in-Part.ensures i)) (tree_of words (c.deref-in-Part-2.ensures i))) ∙ sym (ap (tree_of words) c.in-Part.is) in
    subst (λ (tree : ExpressionTree). Makes c.from_residual-in_err-part_target-in-Part.result old (behind old (lower_connected scope tree))) is
    (hands_on c.from_residual-in_err-part_target-in-Part.result c.in_err-part_target-in-Part.field-0.0 old (behind old (lower_connected scope (part letters left right))) c.from_residual-in_err-part_target-in-Part.ensures.1
    (still_refused (lower_part scope letters left right) (behind old (lower_connected scope (part letters left right))) (λ fault h. part_refused true scope old letters fault left right h)
    c.in_err-part_target-in-Part.field-0.0 c.in_err-part_target-in-Part.ensures))
