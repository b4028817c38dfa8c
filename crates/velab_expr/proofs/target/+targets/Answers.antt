use Rattle.std.proofs.Common.{◌≡◌, ◌+◌, List, drop, sym, ap, subst, ◌∙◌}
use Rattle.vast.specs.NumberedStatements.{TargetTree, bit, part}
use Rattle.vast.specs.NumberedWords.{word_of}
use Rattle.vast.specs.NumberedTrees.{tree_of, target_tree, target_trees}
use Rattle.vast.specs.declared.statement.Target.{Target}
use Rattle.vexpr_parse.specs.Texts.{words_of}
use Rattle.velab_expr.specs.Answers.{Makes, behind}
use Rattle.velab_expr.specs.InnerTargets.{lower_bit, lower_part}
use Rattle.velab_expr.specs.Written.{lower_target_by, lower_targets_by}
use Rattle.velab_expr.proofs.AnswerLemmas.{hands_on, still_refused, goes_behind}
use Rattle.velab_expr.proofs.ListLemmas.{drop_at}
use Rattle.velab_expr.proofs.TargetLemmas.{joined_is, bit_refused, part_refused}
use Rattle.velab_expr.proofs.target.+targets.Goals as goal

pub put_target-returns-in-Joined : goal.put_target-returns-in-Joined
put_target-returns-in-Joined t c =
    subst (λ (tree : TargetTree). Makes c.put_targets.result c.put_targets.new.into.items (behind c.args.into.now.items (lower_target_by c.args.fixed c.args.scope.now tree)))
    (joined_is (words_of c.args.tokens.now) c.args.target.now c.in-Joined.at c.in-Joined.targets c.deref-in-Joined.result.now c.in-Joined.is c.deref-in-Joined.ensures.value)
    c.put_targets.ensures

pub put_targets-loop-one-preserved : goal.put_targets-loop-one-preserved
put_targets-loop-one-preserved t c =
    let words = words_of c.args.tokens.now in
    let scope = c.args.scope.now in
    let fixed = c.args.fixed in
    let rest = drop (c.loop-one.one-index + 1) c.args.targets.now in
    goes_behind c.loop-one.into.items (lower_target_by fixed scope (target_tree words c.one-item.result)) (lower_targets_by fixed scope (target_trees words rest))
    c.put_target.new.into.items c.in_ok-put_target.ensures
    ∙ ap (λ (l : List Target). behind c.loop-one.into.items (lower_targets_by fixed scope (target_trees words l)))
    (sym (drop_at c.args.targets.now c.loop-one.one-index c.one-item.result c.loop-one-test.true c.one-item.is))
    ∙ c.loop-one.invariant

pub put_target-returns-in_err-bit_target-in-Bit : goal.put_target-returns-in_err-bit_target-in-Bit
put_target-returns-in_err-bit_target-in-Bit t c =
    let words = words_of c.args.tokens.now in
    let scope = c.args.scope.now in
    let old = c.args.into.now.items in
    let letters = word_of words c.in-Bit.name in
    let index = tree_of words c.deref.result.now in
    let is : bit letters index ≡ target_tree words c.args.target.now =
    (λ i. bit letters (tree_of words (c.deref.ensures i))) ∙ sym (ap (target_tree words) c.in-Bit.is) in
    subst (λ (tree : TargetTree). Makes c.from_residual-in_err-bit_target-in-Bit.result old (behind old (lower_target_by c.args.fixed scope tree))) is
    (hands_on c.from_residual-in_err-bit_target-in-Bit.result c.in_err-bit_target-in-Bit.field-0.0 old (behind old (lower_target_by c.args.fixed scope (bit letters index))) c.from_residual-in_err-bit_target-in-Bit.ensures.1
    (still_refused (lower_bit c.args.fixed scope letters index) (behind old (lower_target_by c.args.fixed scope (bit letters index))) (λ fault h. bit_refused c.args.fixed scope old letters fault index h)
    c.in_err-bit_target-in-Bit.field-0.0 c.in_err-bit_target-in-Bit.ensures))

pub put_target-returns-in_err-part_target-in-Part : goal.put_target-returns-in_err-part_target-in-Part
put_target-returns-in_err-part_target-in-Part t c =
    let words = words_of c.args.tokens.now in
    let scope = c.args.scope.now in
    let old = c.args.into.now.items in
    let letters = word_of words c.in-Part.name in
    let left = tree_of words c.deref-in-Part.result.now in
    let right = tree_of words c.deref-in-Part-2.result.now in
    let is : part letters left right ≡ target_tree words c.args.target.now =
    (λ i. part letters (tree_of words (c.deref-in-Part.ensures i)) (tree_of words (c.deref-in-Part-2.ensures i))) ∙ sym (ap (target_tree words) c.in-Part.is) in
    subst (λ (tree : TargetTree). Makes c.from_residual-in_err-part_target-in-Part.result old (behind old (lower_target_by c.args.fixed scope tree))) is
    (hands_on c.from_residual-in_err-part_target-in-Part.result c.in_err-part_target-in-Part.field-0.0 old (behind old (lower_target_by c.args.fixed scope (part letters left right))) c.from_residual-in_err-part_target-in-Part.ensures.1
    (still_refused (lower_part scope letters left right) (behind old (lower_target_by c.args.fixed scope (part letters left right))) (λ fault h. part_refused c.args.fixed scope old letters fault left right h)
    c.in_err-part_target-in-Part.field-0.0 c.in_err-part_target-in-Part.ensures))
