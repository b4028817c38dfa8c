use Rattle.std.proofs.Common.{◌≡◌, ◌-◌, List, ◌++◌, ◌∷◌, [], ℕ, Result, refl, subst, sym, ap, ◌∙◌, arith}
use Rattle.vast.specs.NumberedExpressions.{ExpressionTree}
use Rattle.vast.specs.NumberedExpressions as written
use Rattle.vdesign.specs.Expressions.{ExpressionTree as Lowered, conditional}
use Rattle.vdesign.specs.declared.expression.Node.TheVariants.{Conditional}
use Rattle.vast.specs.NumberedTrees.{tree_of, trees_of}
use Rattle.vexpr_parse.specs.Texts.{words_of}
use Rattle.vdesign.specs.declared.expression.Node.{Node}
use Rattle.vbits.specs.Vectors.{Vector}
use Rattle.velab_expr.specs.Answers.{◌>>=◌, Makes}
use Rattle.velab_expr.specs.InnerParts.{nodes_behind}
use Rattle.velab_expr.specs.Resolved.{lower, lower_parts, lower_joined, replicate_by}
use Rattle.velab_expr.specs.declared.fault.ElabFault.{ElabFault}
use Rattle.velab_expr.proofs.PartLemmas.{concatenation_is, replication_is, part_put, part_refused, none_behind, all_parts}
use Rattle.velab_expr.proofs.AnswerLemmas.{hands_on, still_refused}
use Rattle.velab_expr.proofs.ExpressionLemmas.{three_operands}
use Rattle.velab_expr.proofs.expression.+expressions.Goals as goal

pub put_expression-returns-in-Concatenation : goal.put_expression-returns-in-Concatenation
put_expression-returns-in-Concatenation t c =
    subst (λ (tree : ExpressionTree). Makes c.put_joined.result c.put_joined.new.nodes.items (nodes_behind c.args.nodes.now.items (lower c.args.fixed c.args.scope.now tree)))
    (concatenation_is (words_of c.args.tokens.now) c.args.expression.now c.in-Concatenation.at c.in-Concatenation.parts
    c.deref-in-Concatenation.result.now c.in-Concatenation.is c.deref-in-Concatenation.ensures.value)
    c.put_joined.ensures

pub put_expression-returns-in_ok-count-in-Replication : goal.put_expression-returns-in_ok-count-in-Replication
put_expression-returns-in_ok-count-in-Replication t c =
    let words = words_of c.args.tokens.now in
    subst (λ (tree : ExpressionTree). Makes c.put_repeated.result c.put_repeated.new.nodes.items (nodes_behind c.args.nodes.now.items (lower c.args.fixed c.args.scope.now tree)))
    (replication_is words c.args.expression.now c.in-Replication.at c.in-Replication.count c.in-Replication.parts
    c.deref-in-Replication.result.now c.deref-in-Replication-2.result.now c.in-Replication.is c.deref-in-Replication.ensures
    c.deref-in-Replication-2.ensures.value)
    (subst (λ (v : Result Vector ElabFault). Makes c.put_repeated.result c.put_repeated.new.nodes.items (nodes_behind c.args.nodes.now.items
    (v >>= λ amount. replicate_by amount (lower_joined c.args.fixed c.args.scope.now (trees_of words c.deref-in-Replication-2.result.now)))))
    (sym c.in_ok-count-in-Replication.ensures) c.put_repeated.ensures)

pub put_parts-loop-one-preserved : goal.put_parts-loop-one-preserved
put_parts-loop-one-preserved t c = record {
  left = omega (arith, c.loop-one.invariant.left);
  same = part_put (words_of c.args.tokens.now) c.args.fixed c.args.scope.now c.args.parts.now c.loop-one.one-index c.one-item.result c.loop-one-test.true c.one-item.is
      (c.loop-one.left - 1) (ap (λ (n : ℕ). n - 1) c.loop-one.invariant.left)
      c.loop-one.nodes.items c.put-in-loop-one.new.nodes.items
      (c.in_ok-put-2.ensures ∙ ap (λ (n : Node). c.loop-one.nodes.items ++ n ∷ []) c.before_part.ensures)
      _ c.loop-one.invariant.same c.put_expression.new.nodes.items c.in_ok-put_expression.ensures;
}

pub put_parts-returns : goal.put_parts-returns
put_parts-returns t c =
    let words = words_of c.args.tokens.now in
    sym (all_parts words c.args.fixed c.args.scope.now c.args.nodes.now.items c.args.parts.now (sym c.is_empty.ensures ∙ c.if-is_empty.false))
    ∙ sym c.loop-one.invariant.same
    ∙ none_behind words c.args.fixed c.args.scope.now c.loop-one.nodes.items c.args.parts.now c.loop-one.one-index c.loop-one-test.false

pub put_expression-returns-in_ok-put_expression-in-Conditional-2 : goal.put_expression-returns-in_ok-put_expression-in-Conditional-2
put_expression-returns-in_ok-put_expression-in-Conditional-2 t c =
    let words = words_of c.args.tokens.now in
    let old : List Node = c.args.nodes.now.items in
    let now : List Node = c.put_expression-in-Conditional-3.new.nodes.items in
    let result = c.put_expression-in-Conditional-3.result in
    let lowered : ExpressionTree → Result Lowered ElabFault = lower c.args.fixed c.args.scope.now in
    let test = tree_of words c.deref-in-Conditional.result.now in
    let one = tree_of words c.deref-in-Conditional-2.result.now in
    let other = tree_of words c.deref-in-Conditional-3.result.now in
    let is : written.conditional test one other ≡ tree_of words c.args.expression.now =
    (λ i. written.conditional (tree_of words (c.deref-in-Conditional.ensures i)) (tree_of words (c.deref-in-Conditional-2.ensures i)) (tree_of words (c.deref-in-Conditional-3.ensures i)))
    ∙ sym (ap (tree_of words) c.in-Conditional.is) in
    subst (λ (tree : ExpressionTree). Makes result now (nodes_behind old (lowered tree))) is
    (subst (λ (answer : Result (List Node) ElabFault). Makes result now answer)
    (three_operands old Conditional conditional (λ x y z. refl) (lowered test) (lowered one) (lowered other)
    c.put_expression-in-Conditional.new.nodes.items c.put_expression-in-Conditional-2.new.nodes.items
    (ap (λ (ns : List Node). nodes_behind ns (lowered test)) (sym c.in_ok-put-in-Conditional.ensures) ∙ c.in_ok-put_expression-in-Conditional.ensures)
    c.in_ok-put_expression-in-Conditional-2.ensures)
    c.put_expression-in-Conditional-3.ensures)

pub put_parts-returns-in_err-put_expression : goal.put_parts-returns-in_err-put_expression
put_parts-returns-in_err-put_expression t c =
    let words = words_of c.args.tokens.now in
    let parts = c.args.parts.now in
    let whole : Result (List Node) ElabFault = nodes_behind c.args.nodes.now.items (lower_parts c.args.fixed c.args.scope.now (trees_of words parts)) in
    let one : Result (List Node) ElabFault = nodes_behind c.put-in-loop-one.new.nodes.items (lower c.args.fixed c.args.scope.now (tree_of words c.one-item.result)) in
    hands_on c.from_residual-in_err-put_expression.result c.in_err-put_expression.field-0.0 c.put_expression.new.nodes.items whole c.from_residual-in_err-put_expression.ensures.1
    (still_refused one whole
    (λ fault put.
    part_refused words c.args.fixed c.args.scope.now parts c.loop-one.one-index c.one-item.result c.loop-one-test.true c.one-item.is
    (c.loop-one.left - 1) (ap (λ (n : ℕ). n - 1) c.loop-one.invariant.left)
    c.loop-one.nodes.items c.put-in-loop-one.new.nodes.items
    (c.in_ok-put-2.ensures ∙ ap (λ (n : Node). c.loop-one.nodes.items ++ n ∷ []) c.before_part.ensures)
    whole
    (c.loop-one.invariant.same ∙ all_parts words c.args.fixed c.args.scope.now c.args.nodes.now.items parts (sym c.is_empty.ensures ∙ c.if-is_empty.false))
    fault put)
    c.in_err-put_expression.field-0.0 c.in_err-put_expression.ensures)
