-- The nodes of an expression, put one after another.
use Rattle.std.proofs.Common.{◌≡◌, List, [], ◌∷◌, ◌++◌, Result, Ok, Err, refl, sym, ap, ◌∙◌, append_assoc}
use Rattle.vdesign.specs.Expressions.{ExpressionTree}
use Rattle.vdesign.specs.Nodes.{nodes_of}
use Rattle.vdesign.specs.declared.expression.Node.{Node}
use Rattle.velab_expr.specs.Answers.{◌>>=◌, value_or}
use Rattle.velab_expr.specs.InnerParts.{nodes_behind}
use Rattle.velab_expr.specs.declared.fault.ElabFault.{ElabFault}

module _ (done : List Node) (node : Node) where
  -- a node and its three operands, of which two were put
  pub three_operands : (f : ExpressionTree → ExpressionTree → ExpressionTree → ExpressionTree) →
      ((x y z : ExpressionTree) → nodes_of (f x y z) ≡ node ∷ (nodes_of x ++ (nodes_of y ++ nodes_of z))) →
      (a b c : Result ExpressionTree ElabFault) (one two : List Node) → nodes_behind (done ++ node ∷ []) a ≡ Ok one → nodes_behind one b ≡ Ok two →
      nodes_behind two c ≡ nodes_behind done (a >>= λ x. b >>= λ y. c >>= λ z. Ok (f x y z))
  three_operands f nodes (Ok x) (Ok y) (Ok z) one two first second =
      let same : (done ++ node ∷ []) ++ nodes_of x ≡ one = ap (value_or one) first in
      let also : one ++ nodes_of y ≡ two = ap (value_or two) second in
      ap Ok (ap (λ ns. ns ++ nodes_of z) (sym also ∙ ap (λ ns. ns ++ nodes_of y) (sym same))
      ∙ append_assoc ((done ++ node ∷ []) ++ nodes_of x) (nodes_of y) (nodes_of z)
      ∙ append_assoc (done ++ node ∷ []) (nodes_of x) (nodes_of y ++ nodes_of z)
      ∙ append_assoc done (node ∷ []) (nodes_of x ++ (nodes_of y ++ nodes_of z))
      ∙ ap (λ ns. done ++ ns) (sym (nodes x y z)))
  three_operands f nodes (Ok x) (Ok y) (Err fault) one two first second = refl
  three_operands f nodes (Ok x) (Err fault) c one two first second = absurd cc
  three_operands f nodes (Err fault) b c one two first second = absurd cc
