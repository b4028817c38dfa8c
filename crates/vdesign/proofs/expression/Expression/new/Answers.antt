use Rattle.std.proofs.Common.{◌≡◌, List, sym, ap, ◌∙◌}
use Rattle.vdesign.specs.Expressions.{ExpressionTree}
use Rattle.vdesign.specs.declared.expression.Node.{Node}
use Rattle.vdesign.specs.Nodes.{nodes_of, tree_by, tree_by_nodes}
use Rattle.vdesign.proofs.expression.Expression.new.Goals as goal

grows : (tree : ExpressionTree) (nodes : List Node) → nodes ≡ nodes_of tree → tree_by nodes ≡ tree
grows tree nodes is = ap tree_by is ∙ tree_by_nodes tree

pub invariant_of-result : goal.invariant_of-result
invariant_of-result c = ap nodes_of (grows c.requires.0 c.args.nodes.items c.requires.1) ∙ sym c.requires.1

pub returns : goal.returns
returns c = λ tree is. grows tree c.args.nodes.items is
