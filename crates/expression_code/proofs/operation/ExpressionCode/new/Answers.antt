use Rattle.std.proofs.Common.{◌≡◌, List, sym, ap, ◌∙◌}
use Rattle.expression_code.specs.Code.{CodeTree}
use Rattle.expression_code.specs.declared.operation.Operation.{Operation}
use Rattle.expression_code.specs.Operations.{operations_of, tree_by, tree_by_operations}
use Rattle.expression_code.proofs.operation.ExpressionCode.new.Goals as goal

grows : (tree : CodeTree) (operations : List Operation) → operations ≡ operations_of tree → tree_by operations ≡ tree
grows tree operations is = ap tree_by is ∙ tree_by_operations tree

pub invariant_of-result : goal.invariant_of-result
invariant_of-result c = ap operations_of (grows c.requires.0 c.args.operations.items c.requires.1) ∙ sym c.requires.1

pub returns : goal.returns
returns c = λ tree is. grows tree c.args.operations.items is
