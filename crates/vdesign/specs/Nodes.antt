-- *internal*: An expression as the list of its nodes, each before its operands, and the way back: from the list comes the tree.
use Rattle.std.proofs.Common.{◌≡◌, List, [], ◌∷◌, ◌++◌, refl, sym, ap, ◌∙◌, append_assoc, append-nil}
use Rattle.vdesign.specs.Expressions.{ExpressionTree, constant, variable, bit, bit_of, part, time, conversion, apply, combine, conditional, joined, repeated}
use Rattle.vdesign.specs.declared.expression.Node.{Node}
use Rattle.vdesign.specs.declared.expression.Node.TheVariants.{Constant, Variable, Bit, BitOf, Part, Time, Conversion, Unary, Binary, Conditional, Joined, Repeated}

abbrev pub nodes_of : ExpressionTree → List Node
nodes_of (constant c) = Constant c ∷ []
nodes_of (variable number) = Variable number ∷ []
nodes_of (bit number index) = Bit number ∷ nodes_of index
nodes_of (bit_of value bounds index) = BitOf value bounds ∷ nodes_of index
nodes_of (part number bounds) = Part number bounds ∷ []
nodes_of time = Time ∷ []
nodes_of (conversion signed operand) = Conversion signed ∷ nodes_of operand
nodes_of (apply operator operand) = Unary operator ∷ nodes_of operand
nodes_of (combine operator left right) = Binary operator ∷ (nodes_of left ++ nodes_of right)
nodes_of (conditional condition when_true when_false) =
    Conditional ∷ (nodes_of condition ++ (nodes_of when_true ++ nodes_of when_false))
nodes_of (joined left right) = Joined ∷ (nodes_of left ++ nodes_of right)
nodes_of (repeated count operand) = Repeated count ∷ nodes_of operand

-- ---- the way back: nothing from here on has to be believed

-- a node takes its operands off the trees that stand behind it
abbrev pub with_node : Node → List ExpressionTree → List ExpressionTree
with_node (Constant c) trees = constant c ∷ trees
with_node (Variable number) trees = variable number ∷ trees
with_node (Bit number) (index ∷ trees) = bit number index ∷ trees
with_node (BitOf value bounds) (index ∷ trees) = bit_of value bounds index ∷ trees
with_node (Part number bounds) trees = part number bounds ∷ trees
with_node Time trees = time ∷ trees
with_node (Conversion signed) (operand ∷ trees) = conversion signed operand ∷ trees
with_node (Unary operator) (operand ∷ trees) = apply operator operand ∷ trees
with_node (Binary operator) (left ∷ right ∷ trees) = combine operator left right ∷ trees
with_node Conditional (condition ∷ when_true ∷ when_false ∷ trees) = conditional condition when_true when_false ∷ trees
with_node Joined (left ∷ right ∷ trees) = joined left right ∷ trees
with_node (Repeated count) (operand ∷ trees) = repeated count operand ∷ trees
with_node _ trees = trees

abbrev pub trees_of : List Node → List ExpressionTree
trees_of [] = []
trees_of (node ∷ more) = with_node node (trees_of more)

abbrev pub first_tree : List ExpressionTree → ExpressionTree
first_tree [] = time
first_tree (tree ∷ trees) = tree

abbrev pub tree_by : List Node → ExpressionTree
tree_by nodes = first_tree (trees_of nodes)

pub trees_of_nodes : (tree : ExpressionTree) (more : List Node) → trees_of (nodes_of tree ++ more) ≡ tree ∷ trees_of more
trees_of_nodes (constant c) more = refl
trees_of_nodes (variable number) more = refl
trees_of_nodes (bit number index) more = ap (with_node (Bit number)) (trees_of_nodes index more)
trees_of_nodes (bit_of value bounds index) more = ap (with_node (BitOf value bounds)) (trees_of_nodes index more)
trees_of_nodes (part number bounds) more = refl
trees_of_nodes time more = refl
trees_of_nodes (conversion signed operand) more = ap (with_node (Conversion signed)) (trees_of_nodes operand more)
trees_of_nodes (apply operator operand) more = ap (with_node (Unary operator)) (trees_of_nodes operand more)
trees_of_nodes (combine operator left right) more =
    ap (λ nodes. with_node (Binary operator) (trees_of nodes)) (append_assoc (nodes_of left) (nodes_of right) more)
    ∙ ap (with_node (Binary operator)) (trees_of_nodes left (nodes_of right ++ more) ∙ ap (λ trees. left ∷ trees) (trees_of_nodes right more))
trees_of_nodes (conditional condition when_true when_false) more =
    ap (λ nodes. with_node Conditional (trees_of nodes))
    (append_assoc (nodes_of condition) (nodes_of when_true ++ nodes_of when_false) more
    ∙ ap (λ nodes. nodes_of condition ++ nodes) (append_assoc (nodes_of when_true) (nodes_of when_false) more))
    ∙ ap (with_node Conditional)
    (trees_of_nodes condition (nodes_of when_true ++ (nodes_of when_false ++ more))
    ∙ ap (λ trees. condition ∷ trees) (trees_of_nodes when_true (nodes_of when_false ++ more)
    ∙ ap (λ trees. when_true ∷ trees) (trees_of_nodes when_false more)))
trees_of_nodes (joined left right) more =
    ap (λ nodes. with_node Joined (trees_of nodes)) (append_assoc (nodes_of left) (nodes_of right) more)
    ∙ ap (with_node Joined) (trees_of_nodes left (nodes_of right ++ more) ∙ ap (λ trees. left ∷ trees) (trees_of_nodes right more))
trees_of_nodes (repeated count operand) more = ap (with_node (Repeated count)) (trees_of_nodes operand more)

pub tree_by_nodes : (tree : ExpressionTree) → tree_by (nodes_of tree) ≡ tree
tree_by_nodes tree = ap tree_by (sym (append-nil (nodes_of tree))) ∙ ap first_tree (trees_of_nodes tree [])

-- a list of nodes is a tree's: no node is left without its operands, and none is left over
abbrev pub IsWhole : List Node → Type 0
IsWhole nodes = nodes_of (tree_by nodes) ≡ nodes
