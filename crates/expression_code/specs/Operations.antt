-- *internal*: Code as the list of its operations, each before its operands, and the way back: from the list comes the tree. And what is
-- read off operations that stand in a row: of the code that they begin with, and what comes after it.
use Rattle.std.proofs.Common.{◌≡◌, List, [], ◌∷◌, ◌++◌, refl, sym, ap, ◌∙◌, append_assoc, append-nil}
use Rattle.expression_code.specs.Code.{CodeTree, leaf, unary, binary, choose}
use Rattle.expression_code.specs.declared.operation.Operation.{Operation}
use Rattle.expression_code.specs.declared.operation.Operation.TheVariants.{Leaf, Unary, Binary, Choose}
use Rattle.expression_code.specs.declared.operation.Leaf.TheVariants.{Time}

abbrev pub operations_of : CodeTree → List Operation
operations_of (leaf what) = Leaf what ∷ []
operations_of (unary step o) = Unary step ∷ operations_of o
operations_of (binary step left right) = Binary step ∷ (operations_of left ++ operations_of right)
operations_of (choose condition when_true when_false) =
    Choose ∷ (operations_of condition ++ (operations_of when_true ++ operations_of when_false))

-- ---- the way back

-- an operation takes its operands off the trees that stand behind it
abbrev pub with_operation : Operation → List CodeTree → List CodeTree
with_operation (Leaf what) trees = leaf what ∷ trees
with_operation (Unary step) (o ∷ trees) = unary step o ∷ trees
with_operation (Binary step) (left ∷ right ∷ trees) = binary step left right ∷ trees
with_operation Choose (condition ∷ when_true ∷ when_false ∷ trees) = choose condition when_true when_false ∷ trees
with_operation _ trees = trees

abbrev pub trees_of : List Operation → List CodeTree
trees_of [] = []
trees_of (operation ∷ more) = with_operation operation (trees_of more)

abbrev pub first_tree : List CodeTree → CodeTree
first_tree [] = leaf Time
first_tree (tree ∷ trees) = tree

abbrev pub tree_by : List Operation → CodeTree
tree_by operations = first_tree (trees_of operations)

pub trees_of_operations : (tree : CodeTree) (more : List Operation) → trees_of (operations_of tree ++ more) ≡ tree ∷ trees_of more
trees_of_operations (leaf what) more = refl
trees_of_operations (unary step o) more = ap (with_operation (Unary step)) (trees_of_operations o more)
trees_of_operations (binary step left right) more =
    ap (λ operations. with_operation (Binary step) (trees_of operations)) (append_assoc (operations_of left) (operations_of right) more)
    ∙ ap (with_operation (Binary step))
    (trees_of_operations left (operations_of right ++ more) ∙ ap (λ trees. left ∷ trees) (trees_of_operations right more))
trees_of_operations (choose condition when_true when_false) more =
    ap (λ operations. with_operation Choose (trees_of operations))
    (append_assoc (operations_of condition) (operations_of when_true ++ operations_of when_false) more
    ∙ ap (λ operations. operations_of condition ++ operations) (append_assoc (operations_of when_true) (operations_of when_false) more))
    ∙ ap (with_operation Choose)
    (trees_of_operations condition (operations_of when_true ++ (operations_of when_false ++ more))
    ∙ ap (λ trees. condition ∷ trees) (trees_of_operations when_true (operations_of when_false ++ more)
    ∙ ap (λ trees. when_true ∷ trees) (trees_of_operations when_false more)))

pub tree_by_operations : (tree : CodeTree) → tree_by (operations_of tree) ≡ tree
tree_by_operations tree = ap tree_by (sym (append-nil (operations_of tree))) ∙ ap first_tree (trees_of_operations tree [])

-- a list of operations is a tree's: none is left without its operands, and none is left over
abbrev pub IsWhole : List Operation → Type 0
IsWhole operations = operations_of (tree_by operations) ≡ operations

-- ---- operations in a row

-- this is what the function tells of the code that they begin with
abbrev pub IsOfFirst : {A : Type 0} → List Operation → (CodeTree → A) → A → Type 0
IsOfFirst operations of a = (tree : CodeTree) (more : List Operation) → operations ≡ operations_of tree ++ more → a ≡ of tree

-- and these are the operations behind it
abbrev pub AreBehindFirst : List Operation → List Operation → Type 0
AreBehindFirst operations behind = (tree : CodeTree) (more : List Operation) → operations ≡ operations_of tree ++ more → behind ≡ more
