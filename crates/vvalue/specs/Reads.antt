-- *internal*: What is read off nodes that stand in a row: of the expression that they begin with, and what comes after it. Nothing is
-- said where they begin with none.
use Rattle.std.specs.Prelude.{◌≡◌, List, ◌++◌}
use Rattle.vdesign.specs.declared.expression.Node.{Node}
use Rattle.vdesign.specs.Expressions.{ExpressionTree}
use Rattle.vdesign.specs.Nodes.{nodes_of}

-- this is what the function tells of the expression
abbrev pub IsOfFirst : {A : Type 0} → List Node → (ExpressionTree → A) → A → Type 0
IsOfFirst nodes of a = (tree : ExpressionTree) (more : List Node) → nodes ≡ nodes_of tree ++ more → a ≡ of tree

-- and these are the nodes behind it
abbrev pub AreBehindFirst : List Node → List Node → Type 0
AreBehindFirst nodes behind = (tree : ExpressionTree) (more : List Node) → nodes ≡ nodes_of tree ++ more → behind ≡ more
