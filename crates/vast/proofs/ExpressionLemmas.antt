-- The trees of concatenations and replications, and that every expression has a depth.
use Rattle.std.proofs.Common.{◌≡◌, ℕ, ◌<◌, List, Vec, Global, Box, arith}
use Rattle.vast.specs.Expressions.{ExpressionTree, number, name, time, bit, part, parentheses, concatenation, replication, conversion, apply, combine, conditional, depth}
use Rattle.vast.specs.ExpressionTrees.{tree_of, trees_of}
use Rattle.vast.specs.TokenTexts.{token_text}
use Rattle.vast.specs.declared.expression.Expression.{Expression, Concatenation, Replication}
use Rattle.vwords.specs.Words.{Text}
use Rattle.vast.proofs.ToldTrees.{told_concatenation, told_replication}

pub depth_positive : (tree : ExpressionTree) → 0 < depth tree
depth_positive (number digits) = omega arith
depth_positive (name letters) = omega arith
depth_positive (time word) = omega arith
depth_positive (bit letters index) = omega arith
depth_positive (part letters left right) = omega arith
depth_positive (parentheses inner) = omega arith
depth_positive (concatenation parts) = omega arith
depth_positive (replication count parts) = omega arith
depth_positive (conversion signed operand) = omega arith
depth_positive (apply operator operand) = omega arith
depth_positive (combine operator left right) = omega arith
depth_positive (conditional condition when_true when_false) = omega arith

module _ (words : List Text) where
  pub tree_of_concatenation : (at : ℕ) (parts : Vec Expression Global) → tree_of words (Concatenation at parts) ≡ concatenation (trees_of words parts.items)
  tree_of_concatenation = told_concatenation (token_text words)

  -- with the count as it stands in the tree
  pub tree_of_replication : (at : ℕ) (count : Box Expression Global) (parts : Vec Expression Global) →
      tree_of words (Replication at count parts) ≡ replication (tree_of words count.value) (trees_of words parts.items)
  tree_of_replication = told_replication (token_text words)
