-- *internal*: What was read of words: an expression of a rank and of so many levels at most.
use Rattle.std.specs.Prelude.{◌≡◌, ℕ, nat_le, true, List}
use Rattle.vwords.specs.Words.{Text}
use Rattle.vast.specs.Expressions.{ExpressionTree, spell_expression, fits_expression, depth, rank_of}

pub record IsExpression (levels least : ℕ) (tree : ExpressionTree) (words : List Text) : Type 0 where
  pub spelled : spell_expression tree ≡ words
  pub fitting : fits_expression tree ≡ true
  pub within : nat_le (depth tree) levels ≡ true
  pub ranked : nat_le least (rank_of tree) ≡ true
