-- *internal*: The tree that an expression of the program stands for.
use Rattle.std.specs.Prelude.{List, [], ◌∷◌, Box}
use Rattle.vast.specs.Expressions.{ExpressionOf, ExpressionsOf, ExpressionTree, number, name, time, bit, part, parentheses, concatenation, replication, conversion, apply, combine, conditional, ExpressionTrees, none, first}
use Rattle.vast.specs.TokenTexts.{token_text}
use Rattle.vast.specs.declared.token.Token.{Token}
use Rattle.vast.specs.declared.expression.Expression.{Expression, Number, Name, Time, Bit', Part', Parentheses', Concatenation', Replication', Conversion', Unary', Binary', Conditional', Row_of-Expression, end_of-Expression, more_of-Expression}
use Rattle.vwords.specs.Words.{Text}

-- with words that are told so
module _ {W : Type 0} (told : Token → W) where
  abbrev mutual
    pub expression_told : Expression → ExpressionOf W
    expression_told (Number word) = number (told word)
    expression_told (Name word) = name (told word)
    expression_told (Time word) = time (told word)
    expression_told (Bit' word place index) = bit (told word) (expression_told index)
    expression_told (Part' word place left place_too right) = part (told word) (expression_told left) (expression_told right)
    expression_told (Parentheses' place inner) = parentheses (expression_told inner)
    expression_told (Concatenation' at shape row) = concatenation (row_told row)
    expression_told (Replication' at place count shape row) = replication (expression_told count) (row_told row)
    expression_told (Conversion' signed place operand) = conversion signed (expression_told operand)
    expression_told (Unary' operator place operand) = apply operator (expression_told operand)
    expression_told (Binary' operator place left place_too right) = combine operator (expression_told left) (expression_told right)
    expression_told (Conditional' place condition place_too when_true place_last when_false) =
        conditional (expression_told condition) (expression_told when_true) (expression_told when_false)

    pub row_told : {m : _} → Row_of-Expression m → ExpressionsOf W
    row_told end_of-Expression = none
    row_told (more_of-Expression one more) = first (expression_told one) (row_told more)

  -- the parts of a concatenation
  abbrev pub expressions_told : List Expression → ExpressionsOf W
  expressions_told [] = none
  expressions_told (one ∷ more) = first (expression_told one) (expressions_told more)

  -- an expression behind a box
  abbrev pub boxed_told : {A : Type 0} → Box Expression A → ExpressionOf W
  boxed_told expression = expression_told expression.value

-- with words that are told by their letters
module _ (words : List Text) where
  abbrev pub tree_of : Expression → ExpressionTree
  tree_of = expression_told (token_text words)

  abbrev pub row_trees : {m : _} → Row_of-Expression m → ExpressionTrees
  row_trees = row_told (token_text words)

  abbrev pub trees_of : List Expression → ExpressionTrees
  trees_of = expressions_told (token_text words)

  abbrev pub boxed_tree : {A : Type 0} → Box Expression A → ExpressionTree
  boxed_tree expression = tree_of expression.value
