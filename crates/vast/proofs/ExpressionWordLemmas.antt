-- The words of expressions of the program, as their trees tell them.
use Rattle.std.proofs.Common.{◌≡◌, List, [], ◌∷◌, map, Box, refl}
use Rattle.std.specs.List.{flat_map}
use Rattle.vast.specs.Expressions.{bit, part, parentheses, concatenation, replication, conversion, apply, combine, conditional, first}
use Rattle.vast.specs.ExpressionTrees.{expression_told, row_told, expressions_told, boxed_told}
use Rattle.vast.specs.Leaves.{leaves_of, row_leaves, boxed_leaves}
use Rattle.vast.specs.TreeWords.{expression_with, expressions_with, expression_words, expressions_words}
use Rattle.vast.specs.declared.token.Token.{Token}
use Rattle.vast.specs.declared.expression.Expression.{Expression, Number, Name, Time, Bit', Part', Parentheses', Concatenation', Replication', Conversion', Unary', Binary', Conditional', Row_of-Expression, end_of-Expression, more_of-Expression}
use Rattle.vast.proofs.MappedLists.{joined_words}

-- ---- told and then changed, it is told changed

module _ {V W : Type 0} (f : V → W) (told : Token → V) where
  mutual
    pub expression_with_told : (e : Expression) → expression_with f (expression_told told e) ≡ expression_told (λ t. f (told t)) e
    expression_with_told (Number word) = refl
    expression_with_told (Name word) = refl
    expression_with_told (Time word) = refl
    expression_with_told (Bit' word place index) = λ i. bit (f (told word)) (expression_with_told index i)
    expression_with_told (Part' word place left place_too right) =
        λ i. part (f (told word)) (expression_with_told left i) (expression_with_told right i)
    expression_with_told (Parentheses' place inner) = λ i. parentheses (expression_with_told inner i)
    expression_with_told (Concatenation' at shape row) = λ i. concatenation (row_with_told _ row i)
    expression_with_told (Replication' at place count shape row) = λ i. replication (expression_with_told count i) (row_with_told _ row i)
    expression_with_told (Conversion' signed place operand) = λ i. conversion signed (expression_with_told operand i)
    expression_with_told (Unary' operator place operand) = λ i. apply operator (expression_with_told operand i)
    expression_with_told (Binary' operator place left place_too right) =
        λ i. combine operator (expression_with_told left i) (expression_with_told right i)
    expression_with_told (Conditional' place condition place_too when_true place_last when_false) =
        λ i. conditional (expression_with_told condition i) (expression_with_told when_true i) (expression_with_told when_false i)

    -- the parts of a concatenation
    pub row_with_told : (m : _) (row : Row_of-Expression m) → expressions_with f (row_told told row) ≡ row_told (λ t. f (told t)) row
    row_with_told m end_of-Expression = refl
    row_with_told m (more_of-Expression one more) = λ i. first (expression_with_told one i) (row_with_told _ more i)

  -- a list of expressions
  pub expressions_with_told : (list : List Expression) →
      expressions_with f (expressions_told told list) ≡ expressions_told (λ t. f (told t)) list
  expressions_with_told [] = refl
  expressions_with_told (one ∷ more) = λ i. first (expression_with_told one i) (expressions_with_told more i)

  -- behind a box
  pub boxed_with_told : {A : Type 0} (e : Box Expression A) → expression_with f (boxed_told told e) ≡ boxed_told (λ t. f (told t)) e
  boxed_with_told e = expression_with_told e.value

-- ---- its words are what its tokens tell

module _ {W : Type 0} (told : Token → W) where
  mutual
    pub expression_words_told : (e : Expression) → expression_words (expression_told told e) ≡ map told (leaves_of e)
    expression_words_told (Number word) = refl
    expression_words_told (Name word) = refl
    expression_words_told (Time word) = refl
    expression_words_told (Bit' word place index) = λ i. told word ∷ expression_words_told index i
    expression_words_told (Part' word place left place_too right) =
        λ i. told word ∷ joined_words told _ _ (expression_words_told left) (expression_words_told right) i
    expression_words_told (Parentheses' place inner) = expression_words_told inner
    expression_words_told (Concatenation' at shape row) = row_words_told _ row
    expression_words_told (Replication' at place count shape row) = joined_words told _ _ (expression_words_told count) (row_words_told _ row)
    expression_words_told (Conversion' signed place operand) = expression_words_told operand
    expression_words_told (Unary' operator place operand) = expression_words_told operand
    expression_words_told (Binary' operator place left place_too right) =
        joined_words told _ _ (expression_words_told left) (expression_words_told right)
    expression_words_told (Conditional' place condition place_too when_true place_last when_false) =
        joined_words told _ _ (expression_words_told condition) (joined_words told _ _ (expression_words_told when_true) (expression_words_told when_false))

    -- the parts of a concatenation
    pub row_words_told : (m : _) (row : Row_of-Expression m) → expressions_words (row_told told row) ≡ map told (row_leaves row)
    row_words_told m end_of-Expression = refl
    row_words_told m (more_of-Expression one more) = joined_words told _ _ (expression_words_told one) (row_words_told _ more)

  -- behind a box
  pub boxed_words_told : {A : Type 0} (e : Box Expression A) → expression_words (boxed_told told e) ≡ map told (boxed_leaves e)
  boxed_words_told e = expression_words_told e.value

  -- a list of expressions
  pub expressions_words_told : (list : List Expression) → expressions_words (expressions_told told list) ≡ map told (flat_map leaves_of list)
  expressions_words_told [] = refl
  expressions_words_told (one ∷ more) = joined_words told _ _ (expression_words_told one) (expressions_words_told more)
