-- Expressions are told by their words and by what they are without them.
use Rattle.std.proofs.Common.{◌≡◌}
use Rattle.vast.specs.Expressions.{ExpressionOf, ExpressionsOf, number, name, time, bit, part, parentheses, concatenation, replication, conversion, apply, combine, conditional, none, first}
use Rattle.vast.specs.TreeWords.{expression_with, expressions_with, expression_words, expressions_words}
use Rattle.vast.proofs.Refilling.{Filling, pure, word, both, made_to, two, three, Fills, pure_fills, word_fills, both_fills, made_fills, filled_once}

-- an expression of this form, with the words of a list
module _ {V W : Type 0} (spare : V) where
  abbrev mutual
    pub fill_expression : ExpressionOf W → Filling V (ExpressionOf V)
    fill_expression (number digits) = made_to number (word spare)
    fill_expression (name letters) = made_to name (word spare)
    fill_expression (time letters) = made_to time (word spare)
    fill_expression (bit letters index) = made_to (two bit) (both (word spare) (fill_expression index))
    fill_expression (part letters left right) = made_to (three part) (both (word spare) (both (fill_expression left) (fill_expression right)))
    fill_expression (parentheses inner) = made_to parentheses (fill_expression inner)
    fill_expression (concatenation parts) = made_to concatenation (fill_expressions parts)
    fill_expression (replication count parts) = made_to (two replication) (both (fill_expression count) (fill_expressions parts))
    fill_expression (conversion signed operand) = made_to (conversion signed) (fill_expression operand)
    fill_expression (apply operator operand) = made_to (apply operator) (fill_expression operand)
    fill_expression (combine operator left right) = made_to (two (combine operator)) (both (fill_expression left) (fill_expression right))
    fill_expression (conditional condition when_true when_false) =
        made_to (three conditional) (both (fill_expression condition) (both (fill_expression when_true) (fill_expression when_false)))

    pub fill_expressions : ExpressionsOf W → Filling V (ExpressionsOf V)
    fill_expressions none = pure none
    fill_expressions (first one more) = made_to (two first) (both (fill_expression one) (fill_expressions more))

-- with its own words it is filled to itself
module _ {V W : Type 0} (f : V → W) (spare : V) where
  mutual
    pub expression_fills : (m : ExpressionOf V) → Fills (fill_expression spare (expression_with f m)) (expression_words m) m
    expression_fills (number digits) = made_fills number (word_fills spare digits)
    expression_fills (name letters) = made_fills name (word_fills spare letters)
    expression_fills (time letters) = made_fills time (word_fills spare letters)
    expression_fills (bit letters index) = made_fills (two bit) (both_fills (word_fills spare letters) (expression_fills index))
    expression_fills (part letters left right) =
        made_fills (three part) (both_fills (word_fills spare letters) (both_fills (expression_fills left) (expression_fills right)))
    expression_fills (parentheses inner) = made_fills parentheses (expression_fills inner)
    expression_fills (concatenation parts) = made_fills concatenation (expressions_fills parts)
    expression_fills (replication count parts) = made_fills (two replication) (both_fills (expression_fills count) (expressions_fills parts))
    expression_fills (conversion signed operand) = made_fills (conversion signed) (expression_fills operand)
    expression_fills (apply operator operand) = made_fills (apply operator) (expression_fills operand)
    expression_fills (combine operator left right) = made_fills (two (combine operator)) (both_fills (expression_fills left) (expression_fills right))
    expression_fills (conditional condition when_true when_false) =
        made_fills (three conditional) (both_fills (expression_fills condition) (both_fills (expression_fills when_true)
        (expression_fills when_false)))

    pub expressions_fills : (m : ExpressionsOf V) → Fills (fill_expressions spare (expressions_with f m)) (expressions_words m) m
    expressions_fills none = pure_fills none
    expressions_fills (first one more) = made_fills (two first) (both_fills (expression_fills one) (expressions_fills more))

  -- told by its words and by what it is without them
  pub expression_once : (m n : ExpressionOf V) → expression_with f m ≡ expression_with f n → expression_words m ≡ expression_words n → m ≡ n
  expression_once m n same_form same_words =
      filled_once (fill_expression spare) (expression_with f) expression_words expression_fills m n same_form same_words
