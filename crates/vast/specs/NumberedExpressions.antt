-- *product rule*: Expressions whose words keep their numbers.
pub use Rattle.vast.specs.Expressions.{number, name, time, bit, part, parentheses, concatenation, replication, conversion, apply, combine, conditional, none, first}
use Rattle.vast.specs.Expressions.{ExpressionOf, ExpressionsOf}
use Rattle.vast.specs.NumberedWords.{Word}

abbrev pub ExpressionTree : Type 0
ExpressionTree = ExpressionOf Word

abbrev pub ExpressionTrees : Type 0
ExpressionTrees = ExpressionsOf Word
