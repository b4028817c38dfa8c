-- *product rule*: The word by which a fault tells where something stands: its first name, number, string or `$time`, in the order of the
-- text.
use Rattle.std.specs.Prelude.{List, [], ◌∷◌, Option, None, Some}
use Rattle.std.specs.List.{flat_map}
use Rattle.vast.specs.NumberedWords.{Word}
use Rattle.vast.specs.NumberedExpressions.{ExpressionTree, ExpressionTrees}
use Rattle.vast.specs.NumberedStatements.{TargetTree, TargetTrees, DelayTree, ArgumentTree}
use Rattle.vast.specs.TreeWords.{expression_words, expressions_words, target_words, targets_words, delay_words, argument_words}

abbrev pub head : {A : Type 0} → List A → Option A
head [] = None
head (x ∷ xs) = Some x

abbrev pub first_in : ExpressionTree → Option Word
first_in tree = head (expression_words tree)

-- of the parts of a concatenation
abbrev pub first_among : ExpressionTrees → Option Word
first_among parts = head (expressions_words parts)

abbrev pub first_target : TargetTree → Option Word
first_target target = head (target_words target)

abbrev pub first_targets : TargetTrees → Option Word
first_targets targets = head (targets_words targets)

abbrev pub first_delay : DelayTree → Option Word
first_delay amount = head (delay_words amount)

-- of an argument of a print task, and of its arguments
abbrev pub first_of : ArgumentTree → Option Word
first_of argument = head (argument_words argument)

abbrev pub first_argument : List ArgumentTree → Option Word
first_argument arguments = head (flat_map argument_words arguments)
