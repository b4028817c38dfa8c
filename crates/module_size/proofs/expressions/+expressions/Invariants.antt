use Rattle.std.proofs.Common.{◌≡◌, ◌-◌, drop, List}
use Rattle.vwords.specs.Words.{Text}
use Rattle.vast.specs.NumberedTrees.{trees_of}
use Rattle.module_size.specs.Sizes.{expressions_size}
use Rattle.module_size.proofs.expressions.+expressions.Given as goal

abbrev pub invariant-take_expressions-loop-one : goal.invariant-take_expressions-loop-one
invariant-take_expressions-loop-one l =
    (words : List Text) → l.left - expressions_size (trees_of words (drop l.one-index l.parts)) ≡ l.initial.left - expressions_size (trees_of words l.parts)
