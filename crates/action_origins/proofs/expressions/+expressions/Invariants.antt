use Rattle.std.proofs.Common.{◌≡◌, ◌-◌, drop, List}
use Rattle.vwords.specs.Words.{Text}
use Rattle.vast.specs.NumberedTrees.{trees_of}
use Rattle.action_origins.specs.Lengths.{each_part}
use Rattle.action_origins.proofs.expressions.+expressions.Given as goal

abbrev pub invariant-past_each-loop-one : goal.invariant-past_each-loop-one
invariant-past_each-loop-one l =
    (words : List Text) → l.left - each_part (trees_of words (drop l.one-index l.parts)) ≡ l.initial.left - each_part (trees_of words l.parts)
