use Rattle.std.proofs.Common.{◌≡◌, ◌++◌, drop, map, List}
use Rattle.vwords.specs.Words.{Text}
use Rattle.vast.specs.NumberedWords.{word_of}
use Rattle.vast.specs.NumberedTrees.{tree_of}
use Rattle.vast.specs.NumberedModules.{by_order}
use Rattle.action_origins.specs.Origins.{joined_origins}
use Rattle.action_origins.proofs.units.put_for_each.Given as goal

abbrev pub invariant-loop-value : goal.invariant-loop-value
invariant-loop-value l =
    (words : List Text) → l.into.items ++ joined_origins (word_of words l.name) (by_order (map (tree_of words) (drop l._value-index l.values)))
    ≡ l.initial.into.items ++ joined_origins (word_of words l.name) (by_order (map (tree_of words) l.values))
