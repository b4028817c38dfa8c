use Rattle.std.proofs.Common.{◌≡◌, ◌++◌, drop, map, List}
use Rattle.vwords.specs.Words.{Text}
use Rattle.vast.specs.NumberedWords.{word_of}
use Rattle.vast.specs.NumberedTrees.{connection_tree}
use Rattle.vast.specs.NumberedModules.{by_name}
use Rattle.action_origins.specs.Origins.{joined_origins}
use Rattle.action_origins.proofs.units.put_for_valued.Given as goal

abbrev pub invariant-loop-one : goal.invariant-loop-one
invariant-loop-one l =
    (words : List Text) → l.into.items ++ joined_origins (word_of words l.name) (by_name (map (connection_tree words) (drop l.one-index l.list)))
    ≡ l.initial.into.items ++ joined_origins (word_of words l.name) (by_name (map (connection_tree words) l.list))
