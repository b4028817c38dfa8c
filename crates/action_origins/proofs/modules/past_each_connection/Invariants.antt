use Rattle.std.proofs.Common.{◌≡◌, ◌-◌, drop, map, List}
use Rattle.vwords.specs.Words.{Text}
use Rattle.vast.specs.NumberedTrees.{connection_tree}
use Rattle.action_origins.specs.Lengths.{length_of_each, connection_length}
use Rattle.action_origins.proofs.modules.past_each_connection.Given as goal

abbrev pub invariant-loop-one : goal.invariant-loop-one
invariant-loop-one l =
    (words : List Text) → l.left - length_of_each connection_length (map (connection_tree words) (drop l.one-index l.list)) ≡ l.initial.left - length_of_each connection_length (map (connection_tree words) l.list)
