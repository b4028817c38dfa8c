use Rattle.std.proofs.Common.{◌≡◌, ◌-◌, drop, map, List}
use Rattle.vwords.specs.Words.{Text}
use Rattle.vast.specs.NumberedTrees.{path_tree}
use Rattle.action_origins.specs.Lengths.{paths_length}
use Rattle.action_origins.proofs.parts.past_paths.Given as goal

abbrev pub invariant-loop-one : goal.invariant-loop-one
invariant-loop-one l =
    (words : List Text) → l.left - paths_length (map (path_tree words) (drop l.one-index l.paths)) ≡ l.initial.left - paths_length (map (path_tree words) l.paths)
