use Rattle.std.proofs.Common.{◌≡◌, ◌++◌, drop, map, List}
use Rattle.vwords.specs.Words.{Text}
use Rattle.vast.specs.NumberedTrees.{declared_tree}
use Rattle.action_origins.specs.Origins.{declared_origins}
use Rattle.action_origins.proofs.units.put_declared.Given as goal

abbrev pub invariant-loop-one : goal.invariant-loop-one
invariant-loop-one l =
    (words : List Text) → l.into.items ++ declared_origins (map (declared_tree words) (drop l.one-index l.list)) ≡ l.initial.into.items ++ declared_origins (map (declared_tree words) l.list)
