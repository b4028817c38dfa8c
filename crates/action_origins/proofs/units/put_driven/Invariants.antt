use Rattle.std.proofs.Common.{◌≡◌, ◌++◌, drop, map}
use Rattle.vast.specs.NumberedTrees.{net_assignment}
use Rattle.vexpr_parse.specs.Texts.{words_of}
use Rattle.action_origins.specs.Origins.{driven_origins}
use Rattle.action_origins.proofs.units.put_driven.Given as goal

abbrev pub invariant-loop-one : goal.invariant-loop-one
invariant-loop-one l =
    l.into.items ++ driven_origins (words_of l.tokens) l.left (map (net_assignment (words_of l.tokens)) (drop l.one-index l.list))
    ≡ l.initial.into.items ++ driven_origins (words_of l.tokens) l.initial.left (map (net_assignment (words_of l.tokens)) l.list)
