use Rattle.std.proofs.Common.{◌≡◌, drop, map}
use Rattle.vast.specs.NumberedTrees.{declared_tree}
use Rattle.vexpr_parse.specs.Texts.{words_of}
use Rattle.vmodules.specs.Ports.{declares}
use Rattle.vmodules.proofs.ports.declares.Given as goal

abbrev pub invariant-loop-one : goal.invariant-loop-one
invariant-loop-one l =
    declares (map (declared_tree (words_of l.tokens)) (drop l.one-index l.list)) l.name ≡ declares (map (declared_tree (words_of l.tokens)) l.list) l.name
