use Rattle.std.proofs.Common.{◌≡◌, drop, map}
use Rattle.vast.specs.NumberedTrees.{declared_tree, type_tree}
use Rattle.vexpr_parse.specs.Texts.{words_of}
use Rattle.vmodules.specs.Ports.{second_named}
use Rattle.vmodules.proofs.ports.second_by_name.Given as goal

abbrev pub invariant-loop-one : goal.invariant-loop-one
invariant-loop-one l =
    second_named l.net (type_tree (words_of l.tokens) l.kind) (map (declared_tree (words_of l.tokens)) (drop l.one-index l.list)) l.name
    ≡ second_named l.net (type_tree (words_of l.tokens) l.kind) (map (declared_tree (words_of l.tokens)) l.list) l.name
