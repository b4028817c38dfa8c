use Rattle.std.proofs.Common.{◌++◌, drop, map}
use Rattle.vast.specs.NumberedTrees.{module_tree}
use Rattle.vexpr_parse.specs.Texts.{words_of}
use Rattle.vmodules.specs.Hierarchy.{instantiated_names}
use Rattle.vmodules.specs.Inner.{HoldSame}
use Rattle.vmodules.proofs.hierarchy.instantiated_names.Given as goal

abbrev pub invariant-loop-unit : goal.invariant-loop-unit
invariant-loop-unit l = HoldSame (l.names ++ instantiated_names (map (module_tree (words_of l.tokens)) (drop l.unit-index l.list)))
    (instantiated_names (map (module_tree (words_of l.tokens)) l.list))
