use Rattle.std.proofs.Common.{◌≡◌, ◌++◌, not, drop, map, filter}
use Rattle.vast.specs.NumberedTrees.{module_tree}
use Rattle.vexpr_parse.specs.Texts.{words_of}
use Rattle.vmodules.specs.Names.{is_declared}
use Rattle.vmodules.specs.Hierarchy.{only_of}
use Rattle.vmodules.specs.Inner.{unit_tree, all_of}
use Rattle.vmodules.proofs.hierarchy.only_outside.Given as goal

abbrev pub invariant-loop-unit : goal.invariant-loop-unit
invariant-loop-unit l =
    only_of (all_of (unit_tree (words_of l.tokens) l.found) ++ filter (λ m. not (is_declared l.names m.name.letters)) (map (module_tree (words_of l.tokens)) (drop l.unit-index l.list)))
    ≡ only_of (filter (λ m. not (is_declared l.names m.name.letters)) (map (module_tree (words_of l.tokens)) l.list))
