use Rattle.std.proofs.Common.{◌≡◌, not, drop, map, filter}
use Rattle.vast.specs.NumberedTrees.{module_tree}
use Rattle.vexpr_parse.specs.Texts.{words_of}
use Rattle.vmodules.specs.Names.{is_declared}
use Rattle.vmodules.specs.Hierarchy.{second_of}
use Rattle.vmodules.specs.Inner.{second_behind}
use Rattle.vmodules.proofs.hierarchy.second_outside.Given as goal

abbrev pub invariant-loop-unit : goal.invariant-loop-unit
invariant-loop-unit l =
    second_behind l.has_one (filter (λ m. not (is_declared l.names m.name.letters)) (map (module_tree (words_of l.tokens)) (drop l.unit-index l.list)))
    ≡ second_of (filter (λ m. not (is_declared l.names m.name.letters)) (map (module_tree (words_of l.tokens)) l.list))
