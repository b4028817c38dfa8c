use Rattle.std.proofs.Common.{◌≡◌, ◌-◌, drop, map}
use Rattle.vast.specs.NumberedTrees.{path_tree}
use Rattle.vexpr_parse.specs.Texts.{words_of}
use Rattle.module_size.specs.Sizes.{path_size, size_of}
use Rattle.module_size.proofs.parts.take_paths.Given as goal

abbrev pub invariant-loop-one : goal.invariant-loop-one
invariant-loop-one l =
    l.left - size_of path_size (map (path_tree (words_of l.tokens)) (drop l.one-index l.paths)) ≡ l.initial.left - size_of path_size (map (path_tree (words_of l.tokens)) l.paths)
