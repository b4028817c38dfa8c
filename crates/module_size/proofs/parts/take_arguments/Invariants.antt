use Rattle.std.proofs.Common.{◌≡◌, ◌-◌, drop, map}
use Rattle.vast.specs.NumberedTrees.{argument_tree}
use Rattle.vexpr_parse.specs.Texts.{words_of}
use Rattle.module_size.specs.Sizes.{argument_size, size_of}
use Rattle.module_size.proofs.parts.take_arguments.Given as goal

abbrev pub invariant-loop-one : goal.invariant-loop-one
invariant-loop-one l =
    l.left - size_of (argument_size l.path) (map (argument_tree (words_of l.tokens)) (drop l.one-index l.arguments)) ≡ l.initial.left - size_of (argument_size l.path) (map (argument_tree (words_of l.tokens)) l.arguments)
