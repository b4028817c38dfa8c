use Rattle.std.proofs.Common.{◌≡◌, ◌++◌, drop, map}
use Rattle.vast.specs.NumberedTrees.{argument_tree}
use Rattle.vexpr_parse.specs.Texts.{words_of}
use Rattle.velab_process.specs.Waits.{any_of, read_by_arguments}
use Rattle.velab_process.proofs.wait.put_arguments.Given as goal

abbrev pub invariant-loop-one : goal.invariant-loop-one
invariant-loop-one l =
    l.terms.items ++ any_of l.scope (read_by_arguments (map (argument_tree (words_of l.tokens)) (drop l.one-index l.arguments)))
    ≡ l.initial.terms.items ++ any_of l.scope (read_by_arguments (map (argument_tree (words_of l.tokens)) l.arguments))
