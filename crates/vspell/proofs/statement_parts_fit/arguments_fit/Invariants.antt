use Rattle.std.proofs.Common.{◌≡◌, drop, map}
use Rattle.std.specs.List.{list_all}
use Rattle.vast.specs.TokenTexts.{texts}
use Rattle.vspell.specs.Within.{argument_within}
use Rattle.vast.specs.StatementTrees.{argument_tree}
use Rattle.vspell.proofs.statement_parts_fit.arguments_fit.Given as goal

abbrev pub invariant-loop-argument : goal.invariant-loop-argument
invariant-loop-argument l =
    list_all (argument_within l.levels) (map (argument_tree (texts l.words)) (drop l.argument-index l.arguments)) ≡ list_all (argument_within l.levels) (map (argument_tree (texts l.words)) l.arguments)
