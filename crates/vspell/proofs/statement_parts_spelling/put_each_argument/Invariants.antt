use Rattle.std.proofs.Common.{◌≡◌, ◌++◌, drop, map}
use Rattle.vast.specs.TokenTexts.{texts}
use Rattle.vspell.specs.Spellings.{texts_of}
use Rattle.vast.specs.Statements.{with_commas, spell_argument}
use Rattle.vast.specs.StatementTrees.{argument_tree}
use Rattle.vspell.specs.Inner.{listed_from}
use Rattle.vspell.proofs.statement_parts_spelling.put_each_argument.Given as goal

abbrev pub invariant-loop-argument : goal.invariant-loop-argument
invariant-loop-argument l =
    texts_of l.out.items ++ listed_from l.first spell_argument (map (argument_tree (texts l.words)) (drop l.argument-index l.arguments))
    ≡ texts_of l.initial.out.items ++ with_commas spell_argument (map (argument_tree (texts l.words)) l.arguments)
