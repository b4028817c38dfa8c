use Rattle.std.proofs.Common.{◌≡◌, ◌++◌, drop, map}
use Rattle.vast.specs.TokenTexts.{texts}
use Rattle.vspell.specs.Spellings.{texts_of}
use Rattle.vast.specs.Statements.{with_commas}
use Rattle.vast.specs.Expressions.{spell_expression}
use Rattle.vast.specs.ExpressionTrees.{tree_of}
use Rattle.vspell.specs.Inner.{listed_from}
use Rattle.vspell.proofs.module_parts_spelling.put_values.Given as goal

abbrev pub invariant-loop-value : goal.invariant-loop-value
invariant-loop-value l =
    texts_of l.out.items ++ listed_from l.first spell_expression (map (tree_of (texts l.words)) (drop l.value-index l.values))
    ≡ texts_of l.initial.out.items ++ with_commas spell_expression (map (tree_of (texts l.words)) l.values)
