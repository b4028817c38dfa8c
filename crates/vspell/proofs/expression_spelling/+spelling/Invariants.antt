use Rattle.std.proofs.Common.{◌≡◌, ◌++◌, drop}
use Rattle.vast.specs.TokenTexts.{texts}
use Rattle.vast.specs.Expressions.{spell_parts}
use Rattle.vast.specs.ExpressionTrees.{trees_of}
use Rattle.vspell.specs.Spellings.{texts_of}
use Rattle.vspell.specs.Inner.{parts_from}
use Rattle.vspell.proofs.expression_spelling.+spelling.Given as goal

abbrev pub invariant-put_parts-loop-part : goal.invariant-put_parts-loop-part
invariant-put_parts-loop-part l =
    texts_of l.out.items ++ parts_from l.first (trees_of (texts l.words) (drop l.part-index l.parts))
    ≡ texts_of l.initial.out.items ++ spell_parts (trees_of (texts l.words) l.parts)
