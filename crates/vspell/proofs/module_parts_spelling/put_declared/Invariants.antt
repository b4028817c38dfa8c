use Rattle.std.proofs.Common.{◌≡◌, ◌++◌, drop, map}
use Rattle.vast.specs.TokenTexts.{texts}
use Rattle.vspell.specs.Spellings.{texts_of}
use Rattle.vast.specs.Statements.{with_commas}
use Rattle.vast.specs.Modules.{spell_declared}
use Rattle.vast.specs.ModuleTrees.{declared_tree}
use Rattle.vspell.specs.Inner.{listed_from}
use Rattle.vspell.proofs.module_parts_spelling.put_declared.Given as goal

abbrev pub invariant-loop-one : goal.invariant-loop-one
invariant-loop-one l =
    texts_of l.out.items ++ listed_from l.first spell_declared (map (declared_tree (texts l.words)) (drop l.one-index l.declared))
    ≡ texts_of l.initial.out.items ++ with_commas spell_declared (map (declared_tree (texts l.words)) l.declared)
