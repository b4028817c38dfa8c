use Rattle.std.proofs.Common.{◌≡◌, ◌++◌, drop, flat_map, map}
use Rattle.vast.specs.TokenTexts.{texts}
use Rattle.vspell.specs.Spellings.{texts_of}
use Rattle.vast.specs.Modules.{spell_module}
use Rattle.vast.specs.ModuleTrees.{module_tree}
use Rattle.vspell.proofs.text_spelling.spell.Given as goal

abbrev pub invariant-loop-unit : goal.invariant-loop-unit
invariant-loop-unit l =
    texts_of l.out.items ++ flat_map spell_module (map (module_tree (texts l.words)) (drop l.unit-index l.text.modules.items))
    ≡ flat_map spell_module (map (module_tree (texts l.words)) l.text.modules.items)
