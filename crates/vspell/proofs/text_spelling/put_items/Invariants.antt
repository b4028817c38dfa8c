use Rattle.std.proofs.Common.{◌≡◌, ◌++◌, drop, flat_map, map}
use Rattle.vast.specs.TokenTexts.{texts}
use Rattle.vspell.specs.Spellings.{texts_of}
use Rattle.vast.specs.Modules.{spell_item}
use Rattle.vast.specs.ModuleTrees.{item_tree}
use Rattle.vspell.proofs.text_spelling.put_items.Given as goal

abbrev pub invariant-loop-item : goal.invariant-loop-item
invariant-loop-item l =
    texts_of l.out.items ++ flat_map spell_item (map (item_tree (texts l.words)) (drop l.item-index l.items))
    ≡ texts_of l.initial.out.items ++ flat_map spell_item (map (item_tree (texts l.words)) l.items)
