use Rattle.std.proofs.Common.{◌≡◌, drop, map}
use Rattle.std.specs.List.{list_all}
use Rattle.vast.specs.TokenTexts.{texts}
use Rattle.vast.specs.Modules.{fits_item}
use Rattle.vast.specs.ModuleTrees.{item_tree}
use Rattle.vspell.proofs.fitting.items_fit.Given as goal

abbrev pub invariant-loop-item : goal.invariant-loop-item
invariant-loop-item l =
    list_all (fits_item 64) (map (item_tree (texts l.words)) (drop l.item-index l.items))
    ≡ list_all (fits_item 64) (map (item_tree (texts l.words)) l.items)
