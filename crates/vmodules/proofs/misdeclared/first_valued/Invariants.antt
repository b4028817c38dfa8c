use Rattle.std.proofs.Common.{◌≡◌, List, drop}
use Rattle.vwords.specs.Words.{Text}
use Rattle.vmodules.specs.Inner.{items_valued}
use Rattle.vmodules.proofs.misdeclared.first_valued.Given as goal

abbrev pub invariant-loop-item : goal.invariant-loop-item
invariant-loop-item l = (words : List Text) → items_valued words (drop l.item-index l.items) ≡ items_valued words l.items
