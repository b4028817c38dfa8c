use Rattle.std.proofs.Common.{◌≡◌, ◌++◌, List, drop}
use Rattle.vwords.specs.Words.{Text}
use Rattle.vmodules.specs.Inner.{told_as, words_told}
use Rattle.vmodules.proofs.misdeclared.words_as.Given as goal

abbrev pub invariant-loop-item : goal.invariant-loop-item
invariant-loop-item l = (words : List Text) →
    words_told words l.list.items ++ told_as words l.declaring (drop l.item-index l.items) ≡ told_as words l.declaring l.items
