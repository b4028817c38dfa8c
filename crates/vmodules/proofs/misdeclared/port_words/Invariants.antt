use Rattle.std.proofs.Common.{◌≡◌, ◌++◌, List, drop}
use Rattle.vwords.specs.Words.{Text}
use Rattle.vmodules.specs.Inner.{listed_words, port_trees, words_told}
use Rattle.vmodules.proofs.misdeclared.port_words.Given as goal

abbrev pub invariant-loop-port : goal.invariant-loop-port
invariant-loop-port l = (words : List Text) →
    words_told words l.names.items ++ listed_words (port_trees words (drop l.port-index l.list)) ≡ listed_words (port_trees words l.list)
