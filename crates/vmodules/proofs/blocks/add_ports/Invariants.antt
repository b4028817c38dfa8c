use Rattle.std.proofs.Common.{◌≡◌, ◌++◌, drop}
use Rattle.vexpr_parse.specs.Texts.{words_of}
use Rattle.vmodules.specs.Inner.{listed_words, port_trees, words_told}
use Rattle.vmodules.proofs.blocks.add_ports.Given as goal

abbrev pub invariant-loop-port : goal.invariant-loop-port
invariant-loop-port l =
    words_told (words_of l.tokens) l.into.items ++ listed_words (port_trees (words_of l.tokens) (drop l.port-index l.list))
    ≡ words_told (words_of l.tokens) l.initial.into.items ++ listed_words (port_trees (words_of l.tokens) l.list)
