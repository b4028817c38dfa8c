use Rattle.std.proofs.Common.{◌++◌, drop}
use Rattle.vexpr_parse.specs.Texts.{words_of}
use Rattle.vmodules.specs.Names.{letters_of}
use Rattle.vmodules.specs.Inner.{HoldSame, listed_words, port_trees}
use Rattle.vmodules.proofs.ports.add_names.Given as goal

abbrev pub invariant-loop-port : goal.invariant-loop-port
invariant-loop-port l = HoldSame (l.into ++ letters_of (listed_words (port_trees (words_of l.tokens) (drop l.port-index l.list))))
    (l.initial.into ++ letters_of (listed_words (port_trees (words_of l.tokens) l.list)))
