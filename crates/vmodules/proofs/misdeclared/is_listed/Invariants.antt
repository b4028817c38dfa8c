use Rattle.std.proofs.Common.{◌≡◌, drop}
use Rattle.vexpr_parse.specs.Texts.{words_of}
use Rattle.vmodules.specs.Names.{is_declared, letters_of}
use Rattle.vmodules.specs.Inner.{listed_words, port_trees}
use Rattle.vmodules.proofs.misdeclared.is_listed.Given as goal

abbrev pub invariant-loop-port : goal.invariant-loop-port
invariant-loop-port l =
    is_declared (letters_of (listed_words (port_trees (words_of l.tokens) (drop l.port-index l.list)))) l.name
    ≡ is_declared (letters_of (listed_words (port_trees (words_of l.tokens) l.list))) l.name
