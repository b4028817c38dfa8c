use Rattle.std.proofs.Common.{◌++◌, drop}
use Rattle.vexpr_parse.specs.Texts.{words_of}
use Rattle.vmodules.specs.Names.{letters_of}
use Rattle.vmodules.specs.Inner.{words_told, HoldSame}
use Rattle.vmodules.proofs.blocks.names_of.Given as goal

abbrev pub invariant-loop-token : goal.invariant-loop-token
invariant-loop-token l =
    HoldSame (l.names ++ letters_of (words_told (words_of l.tokens) (drop l.token-index l.list))) (letters_of (words_told (words_of l.tokens) l.list))
