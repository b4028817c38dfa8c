use Rattle.std.proofs.Common.{◌≡◌, ◌++◌, drop}
use Rattle.vexpr_parse.specs.Texts.{words_of}
use Rattle.vmodules.specs.Inner.{all_in, words_told}
use Rattle.vmodules.proofs.misdeclared.add_among.Given as goal

abbrev pub invariant-loop-token : goal.invariant-loop-token
invariant-loop-token l =
    words_told (words_of l.tokens) l.into.items ++ all_in l.names (words_told (words_of l.tokens) (drop l.token-index l.list))
    ≡ words_told (words_of l.tokens) l.initial.into.items ++ all_in l.names (words_told (words_of l.tokens) l.list)
