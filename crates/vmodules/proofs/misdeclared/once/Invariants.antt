use Rattle.std.proofs.Common.{◌≡◌, drop}
use Rattle.vexpr_parse.specs.Texts.{words_of}
use Rattle.vmodules.specs.Names.{again_behind, first_again, letters_of}
use Rattle.vmodules.specs.Inner.{with_words, words_told}
use Rattle.vmodules.proofs.misdeclared.once.Given as goal

abbrev pub invariant-loop-token : goal.invariant-loop-token
invariant-loop-token l = record {
  names : with_words l.names (words_told (words_of l.tokens) (drop l.token-index l.list)) ≡ letters_of (words_told (words_of l.tokens) l.list);
  again : again_behind l.names (words_told (words_of l.tokens) (drop l.token-index l.list)) ≡ first_again (words_told (words_of l.tokens) l.list);
}
