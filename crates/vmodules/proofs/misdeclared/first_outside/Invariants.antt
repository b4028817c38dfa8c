use Rattle.std.proofs.Common.{◌≡◌, drop}
use Rattle.vexpr_parse.specs.Texts.{words_of}
use Rattle.vmodules.specs.Inner.{first_not, words_told}
use Rattle.vmodules.proofs.misdeclared.first_outside.Given as goal

abbrev pub invariant-loop-token : goal.invariant-loop-token
invariant-loop-token l =
    first_not l.names (words_told (words_of l.tokens) (drop l.token-index l.list)) ≡ first_not l.names (words_told (words_of l.tokens) l.list)
