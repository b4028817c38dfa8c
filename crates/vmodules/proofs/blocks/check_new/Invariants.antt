use Rattle.std.proofs.Common.{◌≡◌, drop}
use Rattle.vexpr_parse.specs.Texts.{words_of}
use Rattle.vmodules.specs.Names.{again_behind}
use Rattle.vmodules.specs.Inner.{words_told}
use Rattle.vmodules.proofs.blocks.check_new.Given as goal

abbrev pub invariant-loop-token : goal.invariant-loop-token
invariant-loop-token l =
    again_behind l.names (words_told (words_of l.tokens) (drop l.token-index l.list))
    ≡ again_behind l.initial.names (words_told (words_of l.tokens) l.list)
