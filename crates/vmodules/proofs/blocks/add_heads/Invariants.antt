use Rattle.std.proofs.Common.{◌≡◌, ◌++◌, drop}
use Rattle.vexpr_parse.specs.Texts.{words_of}
use Rattle.vmodules.specs.Inner.{head_names, words_told}
use Rattle.vmodules.proofs.blocks.add_heads.Given as goal

abbrev pub invariant-loop-head : goal.invariant-loop-head
invariant-loop-head l =
    words_told (words_of l.tokens) l.into.items ++ head_names (words_of l.tokens) (drop l.head-index l.list)
    ≡ words_told (words_of l.tokens) l.initial.into.items ++ head_names (words_of l.tokens) l.list
