use Rattle.std.proofs.Common.{◌≡◌, ◌++◌, drop}
use Rattle.vexpr_parse.specs.Texts.{words_of}
use Rattle.vmodules.specs.Inner.{declared_words, words_told}
use Rattle.vmodules.proofs.blocks.add_declared.Given as goal

abbrev pub invariant-loop-one : goal.invariant-loop-one
invariant-loop-one l =
    words_told (words_of l.tokens) l.into.items ++ declared_words (words_of l.tokens) (drop l.one-index l.list)
    ≡ words_told (words_of l.tokens) l.initial.into.items ++ declared_words (words_of l.tokens) l.list
