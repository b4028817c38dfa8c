use Rattle.std.proofs.Common.{◌≡◌, ◌-◌, drop, map}
use Rattle.vast.specs.NumberedWords.{word_of}
use Rattle.vexpr_parse.specs.Texts.{words_of}
use Rattle.module_size.specs.Sizes.{path_size}
use Rattle.module_size.proofs.parts.take_path.Given as goal

abbrev pub invariant-loop-one : goal.invariant-loop-one
invariant-loop-one l =
    l.left - path_size (map (word_of (words_of l.tokens)) (drop l.one-index l.names)) ≡ l.initial.left - path_size (map (word_of (words_of l.tokens)) l.names)
