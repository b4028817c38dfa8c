use Rattle.std.proofs.Common.{◌≡◌, drop}
use Rattle.vast.specs.Expressions.{binary_word}
use Rattle.vexpr_parse.specs.Words.{by_spelling}
use Rattle.vexpr_parse.proofs.words.binary_among.Given as goal

abbrev pub invariant-loop-operator : goal.invariant-loop-operator
invariant-loop-operator l = by_spelling binary_word (drop l.operator-index l.operators) l.word ≡ by_spelling binary_word l.operators l.word
