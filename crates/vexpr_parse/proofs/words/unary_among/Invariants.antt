use Rattle.std.proofs.Common.{◌≡◌, drop}
use Rattle.vast.specs.Expressions.{unary_word}
use Rattle.vexpr_parse.specs.Words.{by_spelling}
use Rattle.vexpr_parse.proofs.words.unary_among.Given as goal

abbrev pub invariant-loop-operator : goal.invariant-loop-operator
invariant-loop-operator l = by_spelling unary_word (drop l.operator-index l.operators) l.word ≡ by_spelling unary_word l.operators l.word
