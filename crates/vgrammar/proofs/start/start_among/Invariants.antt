use Rattle.std.proofs.Common.{◌≡◌, drop}
use Rattle.vexpr_parse.specs.Words.{by_spelling}
use Rattle.vgrammar.specs.Starts.{start_word}
use Rattle.vgrammar.proofs.start.start_among.Given as goal

abbrev pub invariant-loop-start : goal.invariant-loop-start
invariant-loop-start l = by_spelling start_word (drop l.start-index l.starts) l.word ≡ by_spelling start_word l.starts l.word
