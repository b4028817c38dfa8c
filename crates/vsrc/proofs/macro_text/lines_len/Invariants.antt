use Rattle.std.proofs.Common.{◌≡◌, ◌+◌, drop}
use Rattle.vsrc.specs.Macros.{lines_from, lines_len}
use Rattle.vsrc.proofs.macro_text.lines_len.Given as goal

-- what is left goes as far as the whole
abbrev pub invariant-loop-at : goal.invariant-loop-at
invariant-loop-at l = l.at + lines_from l.slash (drop l.at l.text) ≡ lines_len l.text
