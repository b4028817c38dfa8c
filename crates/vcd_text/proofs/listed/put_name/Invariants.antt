use Rattle.std.proofs.Common.{◌≡◌, ℕ, List, ◌++◌}
use Rattle.std.specs.Prelude.{All}
use Rattle.vcd_text.specs.CodeLaws.{IsDigit, number_of}
use Rattle.vcd_text.specs.DumpText.{code}
use Rattle.vcd_text.proofs.listed.put_name.Given as goal

-- with the digits of what is left behind it, it is the code
abbrev pub invariant-loop-left : goal.invariant-loop-left
invariant-loop-left l = (rest : List ℕ) → All IsDigit rest → number_of rest ≡ l.left → l.name.items ++ rest ≡ code l.variable

abbrev pub decreases-loop-left : goal.decreases-loop-left
decreases-loop-left l = l.left
