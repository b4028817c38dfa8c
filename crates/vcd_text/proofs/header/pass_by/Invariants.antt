use Rattle.std.proofs.Common.{◌≡◌, ◌+◌, ℕ}
use Rattle.vcd_text.specs.DumpText.{code}
use Rattle.vcd_text.proofs.header.pass_by.Given as goal

abbrev pub invariant-loop : goal.invariant-loop
invariant-loop l = (n : ℕ) → l.initial.name.items ≡ code n → l.name.items ≡ code (n + l.index)
