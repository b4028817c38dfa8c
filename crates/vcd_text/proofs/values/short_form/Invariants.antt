use Rattle.std.proofs.Common.{◌≡◌, length}
use Rattle.vcd_text.specs.DumpText.{short_digits}
use Rattle.vcd_text.proofs.values.short_form.Given as goal

abbrev pub invariant-loop-rest : goal.invariant-loop-rest
invariant-loop-rest l = short_digits l.rest ≡ short_digits l.digits

abbrev pub decreases-loop-rest : goal.decreases-loop-rest
decreases-loop-rest l = length l.rest
