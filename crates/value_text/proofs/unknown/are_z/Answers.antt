use Rattle.std.proofs.Common.{arith, sym, ◌∙◌}
use Rattle.vbits.specs.Letters as letters
use Rattle.value_text.proofs.LetterLemmas.{all_stops, all_goes_on}
use Rattle.value_text.proofs.unknown.are_z.Goals as goal

pub returns-then-not-is_z : goal.returns-then-not-is_z
returns-then-not-is_z c = all_stops letters.is_z c.args.value.letters c.loop-i.i c.bit.result c.bit.ensures (sym c.if-not-is_z.true ∙ c.is_z.ensures) c.loop-i.invariant.1

pub loop-i-preserved : goal.loop-i-preserved
loop-i-preserved c = (
  omega arith,
  all_goes_on letters.is_z c.args.value.letters c.loop-i.i c.bit.result c.bit.ensures (sym c.if-not-is_z.false ∙ c.is_z.ensures) c.loop-i.invariant.1,
)
