use Rattle.std.proofs.Common.{arith, sym, ◌∙◌}
use Rattle.vbits.specs.Letters as letters
use Rattle.value_text.proofs.LetterLemmas.{all_stops, all_goes_on}
use Rattle.value_text.proofs.unknown.are_x.Goals as goal

pub returns-then-not-is_x : goal.returns-then-not-is_x
returns-then-not-is_x c = all_stops letters.is_x c.args.value.letters c.loop-i.i c.bit.result c.bit.ensures (sym c.if-not-is_x.true ∙ c.is_x.ensures) c.loop-i.invariant.1

pub loop-i-preserved : goal.loop-i-preserved
loop-i-preserved c = (
  omega arith,
  all_goes_on letters.is_x c.args.value.letters c.loop-i.i c.bit.result c.bit.ensures (sym c.if-not-is_x.false ∙ c.is_x.ensures) c.loop-i.invariant.1,
)
