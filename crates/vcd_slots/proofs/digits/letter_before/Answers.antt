use Rattle.std.proofs.Common.{◌∙◌, arith}
use Rattle.vcd_slots.specs.Slots.{extension}
use Rattle.vcd_slots.proofs.DigitLemmas.{begun_alone, begun_behind, left_letters, one_letter}
use Rattle.vcd_slots.proofs.digits.letter_before.Goals as goal

pub concat-requires : goal.concat-requires
concat-requires c =
    omega (
      arith,
      left_letters c.args.more (extension c.args.letter) c.left_of.result c.left_of.ensures,
      one_letter c.args.letter c.of_bit-else-more-eq0.result c.of_bit-else-more-eq0.ensures,
    )

pub returns-then-more-eq0 : goal.returns-then-more-eq0
returns-then-more-eq0 c = c.of_bit.ensures ∙ begun_alone c.args.letter c.args.more c.if-more-eq0.true

pub returns-else-more-eq0 : goal.returns-else-more-eq0
returns-else-more-eq0 c =
    c.concat.ensures ∙ begun_behind c.args.letter c.args.more c.left_of.result c.of_bit-else-more-eq0.result c.left_of.ensures c.of_bit-else-more-eq0.ensures
