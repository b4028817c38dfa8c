use Rattle.std.proofs.Common.{◌≡◌, ◌+◌, false, ◌∷◌, length, get_or, drop, refl, ap, sym, ◌∙◌, arith}
use Rattle.vbits.specs.declared.bit4.Bit4.{Bit4}
use Rattle.vbits.specs.Vectors.{Vector}
use Rattle.vcd_slots.specs.Slots.{put_digits}
use Rattle.vcd_slots.proofs.DigitLemmas.{all_put, joined, one_letter, put_more}
use Rattle.vcd_slots.proofs.digits.put_all.Goals as goal

pub concat-vector-requires : goal.concat-vector-requires
concat-vector-requires c = omega (arith, one_letter c.letter_of.result c.of_bit.result c.of_bit.ensures)

pub loop-digit-preserved : goal.loop-digit-preserved
loop-digit-preserved c =
    let new : c.concat-vector.result ≡ record { letters = c.letter_of.result ∷ c.loop-digit.vector.letters; signed = false } =
    joined c.loop-digit.vector c.letter_of.result c.of_bit.result c.concat-vector.result c.of_bit.ensures c.concat-vector.ensures c.loop-digit.invariant.unsigned in
    record {
      len = omega (arith, ap (λ (v : Vector). length v.letters) new);
      put = ap (λ (v : Vector). put_digits v.letters (drop (c.loop-digit.digit-index + 1) c.args.digits.now)) new
          ∙ ap (λ (letter : Bit4). put_digits (letter ∷ c.loop-digit.vector.letters) (drop (c.loop-digit.digit-index + 1) c.args.digits.now)) c.letter_of.ensures
          ∙ sym (put_more c.loop-digit.vector.letters c.args.digits.now c.loop-digit.digit-index (get_or c.args.digits.now c.loop-digit.digit-index 0) c.loop-digit-test.true refl)
          ∙ c.loop-digit.invariant.put;
      unsigned = ap (λ (v : Vector). v.signed) new;
    }

pub returns : goal.returns
returns c =
    all_put c.args.start c.loop-digit.vector c.args.digits.now c.loop-digit.digit-index c.loop-digit-test.false c.loop-digit.invariant.put c.loop-digit.invariant.unsigned
