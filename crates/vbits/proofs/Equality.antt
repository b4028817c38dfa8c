-- Equality of letters by tests of words.
use Rattle.std.proofs.Common.{◌≡◌, ℕ, Bool, not, ◌||◌, cond, refl, sym, ◌∙◌, ap, arith, inl, inr}
use Rattle.std.specs.Prelude.{bit_or, nat_eq}
use Rattle.std.proofs.lemmas.Bool.{cases_eq, ne_eqb}
use Rattle.std.proofs.lemmas.Nat.{le_or_l}
use Rattle.vbits.specs.declared.bit4.Bit4.TheVariants.{Zero, One, X}
use Rattle.vbits.specs.Letters.{is_unknown, is_same, differ}
use Rattle.vbits.specs.Planes.{letters_of}
use Rattle.vbits.specs.Vectors.{Vector, eq_letter, same_letters}
use Rattle.vbits.proofs.Wordwise.{any-zip-letters_of, all-zip-letters_of, any-letters_of, word_b, first_pair, second_pair}
use Rattle.vbits.proofs.Tables.{differ_word, differ_word-words, differ_word-tells, same_word, same_word-words, same_word-tells, unknown_word, unknown_word-tells}
use Rattle.vbits.proofs.Operands.{Operands, same_len, four_of}

either_set : (b d : ℕ) → not (nat_eq b 0) || not (nat_eq d 0) ≡ not (nat_eq (bit_or b d) 0)
either_set b d =
    elim (cases_eq b 0) [
      | inl e ↦ rw e refl
      | inr ne ↦
          let more : bit_or b d ≡ 0 → ⊥ = λ none. ne (omega (arith, le_or_l b d)) in
          rw (ne_eqb b 0 ne, ne_eqb (bit_or b d) 0 more) refl
    ]

pub eq_letter-words : (n m a b c d : ℕ) (s t : Bool) (v w : Vector) → Operands n m a b c d s t v w →
    eq_letter v.letters w.letters ≡ cond (not (nat_eq (differ_word a b c d 0) 0)) Zero (cond (not (nat_eq (bit_or b d) 0)) X One)
unfolding eq_letter
eq_letter-words n m a b c d s t v w o =
    let len = same_len n m a b c d s t v w o in
    let four = four_of n m a b c d s t v w o in
    let left : letters_of n a b ≡ v.letters = ap (λ z. z.letters) o.left_is in
    let right : letters_of n c d ≡ w.letters = ap (λ k. letters_of k c d) (sym len) ∙ ap (λ z. z.letters) o.right_is in
    let differing = any-zip-letters_of differ differ_word differ_word-words differ_word-tells n a b c d four in
    let left_unknown = any-letters_of is_unknown unknown_word word_b unknown_word-tells n a b (first_pair n a b c d four) in
    let right_unknown = any-letters_of is_unknown unknown_word word_b unknown_word-tells n c d (second_pair n a b c d four) in
    rw (← left, ← right, differing, left_unknown, right_unknown, either_set b d) refl

pub same_letters-words : (n m a b c d : ℕ) (s t : Bool) (v w : Vector) → Operands n m a b c d s t v w →
    same_letters v.letters w.letters ≡ nat_eq (same_word a b c d 0) 0
unfolding same_letters
same_letters-words n m a b c d s t v w o =
    let len = same_len n m a b c d s t v w o in
    let four = four_of n m a b c d s t v w o in
    let left : letters_of n a b ≡ v.letters = ap (λ z. z.letters) o.left_is in
    let right : letters_of n c d ≡ w.letters = ap (λ k. letters_of k c d) (sym len) ∙ ap (λ z. z.letters) o.right_is in
    rw (← left, ← right) (all-zip-letters_of is_same same_word same_word-words same_word-tells n a b c d four)
