-- Digits that come one by one.
use Rattle.std.proofs.Common.{◌≡◌, ℕ, ◌+◌, ◌<◌, ◌≤◌, zero, suc, false, List, [], ◌∷◌, length, get_or, drop, refl, ap, sym, ◌∙◌, arith, add-one}
use Rattle.std.proofs.Math.Seq.{drop-cons}
use Rattle.std.proofs.lemmas.List.{length-replicate}
use Rattle.vbits.specs.declared.bit4.Bit4.{Bit4}
use Rattle.vbits.specs.Vectors.{Vector, concat, filled, single}
use Rattle.vcd_read.specs.Words.{Text}
use Rattle.vcd_slots.specs.Slots.{without_extra_zeros, extension, letter_of, put_digits}
use Rattle.vcd_slots.specs.Digits.{extend_letter, put_all}

pub begun_alone : (letter : Bit4) (more : ℕ) → more ≡ 0 → single letter ≡ extend_letter letter more
unfolding single
begun_alone letter more none = ap (extend_letter letter) (sym none)

pub begun_behind : (letter : Bit4) (more : ℕ) (left right : Vector) → left ≡ filled more (extension letter) → right ≡ single letter →
    concat left right ≡ extend_letter letter more
unfolding concat filled single
begun_behind letter more left right p q = λ i. concat (p i) (q i)

-- a letter comes in on the right
pub joined : (v : Vector) (letter : Bit4) (one new : Vector) → one ≡ single letter → new ≡ concat v one → v.signed ≡ false →
    new ≡ record { letters = letter ∷ v.letters; signed = false }
unfolding concat single
joined v letter one new p q unsigned = q ∙ ap (concat v) p

pub one_letter : (letter : Bit4) (one : Vector) → one ≡ single letter → length one.letters ≡ 1
unfolding single
one_letter letter one p = ap (λ (v : Vector). length v.letters) p

pub put_more : (letters : List Bit4) (digits : Text) (i digit : ℕ) → i < length digits → digit ≡ get_or digits i 0 →
    put_digits letters (drop i digits) ≡ put_digits (letter_of digit ∷ letters) (drop (i + 1) digits)
put_more letters digits i digit lt is =
    ap (put_digits letters) (drop-cons digits i 0 lt)
    ∙ (λ k. put_digits (letter_of (sym is k) ∷ letters) (drop (sym (add-one i) k) digits))

-- where there are no more digits than bits all of them count
pub none_counted : (more : ℕ) (digits : Text) → more ≡ 0 → without_extra_zeros more digits ≡ digits
none_counted more digits none = ap (λ (m : ℕ). without_extra_zeros m digits) none

pub left_letters : (count : ℕ) (letter : Bit4) (v : Vector) → v ≡ filled count letter → length v.letters ≡ count
unfolding filled
left_letters count letter v p = ap (λ (w : Vector). length w.letters) p ∙ length-replicate count letter

drop_past : (i : ℕ) (digits : Text) → length digits ≤ i → drop i digits ≡ []
drop_past zero [] le = refl
drop_past zero (c ∷ cs) le = absurd (omega arith)
drop_past (suc i) [] le = refl
drop_past (suc i) (c ∷ cs) le = drop_past i cs (omega arith)

-- all digits came in
pub all_put : (start v : Vector) (digits : Text) (i : ℕ) → length digits ≤ i → put_digits v.letters (drop i digits) ≡ put_digits start.letters digits → v.signed ≡ false →
    v ≡ put_all start digits
all_put start v digits i le put unsigned =
    let letters : v.letters ≡ put_digits start.letters digits = ap (put_digits v.letters) (sym (drop_past i digits le)) ∙ put in
    λ k. record { letters = letters k; signed = unsigned k }
