-- The digits of a value are read back.
use Rattle.std.proofs.Common.{◌≡◌, ℕ, zero, suc, ◌+◌, ◌-◌, ◌<◌, ◌≤◌, Bool, true, false, ◌==◌, ◌||◌, if◌then◌else◌, List, [], ◌∷◌, ◌++◌, length, get_or, map, replicate, reverse, Some, None, refl, ap, sym, ◌∙◌, subst, inl, inr, arith, append-nil, length-append}
use Rattle.std.proofs.lemmas.Bool.{cases_Bool, eqb-true, le-leb}
use Rattle.std.proofs.lemmas.List.{map-append, reverse-append, length-map, length-reverse, length-replicate}
use Rattle.vbits.specs.declared.bit4.Bit4.{Bit4}
use Rattle.vbits.specs.declared.bit4.Bit4.TheVariants.{Zero, One, X, Z}
use Rattle.vbits.specs.Vectors.{Vector}
use Rattle.value_text.specs.ValueText.{binary, binary_digit}
use Rattle.vcd_read.specs.Words.{Text}
use Rattle.vcd_slots.specs.Slots.{extension, letter_of, put_digits, vector_by, vector_of, whole_vector}
use Rattle.vcd_slots.proofs.DigitLemmas.{none_counted}
use Rattle.vcd_text.specs.DumpText.{short_digits}
use Rattle.vcd_text.specs.Readers.{full_digits, left_fill}
use Rattle.vcd_text.proofs.ShortLemmas.{digits_back}
use Rattle.vcd_law.specs.ReadBack.{unsigned}

put_both : (letters : List Bit4) (ds es : Text) → put_digits letters (ds ++ es) ≡ put_digits (put_digits letters ds) es
put_both letters [] es = refl
put_both letters (d ∷ ds) es = put_both (letter_of d ∷ letters) ds es

digit_back : (b : Bit4) → letter_of (binary_digit b) ≡ b
digit_back Zero = refl
digit_back One = refl
digit_back X = refl
digit_back Z = refl

put_reversed : (ls acc : List Bit4) → put_digits acc (map binary_digit (reverse ls)) ≡ ls ++ acc
put_reversed [] acc = refl
put_reversed (l ∷ ls) acc =
    ap (λ (xs : List Bit4). put_digits acc (map binary_digit xs)) (reverse-append (l ∷ []) ls)
    ∙ ap (put_digits acc) (map-append binary_digit (reverse ls) (l ∷ []))
    ∙ put_both acc (map binary_digit (reverse ls)) (binary_digit l ∷ [])
    ∙ (λ i. digit_back l i ∷ put_reversed ls acc i)

put_same : (x : Bit4) (c n k : ℕ) → letter_of c ≡ x → put_digits (replicate k x) (replicate n c) ≡ replicate (k + n) x
put_same x c zero k is = let none : k ≡ k + 0 = omega arith in ap (λ (m : ℕ). replicate m x) none
put_same x c (suc n) k is =
    let more : suc k + n ≡ k + suc n = omega arith in
    ap (λ (y : Bit4). put_digits (y ∷ replicate k x) (replicate n c)) is ∙ put_same x c n (suc k) is ∙ ap (λ (m : ℕ). replicate m x) more

other_letter : (p : Bool) → (if p then X else Z) ≡ extension (if p then X else Z)
other_letter true = refl
other_letter false = refl

other_fill : (c : ℕ) → (c == 48) ≡ false → (c == 49) ≡ false → letter_of (left_fill c) ≡ extension (letter_of c)
other_fill c p q =
    let fill : left_fill c ≡ c = ap (λ (b : Bool). if b || c == 49 then 48 else c) p ∙ ap (λ (b : Bool). if b then 48 else c) q in
    let letter : letter_of c ≡ (if c == 120 || c == 88 then X else Z) =
    ap (λ (b : Bool). if b then Zero else if c == 49 then One else if c == 120 || c == 88 then X else Z) p
    ∙ ap (λ (b : Bool). if b then One else if c == 120 || c == 88 then X else Z) q in
    ap letter_of fill ∙ letter ∙ other_letter (c == 120 || c == 88) ∙ ap extension (sym letter)

fill_letter : (c : ℕ) → letter_of (left_fill c) ≡ extension (letter_of c)
fill_letter c = elim (cases_Bool (c == 48)) [
  | inl zero_is ↦ subst (λ (d : ℕ). letter_of (left_fill d) ≡ extension (letter_of d)) (sym (eqb-true c 48 zero_is)) refl
  | inr p ↦ elim (cases_Bool (c == 49)) [
    | inl one_is ↦ subst (λ (d : ℕ). letter_of (left_fill d) ≡ extension (letter_of d)) (sym (eqb-true c 49 one_is)) refl
    | inr q ↦ other_fill c p q
  ]
]

pub short_some : (d : ℕ) (ds : Text) → (c : ℕ) × (cs : Text) × (short_digits (d ∷ ds) ≡ c ∷ cs)
short_some d [] = (d, [], refl)
short_some d (e ∷ ds) =
    let b : Bool = d == (if e == 49 then 48 else e) in
    elim (cases_Bool b) [
      | inl out ↦ (let rest = short_some e ds in (rest.0, rest.1, ap (λ (b : Bool). if b then short_digits (e ∷ ds) else d ∷ e ∷ ds) out ∙ rest.2))
      | inr stays ↦ (d, e ∷ ds, ap (λ (b : Bool). if b then short_digits (e ∷ ds) else d ∷ e ∷ ds) stays)
    ]

shorter : (width : ℕ) (s ds : Text) → length ds ≡ width → full_digits width s ≡ ds → length s ≤ width
shorter width s ds long is =
    let fill : ℕ = left_fill (get_or s 0 48) in
    let whole : length (full_digits width s) ≡ length (replicate (width - length s) fill) + length s = length-append (replicate (width - length s) fill) s in
    let some : length (replicate (width - length s) fill) ≡ width - length s = length-replicate (width - length s) fill in
    let same : length (full_digits width s) ≡ width = ap length is ∙ long in
    omega arith

-- the letters of digits that are extended
extended : (width c : ℕ) (cs : Text) → put_digits [] (full_digits width (c ∷ cs)) ≡ (vector_by (width - length (c ∷ cs)) c cs).letters
extended width c cs =
    let more : ℕ = width - length (c ∷ cs) in
    put_both [] (replicate more (left_fill c)) (c ∷ cs)
    ∙ ap (λ (ls : List Bit4). put_digits ls (c ∷ cs)) (put_same (extension (letter_of c)) (left_fill c) more 0 (fill_letter c) ∙ ap (λ (m : ℕ). replicate m (extension (letter_of c))) (none_more more))
  where
    none_more : (m : ℕ) → 0 + m ≡ m
    none_more m = omega arith

fits : (width c : ℕ) (cs : Text) (v : Vector) → length (binary v) ≡ width → full_digits width (c ∷ cs) ≡ binary v →
    vector_of width (c ∷ cs) ≡ Some (unsigned v)
fits width c cs v long back =
    let short : length (c ∷ cs) ≤ width = shorter width (c ∷ cs) (binary v) long back in
    let none : length (c ∷ cs) - width ≡ 0 = omega arith in
    let letters : (vector_by (width - length (c ∷ cs)) c cs).letters ≡ v.letters =
    sym (extended width c cs) ∙ ap (put_digits []) back ∙ put_reversed v.letters [] ∙ append-nil v.letters in
    ap (whole_vector width) (none_counted (length (c ∷ cs) - width) (c ∷ cs) none)
    ∙ ap (λ (b : Bool). if b then Some (vector_by (width - length (c ∷ cs)) c cs) else None) (le-leb (length (c ∷ cs)) width short)
    ∙ (λ i. Some (record { letters = letters i; signed = false }))

back_by : (v : Vector) (digits : Text) → length (binary v) ≡ length v.letters → binary v ≡ digits → 0 < length digits → vector_of (length v.letters) (short_digits (binary v)) ≡ Some (unsigned v)
back_by v [] long is some = absurd (omega arith)
back_by v (d ∷ ds) long is some =
    let left = short_some d ds in
    let short : short_digits (binary v) ≡ left.0 ∷ left.1 = ap short_digits is ∙ left.2 in
    let back : full_digits (length v.letters) (left.0 ∷ left.1) ≡ binary v =
    ap (full_digits (length v.letters)) (sym short) ∙ ap (λ (n : ℕ). full_digits n (short_digits (binary v))) (sym long) ∙ digits_back (binary v) in
    ap (vector_of (length v.letters)) short ∙ fits (length v.letters) left.0 left.1 v long back

pub vector_back : (v : Vector) → 0 < length v.letters → vector_of (length v.letters) (short_digits (binary v)) ≡ Some (unsigned v)
vector_back v some = let long : length (binary v) ≡ length v.letters = length-map (reverse v.letters) binary_digit ∙ length-reverse v.letters in
    back_by v (binary v) long refl (omega arith)
