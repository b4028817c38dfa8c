-- Decimals of 64 bits, read; and digits at the front of a text.
use Rattle.std.proofs.Common.{◌≡◌, ◌≢◌, ℕ, ◌^◌, ◌<◌, ◌≤◌, zero, suc, true, List, [], ◌∷◌, length, get_or, take, arith, ap, refl, sym, subst, ◌∙◌, inl, inr, IfSome, IfNone, Option, None, Some, Result, Ok, Err}
use Rattle.std.specs.Char.{is_ascii_digit}
use Rattle.std.specs.List.{prefix_len}
use Rattle.std.specs.Str.{all_ascii_digits}
use Rattle.std.specs.Str.Parse.{digits_value, ParsesUnsigned}
use Rattle.std.specs.Result.{OkIff, result_ok}
use Rattle.std.specs.Fmt.{decimal}
use Rattle.basis.proofs.Bools.{and_left, and_right}
use Rattle.basis.proofs.Digits.{decimal_numerals}
use Rattle.basis.specs.Numerals.{IsNumber}
use Rattle.std.proofs.lemmas.Bool.{cases_Bool}
use Rattle.std.proofs.lemmas.List.{take_all}
use Rattle.std.proofs.lemmas.Str.Parse.{parse_digits}
use Rattle.std.proofs.lemmas.Fmt.{digits_decimal, digits_value-decimal, decimal-digits_value, first_decimal, decimal_digit, decimal_nonempty, decimal_injective}

pub decimal_digits : (n : ℕ) → n < 2 ^ 64 → all_ascii_digits (decimal n) ≡ true
decimal_digits n h = digits_decimal decimal_numerals n h

-- digits that begin with 0 and go on are no number's
pub no_leading_zero : (ds : List ℕ) (n : ℕ) → 1 < length ds → get_or ds 0 0 ≡ 48 → n < 2 ^ 64 → ds ≡ decimal n → ⊥
no_leading_zero ds zero l z h e = let one : length ds ≡ 1 = ap length (e ∙ decimal_digit 0 (omega arith)) in omega arith
no_leading_zero ds (suc n) l z h e =
    let first : 48 < get_or (decimal (suc n)) 0 0 = first_decimal (suc n) (omega arith) h in
    let same : get_or ds 0 0 ≡ get_or (decimal (suc n)) 0 0 = ap (λ t. get_or t 0 0) e in
    omega arith

plain_digits : (ds : List ℕ) → all_ascii_digits ds ≡ true → 0 < length ds → (get_or ds 0 0 ≡ 48 → length ds ≡ 1) → digits_value 10 ds < 2 ^ 64 → decimal (digits_value 10 ds) ≡ ds
plain_digits ds h some plain small = decimal-digits_value decimal_numerals ds h some plain small

abbrev pub Fits : Option ℕ → Type 0
Fits None = Unit {0}
Fits (Some n) = n < 2 ^ 64

abbrev pub IsRead : List ℕ → Option ℕ → Type 0
IsRead ds None = (n : ℕ) → n < 2 ^ 64 → ds ≢ decimal n
IsRead ds (Some n) = ds ≡ decimal n

pub parsed : {E : Type 0} (ds : List ℕ) (r : Result ℕ E) → all_ascii_digits ds ≡ true → (get_or ds 0 0 ≡ 48 → length ds ≤ 1) → ParsesUnsigned 64 10 ds r → IsRead ds (result_ok r)
parsed {E} ds (Ok x) h plain p =
    let q : OkIff {E = E} (Ok x) ((0 < length ds) × (digits_value 10 ds < 2 ^ 64)) (digits_value 10 ds) = parse_digits decimal_numerals {E = E} 64 ds (Ok x) p h in
    let some : 0 < length ds = q.0.0 in
    sym (plain_digits ds h some (λ z. let l : length ds ≤ 1 = plain z in omega arith) q.0.1) ∙ ap decimal (sym q.1)
parsed {E} ds (Err e) h plain p = λ n small is.
    let q : OkIff {E = E} (Err e) ((0 < length ds) × (digits_value 10 ds < 2 ^ 64)) (digits_value 10 ds) = parse_digits decimal_numerals {E = E} 64 ds (Err e) p h in
    let some : 0 < length ds = rw is (decimal_nonempty n small) in
    let worth : digits_value 10 ds ≡ n = rw is (digits_value-decimal decimal_numerals n small) in
    q (some, omega arith)

pub parsed_fits : {E : Type 0} (ds : List ℕ) (r : Result ℕ E) → all_ascii_digits ds ≡ true → ParsesUnsigned 64 10 ds r → Fits (result_ok r)
parsed_fits {E} ds (Ok x) h p =
    let q : OkIff {E = E} (Ok x) ((0 < length ds) × (digits_value 10 ds < 2 ^ 64)) (digits_value 10 ds) = parse_digits decimal_numerals {E = E} 64 ds (Ok x) p h in
    omega (arith, q.0.1, q.1)
parsed_fits {E} ds (Err e) h p = tt

pub read_some : (ds : List ℕ) (o : Option ℕ) → IsRead ds o → Fits o → IfSome o (IsNumber ds)
read_some ds None h f = tt
read_some ds (Some n) h f = (f, h)

pub read_none : (ds : List ℕ) (o : Option ℕ) → IsRead ds o → IfNone o ((n : ℕ) → ¬ IsNumber ds n)
read_none ds None h = λ n p. h n p.0 p.1
read_none ds (Some n) h = tt

-- what was read is the one number with this decimal
pub only_number : (ds : List ℕ) (o : Option ℕ) → IfSome o (IsNumber ds) → IfNone o ((n : ℕ) → ¬ IsNumber ds n) → (n : ℕ) → IsNumber ds n → o ≡ Some n
only_number ds None some none n h = absurd (none n h)
only_number ds (Some m) some none n h = ap Some (decimal_injective m n some.0 h.0 (sym some.1 ∙ h.1))

-- a digit is counted before those that follow it
pub counted : (c : ℕ) (cs : List ℕ) → is_ascii_digit c ≡ true → prefix_len is_ascii_digit (c ∷ cs) ≡ suc (prefix_len is_ascii_digit cs)
counted c cs digit = rw digit (omega arith)

-- digits alone stand at the front as a whole
pub whole_digits : (ds : List ℕ) → all_ascii_digits ds ≡ true → prefix_len is_ascii_digit ds ≡ length ds
whole_digits [] h = refl
whole_digits (c ∷ cs) h = counted c cs (and_left _ _ h) ∙ ap suc (whole_digits cs (and_right _ _ h))

-- those at the front are digits
pub front_digits : (text : List ℕ) → all_ascii_digits (take (prefix_len is_ascii_digit text) text) ≡ true
front_digits [] = refl
front_digits (c ∷ cs) = elim (cases_Bool (is_ascii_digit c)) [
  | inl digit ↦
      subst (λ n. all_ascii_digits (take n (c ∷ cs)) ≡ true) (sym (counted c cs digit)) (rw digit (front_digits cs))
  | inr other ↦ rw other refl
]

-- where they are all of it, it is digits
pub are_digits : (text : List ℕ) → length text ≤ prefix_len is_ascii_digit text → all_ascii_digits text ≡ true
are_digits text all = subst (λ ds. all_ascii_digits ds ≡ true) (take_all _ text all) (front_digits text)
