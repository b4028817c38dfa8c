-- What is said of all letters, one letter after another.
use Rattle.std.proofs.Common.{◌≡◌, ℕ, zero, suc, ◌+◌, ◌-◌, ◌*◌, ◌^◌, ◌<◌, ◌≤◌, min, take, Option, None, option_map, Bool, true, false, ◌&&◌, ◌||◌, cond, List, [], ◌∷◌, ◌++◌, length, drop, get_or, slice_get, Some, sym, ap, ◌∙◌, refl, arith, append_assoc}
use Rattle.std.specs.List.{list_all, list_any}
use Rattle.std.proofs.lemmas.Option.{get_or_from_slice_get, slice_get_within, same_Some, none-some}
use Rattle.std.proofs.lemmas.List.{length-drop, take_min}
use Rattle.std.proofs.Math.Nat.{pow-suc}
use Rattle.basis.proofs.Lists.{left_from}
use Rattle.vbits.specs.declared.bit4.Bit4.{Bit4}
use Rattle.vbits.specs.declared.bit4.Bit4.TheVariants.{Zero, One, X, Z}
use Rattle.vbits.specs.Letters.{is_one}
use Rattle.vbits.specs.Numbers.{number}
use Rattle.vbits.specs.Vectors.{Vector, select, sign_letter}
use Rattle.value_text.specs.ValueText.{is_negative, digit_of, digits_of}

-- the letters from this one on
pub from : (letters : List Bit4) (i : ℕ) (letter : Bit4) → slice_get letters i ≡ Some letter → letter ∷ drop (i + 1) letters ≡ drop i letters
from letters i letter at = left_from letters i letter (sym (get_or_from_slice_get letters i letter letter at)) (slice_get_within letters i letter at)

pub all_on : (test : Bit4 → Bool) (letters : List Bit4) (i : ℕ) (letter : Bit4) → slice_get letters i ≡ Some letter →
    list_all test (drop i letters) ≡ (test letter && list_all test (drop (i + 1) letters))
all_on test letters i letter at = ap (list_all test) (sym (from letters i letter at))

pub any_on : (test : Bit4 → Bool) (letters : List Bit4) (i : ℕ) (letter : Bit4) → slice_get letters i ≡ Some letter →
    list_any test (drop i letters) ≡ (test letter || list_any test (drop (i + 1) letters))
any_on test letters i letter at = ap (list_any test) (sym (from letters i letter at))

pub all_stops : (test : Bit4 → Bool) (letters : List Bit4) (i : ℕ) (letter : Bit4) → slice_get letters i ≡ Some letter → false ≡ test letter →
    list_all test letters ≡ list_all test (drop i letters) → false ≡ list_all test letters
all_stops test letters i letter at fails before =
    sym (before ∙ all_on test letters i letter at ∙ ap (λ b. b && list_all test (drop (i + 1) letters)) (sym fails))

pub all_goes_on : (test : Bit4 → Bool) (letters : List Bit4) (i : ℕ) (letter : Bit4) → slice_get letters i ≡ Some letter → true ≡ test letter →
    list_all test letters ≡ list_all test (drop i letters) → list_all test letters ≡ list_all test (drop (i + 1) letters)
all_goes_on test letters i letter at so before =
    before ∙ all_on test letters i letter at ∙ ap (λ b. b && list_all test (drop (i + 1) letters)) (sym so)

pub any_stops : (test : Bit4 → Bool) (letters : List Bit4) (i : ℕ) (letter : Bit4) → slice_get letters i ≡ Some letter → true ≡ test letter →
    list_any test letters ≡ list_any test (drop i letters) → true ≡ list_any test letters
any_stops test letters i letter at so before =
    sym (before ∙ any_on test letters i letter at ∙ ap (λ b. b || list_any test (drop (i + 1) letters)) (sym so))

pub any_goes_on : (test : Bit4 → Bool) (letters : List Bit4) (i : ℕ) (letter : Bit4) → slice_get letters i ≡ Some letter → false ≡ test letter →
    list_any test letters ≡ list_any test (drop i letters) → list_any test letters ≡ list_any test (drop (i + 1) letters)
any_goes_on test letters i letter at so before =
    before ∙ any_on test letters i letter at ∙ ap (λ b. b || list_any test (drop (i + 1) letters)) (sym so)

-- the sign of a signed value is its last letter, and no other has one
pub signed_sign : (v : Vector) (letter : Bit4) → true ≡ v.signed → slice_get v.letters (length v.letters - 1) ≡ Some letter → is_one letter ≡ is_negative v
unfolding sign_letter
signed_sign v letter mark at =
    ap is_one (sym (ap (λ s. cond s (get_or v.letters (length v.letters - 1) Zero) Zero) (sym mark) ∙ get_or_from_slice_get v.letters (length v.letters - 1) letter Zero at))

pub no_sign : (v : Vector) → false ≡ v.signed → false ≡ is_negative v
unfolding sign_letter
no_sign v mark = ap (λ s. is_one (cond s (get_or v.letters (length v.letters - 1) Zero) Zero)) mark

-- a number of so many digits is below that power of 2
doubled : (k : Option ℕ) (m n : ℕ) → ((i : ℕ) → k ≡ Some i → i < m) → option_map (λ i. 2 * i) k ≡ Some n → n < 2 * m
doubled None m n h e = absurd (none-some _ e)
doubled (Some i) m n h e = omega (arith, h i refl, same_Some _ _ e)

doubled_and_one : (k : Option ℕ) (m n : ℕ) → ((i : ℕ) → k ≡ Some i → i < m) → option_map (λ i. 2 * i + 1) k ≡ Some n → n < 2 * m
doubled_and_one None m n h e = absurd (none-some _ e)
doubled_and_one (Some i) m n h e = omega (arith, h i refl, same_Some _ _ e)

pub number_below : (letters : List Bit4) (n : ℕ) → number letters ≡ Some n → n < 2 ^ length letters
number_below [] n e = omega (arith, same_Some _ _ e)
number_below (Zero ∷ high) n e = omega (arith, doubled (number high) (2 ^ length high) n (number_below high) e, pow-suc 2 (length high))
number_below (One ∷ high) n e = omega (arith, doubled_and_one (number high) (2 ^ length high) n (number_below high) e, pow-suc 2 (length high))
number_below (X ∷ high) n e = absurd (none-some _ e)
number_below (Z ∷ high) n e = absurd (none-some _ e)

-- up to four bits
small : (k : ℕ) → k < 5 → 2 ^ k ≤ 16
small zero h = omega arith
small (suc zero) h = omega arith
small (suc (suc zero)) h = omega arith
small (suc (suc (suc zero))) h = omega arith
small (suc (suc (suc (suc zero)))) h = omega arith
small (suc (suc (suc (suc (suc k))))) h = omega (arith, h)

pub below_16 : (letters : List Bit4) (n : ℕ) → length letters < 5 → number letters ≡ Some n → n < 16
below_16 letters n few e = omega (arith, number_below letters n e, small (length letters) few)

-- the bits of a digit, of so many at most, from this one on
group_of : (letters : List Bit4) (size low high : ℕ) → low < length letters → 0 < size → high ≡ min (low + (size - 1)) (length letters - 1) →
    take (high + 1 - low) (drop low letters) ≡ take size (drop low letters)
group_of letters size low high within some is =
    ap (λ count. take count (drop low letters)) (omega (arith, within, some, is, length-drop low letters))
    ∙ take_min size (drop low letters)

pub selected_group : (v : Vector) (size low high : ℕ) → low < length v.letters → 0 < size → high ≡ min (low + (size - 1)) (length v.letters - 1) →
    (select v high low).letters ≡ take size (drop low v.letters)
unfolding select
selected_group v size low high within some is = group_of v.letters size low high within some is

-- one digit more
pub digit_more : (letters : List Bit4) (size n : ℕ) (items new whole : List ℕ) (digit : ℕ) (group : List Bit4) → 0 < n → items ++ digits_of size n letters ≡ whole →
    group ≡ take size (drop (size * (n - 1)) letters) → digit ≡ digit_of group → new ≡ items ++ digit ∷ [] → new ++ digits_of size (n - 1) letters ≡ whole
digit_more letters size zero items new whole digit group some before bits is put = absurd (omega (arith, some))
digit_more letters size (suc m) items new whole digit group some before bits is put =
    ap (λ k. new ++ digits_of size k letters) less
    ∙ ap (λ text. text ++ digits_of size m letters) put
    ∙ append_assoc items (digit ∷ []) (digits_of size m letters)
    ∙ ap (λ d. items ++ d ∷ digits_of size m letters) (is ∙ ap digit_of (bits ∙ ap (λ k. take size (drop (size * k) letters)) less))
    ∙ before
  where
    less : suc m - 1 ≡ m
    less = omega arith
