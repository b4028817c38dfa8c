-- Numbers read digit by digit: what is kept of the part read so far is enough.
use Rattle.std.proofs.Common.{◌≡◌, ◌<◌, ◌≤◌, ℕ, zero, suc, ◌+◌, ◌-◌, ◌*◌, ◌/◌, ◌%◌, ◌^◌, min, Bool, true, false, if◌then◌else◌, List, [], ◌∷◌, ◌++◌, fold, length, take, drop, replicate, get_or, drop-cons, add-one, refl, sym, ap, ◌∙◌, arith, length-append, append_assoc, lit≤}
use Rattle.std.proofs.Math.Nat.{mod-mod, mod-add-mod}
use Rattle.std.proofs.lemmas.Nat.{mul-mod_second}
use Rattle.std.proofs.Math.Pow.{mod-mod-pow}
use Rattle.std.proofs.Math.ListN.{drop_of_length-le}
use Rattle.std.proofs.lemmas.List.{length-take-le, length-replicate, length-drop}
use Rattle.std.proofs.Math.Seq.{take-length}
use Rattle.std.proofs.lemmas.Bool.Decides.{nat_tests}
use Rattle.vbits.specs.declared.bit4.Bit4.{Bit4}
use Rattle.vbits.specs.declared.bit4.Bit4.TheVariants.{X, Z}
use Rattle.vbits.specs.Letters.{is_unknown}
use Rattle.vbits.specs.Numbers.{digits}
use Rattle.vbits.specs.Planes.{letters_of}
use Rattle.vbits.specs.Vectors.{Vector, filled, of_number, select, concat, with_sign}
use Rattle.vbits.proofs.LettersOf.{digits-letters_of, letters_of-low, zero_low}
use Rattle.vwords.specs.Words.{Text}
use Rattle.vlex.specs.Bytes.{is_underscore, is_x_digit, is_z_digit}
use Rattle.vlex.specs.Forms.{with_digit, spelled_number, skip_blanks}
use Rattle.velab_expr.specs.Literals.{digit_letters, spelled_letters, filling_letters, lettered_value, decimal_value, digit_value, is_marked, without_mark, digits_behind, first_byte, size_of, based_value, spreads_by, based_constant, plain_constant}
use Rattle.vdesign.specs.declared.expression.Constant.{Constant}

-- ---- decimal numbers modulo a power of two

mul_low : (k m a b : ℕ) → a % m ≡ b % m → k * a % m ≡ k * b % m
mul_low k m a b e = sym (mul-mod_second k a m) ∙ ap (λ n. k * n % m) e ∙ mul-mod_second k b m

with_digit_low : (m a b c : ℕ) → a % m ≡ b % m → with_digit a c % m ≡ with_digit b c % m
with_digit_low m a b c e = by (is_underscore c)
  where
    by : (u : Bool) → (if u then a else 10 * a + (c - 48)) % m ≡ (if u then b else 10 * b + (c - 48)) % m
    by true = e
    by false = sym (mod-add-mod (10 * a) m (c - 48)) ∙ ap (λ n. (n + (c - 48)) % m) (mul_low 10 m a b e) ∙ mod-add-mod (10 * b) m (c - 48)

fold_low : (m a b : ℕ) (ds : Text) → a % m ≡ b % m → fold with_digit a ds % m ≡ fold with_digit b ds % m
fold_low m a b [] e = e
fold_low m a b (c ∷ cs) e = fold_low m (with_digit a c) (with_digit b c) cs (with_digit_low m a b c e)

-- one digit more, of which the lowest bits are kept
pub low_step : (m : ℕ) (ds : Text) (i n next all : ℕ) → i < length ds → next ≡ with_digit n (get_or ds i 0) % m →
    fold with_digit n (drop i ds) % m ≡ all → fold with_digit next (drop (i + 1) ds) % m ≡ all
low_step m ds i n next all within is same =
    ap (λ xs. fold with_digit next xs % m) (ap (λ j. drop j ds) (add-one i))
    ∙ fold_low m next (with_digit n (get_or ds i 0)) (drop (suc i) ds) (ap (λ k. k % m) is ∙ mod-mod (with_digit n (get_or ds i 0)) m)
    ∙ ap (λ xs. fold with_digit n xs % m) (sym (drop-cons ds i 0 within))
    ∙ same

-- ---- sizes, at most 64

with_digit_small : (a b c : ℕ) → min 64 a ≡ min 64 b → min 64 (with_digit a c) ≡ min 64 (with_digit b c)
with_digit_small a b c e = by (is_underscore c)
  where
    by : (u : Bool) → min 64 (if u then a else 10 * a + (c - 48)) ≡ min 64 (if u then b else 10 * b + (c - 48))
    by true = e
    by false = omega arith

fold_small : (a b : ℕ) (ds : Text) → min 64 a ≡ min 64 b → min 64 (fold with_digit a ds) ≡ min 64 (fold with_digit b ds)
fold_small a b [] e = e
fold_small a b (c ∷ cs) e = fold_small (with_digit a c) (with_digit b c) cs (with_digit_small a b c e)

pub small_step : (ds : Text) (i n next all : ℕ) → i < length ds → next ≡ min 64 (with_digit n (get_or ds i 0)) →
    min 64 (fold with_digit n (drop i ds)) ≡ all → min 64 (fold with_digit next (drop (i + 1) ds)) ≡ all
small_step ds i n next all within is same =
    ap (λ xs. min 64 (fold with_digit next xs)) (ap (λ j. drop j ds) (add-one i))
    ∙ fold_small next (with_digit n (get_or ds i 0)) (drop (suc i) ds) (twice next (with_digit n (get_or ds i 0)) is)
    ∙ ap (λ xs. min 64 (fold with_digit n xs)) (sym (drop-cons ds i 0 within))
    ∙ same
  where
    twice : (p q : ℕ) → p ≡ min 64 q → min 64 p ≡ min 64 q
    twice p q e = omega arith

-- ---- the lowest bits are enough for a vector

digits_low : (n k : ℕ) → digits n (k % 2 ^ n) ≡ digits n k
digits_low n k =
    sym (digits-letters_of n (k % 2 ^ n)) ∙ ap (λ z. letters_of n (k % 2 ^ n) z) (sym (zero_low n)) ∙ letters_of-low n k 0 ∙ digits-letters_of n k

pub of_low_number : (size n : ℕ) → size ≤ 64 → of_number size (n % 2 ^ 64) ≡ of_number size n
unfolding of_number
of_low_number size n few = λ i. record { letters = same i; signed = false }
  where
    split : (j : ℕ) → j + size ≡ 64 → n % 2 ^ 64 % 2 ^ size ≡ n % 2 ^ size
    split j e = ap (λ w. n % 2 ^ w % 2 ^ size) (sym e) ∙ mod-mod-pow n j size

    rest : (64 - size) + size ≡ 64
    rest = omega arith

    same : digits size (n % 2 ^ 64) ≡ digits size n
    same = sym (digits_low size (n % 2 ^ 64)) ∙ ap (digits size) (split (64 - size) rest) ∙ digits_low size n

-- ---- letters that come in on the right

take_within : (n m : ℕ) (xs ys : List Bit4) → n ≤ length xs + m → take n (xs ++ take m ys) ≡ take n (xs ++ ys)
take_within zero m xs ys h = refl
take_within (suc n) zero [] ys h = absurd (omega arith)
take_within (suc n) (suc m) [] [] h = refl
take_within (suc n) (suc m) [] (y ∷ ys) h = ap (λ l. y ∷ l) (take_within n m [] ys (omega arith))
take_within (suc n) m (x ∷ xs) ys h = ap (λ l. x ∷ l) (take_within n m xs ys (omega arith))

length_digits : (n k : ℕ) → length (digits n k) ≡ n
length_digits zero k = refl
length_digits (suc n) k = ap suc (length_digits n (k / 2))

pub length_digit_letters : (count c : ℕ) → length (digit_letters count c) ≡ count
length_digit_letters count c = by (is_x_digit c) (is_z_digit c)
  where
    by : (x z : Bool) → length (if x then replicate count X else if z then replicate count Z else digits count (digit_value c)) ≡ count
    by true z = length-replicate count X
    by false true = length-replicate count Z
    by false false = length_digits count (digit_value c)

module _ (count c : ℕ) where
  pub x_letters : is_x_digit c ≡ true → (filled count X).letters ≡ digit_letters count c
  unfolding filled
  x_letters x = sym (ap (λ b. if b then replicate count X else if is_z_digit c then replicate count Z else digits count (digit_value c)) x)

  pub z_letters : is_x_digit c ≡ false → is_z_digit c ≡ true → (filled count Z).letters ≡ digit_letters count c
  unfolding filled
  z_letters x z = sym (λ i. if x i then replicate count X else if z i then replicate count Z else digits count (digit_value c))

  pub known_letters : is_x_digit c ≡ false → is_z_digit c ≡ false → (of_number count (digit_value c)).letters ≡ digit_letters count c
  unfolding of_number
  known_letters x z = sym (λ i. if x i then replicate count X else if z i then replicate count Z else digits count (digit_value c))

pub decimal_known : (size : ℕ) (ds : Text) → is_unknown (filling_letters ds) ≡ false → of_number size (spelled_number ds) ≡ decimal_value size ds
decimal_known size ds known = sym (ap (λ b. if b then filled size (filling_letters ds) else of_number size (spelled_number ds)) known)

-- the letters after one digit more
abbrev pub shifted : ℕ → ℕ → List Bit4 → List Bit4
shifted count c old = if is_underscore c then old else digit_letters count c ++ take (64 - count) old

pub length_shifted : (count c : ℕ) (old : List Bit4) → count ≤ 64 → length old ≡ 64 → length (shifted count c old) ≡ 64
length_shifted count c old few whole = by (is_underscore c)
  where
    by : (u : Bool) → length (if u then old else digit_letters count c ++ take (64 - count) old) ≡ 64
    by true = whole
    by false =
        length-append (digit_letters count c) (take (64 - count) old)
        ∙ ap (λ n. n + length (take (64 - count) old)) (length_digit_letters count c)
        ∙ ap (λ n. count + n) (length-take-le (64 - count) old (omega arith))
        ∙ omega arith

pub shifted_step : (count : ℕ) (ds : Text) (i : ℕ) (old next all : List Bit4) → count ≤ 64 → i < length ds → next ≡ shifted count (get_or ds i 0) old →
    take 64 (spelled_letters count (drop i ds) ++ old) ≡ all → take 64 (spelled_letters count (drop (i + 1) ds) ++ next) ≡ all
shifted_step count ds i old next all few within is same =
    ap (λ xs. take 64 (spelled_letters count xs ++ next)) (ap (λ j. drop j ds) (add-one i))
    ∙ ap (λ l. take 64 (spelled_letters count (drop (suc i) ds) ++ l)) is
    ∙ one (get_or ds i 0) (drop (suc i) ds)
    ∙ ap (λ xs. take 64 (spelled_letters count xs ++ old)) (sym (drop-cons ds i 0 within))
    ∙ same
  where
    by : (u : Bool) (c : ℕ) (cs : Text) →
        take 64 (spelled_letters count cs ++ (if u then old else digit_letters count c ++ take (64 - count) old))
        ≡ take 64 ((if u then spelled_letters count cs else spelled_letters count cs ++ digit_letters count c) ++ old)
    by true c cs = refl
    by false c cs =
        ap (take 64) (sym (append_assoc (spelled_letters count cs) (digit_letters count c) (take (64 - count) old)))
        ∙ take_within 64 (64 - count) (spelled_letters count cs ++ digit_letters count c) old (enough (length_digit_letters count c) (length-append (spelled_letters count cs) (digit_letters count c)))
      where
        enough : length (digit_letters count c) ≡ count → length (spelled_letters count cs ++ digit_letters count c) ≡ length (spelled_letters count cs) + length (digit_letters count c) →
            64 ≤ length (spelled_letters count cs ++ digit_letters count c) + (64 - count)
        enough e f = omega arith

    one : (c : ℕ) (cs : Text) → take 64 (spelled_letters count cs ++ shifted count c old) ≡ take 64 (spelled_letters count (c ∷ cs) ++ old)
    one c cs = by (is_underscore c) c cs

-- the lowest letters of what was read are the number
pub lettered_from : (size count : ℕ) (ds : Text) (i : ℕ) (value : Vector) → 1 ≤ size → size ≤ 64 → length ds ≤ i → length value.letters ≡ 64 →
    take 64 (spelled_letters count (drop i ds) ++ value.letters) ≡ take 64 (spelled_letters count ds ++ replicate 64 (filling_letters ds)) →
    select value (size - 1) 0 ≡ lettered_value size count ds
unfolding select
lettered_from size count ds i value some few end whole same = λ i. record { letters = (ap (λ n. take n value.letters) all ∙ lowest) i; signed = false }
  where
    all : size - 1 + 1 - 0 ≡ size
    all = omega arith

    last : take 64 value.letters ≡ take 64 (spelled_letters count ds ++ replicate 64 (filling_letters ds))
    last = ap (λ xs. take 64 (spelled_letters count xs ++ value.letters)) (sym (drop_of_length-le ds end)) ∙ same

    lowest : take size value.letters ≡ take size (spelled_letters count ds ++ replicate 64 (filling_letters ds))
    lowest =
        sym (take_within size 64 [] value.letters few)
        ∙ ap (take size) last
        ∙ take_within size 64 [] (spelled_letters count ds ++ replicate 64 (filling_letters ds)) few

-- what is shifted in comes behind the letters that are kept
pub concat_shifted : (count c : ℕ) (value letters : Vector) → count ≤ 63 → is_underscore c ≡ false → letters.letters ≡ digit_letters count c →
    (concat (select value (63 - count) 0) letters).letters ≡ shifted count c value.letters
unfolding select concat
concat_shifted count c value letters few other is =
    ap (λ n. letters.letters ++ take n value.letters) kept
    ∙ ap (λ l. l ++ take (64 - count) value.letters) is
    ∙ sym (ap (λ b. if b then value.letters else digit_letters count c ++ take (64 - count) value.letters) other)
  where
    kept : 63 - count + 1 - 0 ≡ 64 - count
    kept = omega arith

-- ---- constants

pub plain_from : (ds : Text) (n : ℕ) (value signed : Vector) → n ≡ spelled_number ds % 2 ^ 64 → value ≡ of_number 32 n → signed ≡ with_sign value true →
    let made : Constant = record { value = signed; spreads = false } in made ≡ plain_constant ds
plain_from ds n value signed low is marked = λ i. record { value = (marked ∙ ap (λ v. with_sign v true) number) i; spreads = false }
  where
    number : value ≡ of_number 32 (spelled_number ds)
    number = is ∙ ap (of_number 32) low ∙ of_low_number 32 (spelled_number ds) (lit≤ tt)

pub based_from : (size text behind rest : Text) (marked spreads : Bool) (n base : ℕ) (value signed : Vector) → marked ≡ is_marked text → behind ≡ without_mark text →
    n ≡ size_of size → base ≡ first_byte behind → rest ≡ skip_blanks (drop 1 behind) → value ≡ based_value n base rest → signed ≡ with_sign value marked → spreads ≡ spreads_by size marked value →
    let made : Constant = record { value = signed; spreads = spreads } in made ≡ based_constant size text
based_from size text behind rest marked spreads n base value signed mark behind_is n_is base_is rest_is value_is signed_is spreads_is =
    λ i. record { value = (signed_is ∙ (λ j. with_sign (number j) (mark j))) i; spreads = (spreads_is ∙ (λ j. spreads_by size (mark j) (number j))) i }
  where
    number : value ≡ based_value (size_of size) (first_byte (without_mark text)) (digits_behind text)
    number = value_is ∙ (λ i. based_value (n_is i) ((base_is ∙ ap first_byte behind_is) i) ((rest_is ∙ ap (λ l. skip_blanks (drop 1 l)) behind_is) i))

-- how many letters stand behind the lost ones and the new ones
pub length_both : (count c : ℕ) (value selection_of letters : Vector) → count ≤ 63 → length value.letters ≡ 64 → selection_of ≡ select value (63 - count) 0 →
    letters.letters ≡ digit_letters count c → length selection_of.letters + length letters.letters ≤ 64
unfolding select
length_both count c value selection_of letters few whole is digit_is = sums (length selection_of.letters) (length letters.letters) kept (ap length digit_is ∙ length_digit_letters count c)
  where
    kept : length selection_of.letters ≡ 63 - count + 1 - 0
    kept = ap (λ (v : Vector). length v.letters) is ∙ length-take-le (63 - count + 1 - 0) value.letters (omega arith)

    sums : (a b : ℕ) → a ≡ 63 - count + 1 - 0 → b ≡ count → a + b ≤ 64
    sums a b e f = omega arith

pub is_other : (c : ℕ) → (c ≡ 95 → ⊥) → is_underscore c ≡ false
is_other c other = grind (arith, nat_tests)

pub all_behind : (n : ℕ) (text : Text) → take (length text - n) (drop n text) ≡ drop n text
all_behind n text = ap (λ k. take k (drop n text)) (sym (length-drop n text)) ∙ take-length (drop n text)

pub length_filled : (n : ℕ) (l : Bit4) → length (filled n l).letters ≡ n
unfolding filled
length_filled n l = length-replicate n l

pub filled_letters : (n : ℕ) (l : Bit4) → (filled n l).letters ≡ replicate n l
unfolding filled
filled_letters n l = refl
