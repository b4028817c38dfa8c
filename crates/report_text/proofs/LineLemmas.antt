-- Which bytes the words of a report lack.
use Rattle.std.proofs.Common.{◌≡◌, ◌≢◌, ℕ, ◌^◌, ◌<◌, Bool, true, false, List, [], ◌∷◌, ◌++◌, arith, ap, refl}
use Rattle.std.specs.List.{list_all}
use Rattle.std.specs.Str.{all_ascii_digits}
use Rattle.std.specs.Char.{is_ascii_digit}
use Rattle.std.specs.Fmt.{decimal}
use Rattle.std.proofs.lemmas.Bool.Decides.{nat_tests}
use Rattle.basis.proofs.Bools.{and_left, and_right, and_both}
use Rattle.report_text.specs.Inner.Fronts.{lacks, IsCut}
use Rattle.report_text.specs.Inner.Places.{IsNumberFront}
use Rattle.basis.proofs.Decimals.{decimal_digits}

-- a text of bytes that pass a test lacks each byte that doesn't
pub lacks_by : (test : ℕ → Bool) (b : ℕ) → test b ≡ false → (xs : List ℕ) → list_all test xs ≡ true → lacks b xs ≡ true
lacks_by test b not_b [] h = refl
lacks_by test b not_b (x ∷ xs) h =
    let other : x ≢ b = λ e. (let t : test x ≡ true = and_left _ _ h in let s : test x ≡ test b = ap test e in cc) in
    and_both _ _ (grind (arith, nat_tests, other)) (lacks_by test b not_b xs (and_right _ _ h))

digits_all : (ds : List ℕ) → all_ascii_digits ds ≡ true → list_all is_ascii_digit ds ≡ true
digits_all [] h = refl
digits_all (d ∷ ds) h = and_both _ _ (and_left _ _ h) (digits_all ds (and_right _ _ h))

pub decimal_lacks : (b n : ℕ) → is_ascii_digit b ≡ false → n < 2 ^ 64 → lacks b (decimal n) ≡ true
decimal_lacks b n h small = lacks_by is_ascii_digit b h (decimal n) (digits_all (decimal n) (decimal_digits n small))

pub number_cut : (b n : ℕ) (text rest : List ℕ) → is_ascii_digit b ≡ false → IsNumberFront b text n rest → IsCut b text (decimal n) rest
number_cut b n text rest h f = (decimal_lacks b n h f.0, f.1)

pub lacks_append : (b : ℕ) (xs ys : List ℕ) → lacks b xs ≡ true → lacks b ys ≡ true → lacks b (xs ++ ys) ≡ true
lacks_append b [] ys p q = q
lacks_append b (x ∷ xs) ys p q = and_both _ _ (and_left _ _ p) (lacks_append b xs ys (and_right _ _ p) q)
