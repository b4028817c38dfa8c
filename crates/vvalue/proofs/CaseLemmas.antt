-- Letters of a `case` that are compared one by one, and the leftmost letter of a count.
use Rattle.std.proofs.Common.{◌≡◌, ◌≤◌, ◌-◌, ℕ, zero, suc, ◌+◌, Bool, true, false, ◌&&◌, cond, List, [], ◌∷◌, length, drop, get_or, Some, refl, sym, ap, ◌∙◌, arith}
use Rattle.std.specs.Prelude.{slice_get}
use Rattle.vwords.specs.declared.cases.CaseKind.{CaseKind}
use Rattle.vbits.specs.declared.bit4.Bit4.{Bit4}
use Rattle.vbits.specs.declared.bit4.Bit4.TheVariants.{Zero}
use Rattle.vbits.specs.Vectors.{Vector, sign_letter}
use Rattle.vvalue.specs.Cases.{passes, all_pass}

pub pass_from : (kind : CaseKind) (i : ℕ) (xs ys : List Bit4) (x y : Bit4) → slice_get xs i ≡ Some x → slice_get ys i ≡ Some y →
    all_pass kind (drop i xs) (drop i ys) ≡ (passes kind x y && all_pass kind (drop (suc i) xs) (drop (suc i) ys))
pass_from kind i [] ys x y at_x at_y = cc
pass_from kind i (a ∷ xs) [] x y at_x at_y = cc
pass_from kind zero (a ∷ xs) (b ∷ ys) x y at_x at_y =
    let is_x : a ≡ x = cc in
    let is_y : b ≡ y = cc in
    λ i. passes kind (is_x i) (is_y i) && all_pass kind xs ys
pass_from kind (suc i) (a ∷ xs) (b ∷ ys) x y at_x at_y = pass_from kind i xs ys x y at_x at_y

-- one place passes, and the places behind it decide
pub passed : (kind : CaseKind) (i : ℕ) (xs ys : List Bit4) (x y : Bit4) (all : Bool) → slice_get xs i ≡ Some x → slice_get ys i ≡ Some y →
    all_pass kind (drop i xs) (drop i ys) ≡ all → passes kind x y ≡ true → all_pass kind (drop (i + 1) xs) (drop (i + 1) ys) ≡ all
passed kind i xs ys x y all at_x at_y so_far pass =
    let next : i + 1 ≡ suc i = omega arith in
    ap (λ n. all_pass kind (drop n xs) (drop n ys)) next
    ∙ sym (ap (λ p. p && all_pass kind (drop (suc i) xs) (drop (suc i) ys)) pass)
    ∙ sym (pass_from kind i xs ys x y at_x at_y) ∙ so_far

-- one place doesn't
pub failed : (kind : CaseKind) (i : ℕ) (xs ys : List Bit4) (x y : Bit4) (all : Bool) → slice_get xs i ≡ Some x → slice_get ys i ≡ Some y →
    all_pass kind (drop i xs) (drop i ys) ≡ all → passes kind x y ≡ false → false ≡ all
failed kind i xs ys x y all at_x at_y so_far pass =
    sym (ap (λ p. p && all_pass kind (drop (suc i) xs) (drop (suc i) ys)) pass)
    ∙ sym (pass_from kind i xs ys x y at_x at_y) ∙ so_far

-- no place is left
pub all_passed : (kind : CaseKind) (i : ℕ) (xs ys : List Bit4) (all : Bool) → length xs ≤ i → all_pass kind (drop i xs) (drop i ys) ≡ all →
    true ≡ all
all_passed kind i [] ys all end so_far = none i ∙ so_far
  where
    none : (i : ℕ) → true ≡ all_pass kind (drop i []) (drop i ys)
    none zero = refl
    none (suc i) = refl
all_passed kind zero (x ∷ xs) ys all end so_far = absurd (omega (arith, end))
all_passed kind (suc i) (x ∷ xs) [] all end so_far = all_passed kind i xs [] all (omega (arith, end)) (none (drop i xs) i ∙ so_far)
  where
    none : (zs : List Bit4) (i : ℕ) → all_pass kind zs (drop i []) ≡ all_pass kind zs []
    none zs zero = refl
    none zs (suc i) = refl
all_passed kind (suc i) (x ∷ xs) (y ∷ ys) all end so_far = all_passed kind i xs ys all (omega (arith, end)) so_far

get_is : (xs : List Bit4) (i : ℕ) (x : Bit4) → slice_get xs i ≡ Some x → x ≡ get_or xs i Zero
get_is [] i x at = cc
get_is (y ∷ xs) zero x at = cc
get_is (y ∷ xs) (suc i) x at = get_is xs i x at

pub sign_of_signed : (v : Vector) (x : Bit4) → v.signed ≡ true → slice_get v.letters (length v.letters - 1) ≡ Some x → x ≡ sign_letter v
unfolding sign_letter
sign_of_signed v x signed at =
    get_is v.letters (length v.letters - 1) x at ∙ sym (ap (λ s. cond s (get_or v.letters (length v.letters - 1) Zero) Zero) signed)

pub sign_of_unsigned : (v : Vector) → v.signed ≡ false → Zero ≡ sign_letter v
unfolding sign_letter
sign_of_unsigned v signed = sym (ap (λ s. cond s (get_or v.letters (length v.letters - 1) Zero) Zero) signed)
