-- Codes and digits.
use Rattle.std.proofs.Common.{◌≡◌, ◌<◌, ◌≤◌, ◌+◌, ◌-◌, ℕ, zero, suc, Bool, true, false, cond, ◌&&◌, ◌==◌, List, [], ◌∷◌, ◌++◌, length, take, drop, set, get_or, map, reverse, Some, None, drop-cons, append_assoc, refl, sym, ap, ◌∙◌, add-one, arith}
use Rattle.std.proofs.lemmas.Bool.Decides.{nat_tests}
use Rattle.std.specs.Prelude.{slice_get}
use Rattle.std.proofs.lemmas.List.{reverse-append, take_more}
use Rattle.std.proofs.lemmas.Option.{slice_get_within, get_or_from_slice_get}
use Rattle.vbits.specs.declared.bit4.Bit4.{Bit4}
use Rattle.vbits.specs.declared.bit4.Bit4.TheVariants.{Zero, One}
use Rattle.vbits.specs.Vectors.{Vector, case_eq, single, same_letters}
use Rattle.vbits.specs.Numbers.{number}
use Rattle.vcd_text.specs.DumpText.{following, short_digits, is_kept}
use Rattle.vcd_text.proofs.CodeLemmas.{following_less}
use Rattle.value_text.specs.ValueText.{binary_digit as digit}

set_parts : (xs : List ℕ) (i v : ℕ) → i < length xs → set xs i v ≡ take i xs ++ v ∷ drop (suc i) xs
set_parts [] i v lt = absurd (omega arith)
set_parts (x ∷ xs) zero v lt = refl
set_parts (x ∷ xs) (suc i) v lt = ap (λ rest. x ∷ rest) (set_parts xs i v (omega arith))

-- a digit below the last one goes one on, and the code is complete
pub followed : (xs ys : List ℕ) (i c : ℕ) → take i xs ++ following (drop i ys) ≡ following ys → drop i xs ≡ drop i ys → i < length xs →
    c ≡ get_or xs i c → c < 126 → set xs i (c + 1) ≡ following ys
followed xs ys i c so_far same within is lt =
    ap (set xs i) (add-one c)
    ∙ set_parts xs i (suc c) within
    ∙ ap (λ (rest : List ℕ). take i xs ++ rest)
    (sym (ap following (sym same ∙ drop-cons xs i c within ∙ ap (λ (d : ℕ). d ∷ drop (suc i) xs) (sym is))
    ∙ following_less c (drop (suc i) xs) lt))
    ∙ so_far

pub shortened_short : (ds : List ℕ) → length ds ≤ 1 → short_digits ds ≡ ds
shortened_short [] le = refl
shortened_short (d ∷ []) le = refl
shortened_short (d ∷ e ∷ ds) le = absurd (omega arith)

-- what `===` says of two values of one length, as a number
by_test : (same : Bool) (n : ℕ) → Some n ≡ number (cond same One Zero ∷ []) → (n == 1) ≡ same
by_test true n e = let is : n ≡ 1 = cc in ap (λ (m : ℕ). m == 1) is
by_test false n e = let is : n ≡ 0 = cc in ap (λ (m : ℕ). m == 1) is

never_unknown : (same : Bool) → None ≡ number (cond same One Zero ∷ []) → ⊥
never_unknown true e = cc
never_unknown false e = cc

pub kept_by_number : (u v : Vector) (n : ℕ) → Some n ≡ number (case_eq u v).letters → length u.letters ≡ length v.letters → (n == 1) ≡ is_kept u v
unfolding case_eq single
kept_by_number u v n e long =
    let test : (length u.letters == length v.letters) ≡ true = grind (arith, nat_tests) in
    by_test (same_letters u.letters v.letters) n e ∙ sym (ap (λ b. b && same_letters u.letters v.letters) test)

pub always_known : (u v : Vector) → None ≡ number (case_eq u v).letters → ⊥
unfolding case_eq single
always_known u v e = never_unknown (same_letters u.letters v.letters) e
