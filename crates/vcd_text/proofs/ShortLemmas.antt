-- Digits that were left out come back.
use Rattle.std.proofs.Common.{◌≡◌, ℕ, suc, ◌-◌, ◌≤◌, Bool, true, List, [], ◌∷◌, ◌++◌, cond, get_or, length, replicate, refl, sym, ap, subst, ◌∙◌, arith, inl, inr}
use Rattle.std.specs.Prelude.{◌==◌}
use Rattle.std.proofs.lemmas.Bool.{cases_Bool}
use Rattle.std.proofs.lemmas.Bool.Decides.{nat_tests}
use Rattle.vcd_text.specs.DumpText.{extension, short_digits}
use Rattle.vcd_text.specs.Readers.{left_fill, full_digits}
use Rattle.vmodel.proofs.ProcessLemmas.{same_back}

-- a reader fills in what the writer leaves out, and behind it the same again
fill_is_extension : (d : ℕ) → left_fill d ≡ extension d
fill_is_extension d = grind (arith, nat_tests)

fill_of_extension : (d : ℕ) → left_fill (extension d) ≡ extension d
fill_of_extension d = grind (arith, nat_tests)

abbrev fill_of : List ℕ → ℕ
fill_of digits = left_fill (get_or digits 0 48)

-- what is left of the digits is extended to them
record IsBack (digits left : List ℕ) : Type 0 where
  shorter : length left ≤ length digits
  fill : fill_of left ≡ fill_of digits
  whole : full_digits (length digits) left ≡ digits

nothing_out : (digits : List ℕ) → IsBack digits digits
nothing_out digits =
    let none : length digits - length digits ≡ 0 = omega arith in
    record { shorter = omega arith; fill = refl; whole = ap (λ k. replicate k (fill_of digits) ++ digits) none }

-- one digit more is left out
one_out : (d e : ℕ) (digits left : List ℕ) → d ≡ extension e → IsBack (e ∷ digits) left → IsBack (d ∷ e ∷ digits) left
one_out d e digits left is b =
    let fill : fill_of left ≡ d = b.fill ∙ fill_is_extension e ∙ sym is in
    let again : left_fill d ≡ d = ap left_fill is ∙ fill_of_extension e ∙ sym is in
    let count : suc (length (e ∷ digits)) - length left ≡ suc (length (e ∷ digits) - length left) = omega (arith, b.shorter) in
    record {
      shorter = omega (arith, b.shorter);
      fill = fill ∙ sym again;
      whole = ap (λ k. replicate k (fill_of left) ++ left) count ∙ (λ i. fill i ∷ b.whole i);
    }

is_back : (digits : List ℕ) → IsBack digits (short_digits digits)
is_back [] = nothing_out []
is_back (d ∷ []) = nothing_out (d ∷ [])
is_back (d ∷ e ∷ digits) =
    let by : Bool → List ℕ = λ b. cond b (short_digits (e ∷ digits)) (d ∷ e ∷ digits) in
    elim (cases_Bool (d == extension e)) [
      | inl out ↦ subst (IsBack (d ∷ e ∷ digits)) (sym (ap by out)) (one_out d e digits (short_digits (e ∷ digits)) (same_back d (extension e) out) (is_back (e ∷ digits)))
      | inr stays ↦ subst (IsBack (d ∷ e ∷ digits)) (sym (ap by stays)) (nothing_out (d ∷ e ∷ digits))
    ]

pub digits_back : (digits : List ℕ) → full_digits (length digits) (short_digits digits) ≡ digits
digits_back digits = (is_back digits).whole
