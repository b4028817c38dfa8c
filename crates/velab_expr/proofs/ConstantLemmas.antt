-- Signs of bounds.
use Rattle.std.proofs.Common.{◌≡◌, ℕ, ◌-◌, true, false, cond, length, get_or, slice_get, Some, sym, ap, ◌∙◌}
use Rattle.std.proofs.lemmas.Option.{unwrap_or-slice_get}
use Rattle.std.specs.Prelude.{unwrap_or}
use Rattle.vbits.specs.declared.bit4.Bit4.{Bit4}
use Rattle.vbits.specs.declared.bit4.Bit4.TheVariants.{Zero}
use Rattle.vbits.specs.Letters.{is_one}
use Rattle.vbits.specs.Vectors.{Vector, sign_letter}
use Rattle.velab_expr.specs.Constants.{is_negative}

pub unsigned_is_not : (v : Vector) → v.signed ≡ false → is_negative v ≡ false
unfolding sign_letter
unsigned_is_not v e = ap (λ b. is_one (cond b (get_or v.letters (length v.letters - 1) Zero) Zero)) e

pub signed_is : (v : Vector) (n : ℕ) (l : Bit4) → v.signed ≡ true → n ≡ length v.letters → slice_get v.letters (n - 1) ≡ Some l → is_one l ≡ is_negative v
unfolding sign_letter
signed_is v n l marked len at =
    sym (ap (λ b. is_one (cond b (get_or v.letters (length v.letters - 1) Zero) Zero)) marked
    ∙ ap is_one (ap (λ k. get_or v.letters (k - 1) Zero) (sym len) ∙ sym (unwrap_or-slice_get v.letters (n - 1) Zero) ∙ ap (λ o. unwrap_or o Zero) at))
