-- Values of variables, as lines tell them.
use Rattle.std.proofs.Common.{◌≡◌, ℕ, zero, suc, true, List, [], ◌∷◌, map, reverse, slice_get, Some, refl, sym, subst, append-nil}
use Rattle.std.specs.List.{list_all}
use Rattle.std.proofs.lemmas.Option.{same_Some}
use Rattle.vbits.specs.declared.bit4.Bit4.{Bit4}
use Rattle.vbits.specs.declared.bit4.Bit4.TheVariants.{Zero, One, X, Z}
use Rattle.vbits.specs.Vectors.{Vector}
use Rattle.vdesign.specs.Design.{Variable}
use Rattle.vmodel.specs.Kept.{AreShaped, HasShape}
use Rattle.report_text.specs.WellFormed.{IsLineOf, IsValue, is_digit}
use Rattle.vreport.specs.Truth.{column_of}
use Rattle.vreport.specs.Values.{values_line}
use Rattle.vreport.proofs.TextOrderLemmas.{text_length}
use Rattle.value_text.specs.ValueText.{binary, binary_digit as digit}

all_digits : (letters : List Bit4) → list_all is_digit (map digit letters) ≡ true
all_digits [] = refl
all_digits (Zero ∷ letters) = all_digits letters
all_digits (One ∷ letters) = all_digits letters
all_digits (X ∷ letters) = all_digits letters
all_digits (Z ∷ letters) = all_digits letters

pub shaped_value : (variable : Variable) (value : Vector) → HasShape variable value → IsValue variable.length (binary value)
shaped_value variable value shape = subst (λ n. IsValue n (binary value)) shape.0 (text_length value.letters, all_digits (reverse value.letters))

pub shaped_line : (variables : List Variable) (values : List Vector) → AreShaped variables values → IsLineOf (map column_of variables) (values_line values)
shaped_line [] [] shaped = refl
shaped_line [] (v ∷ vs) shaped = absurd shaped
shaped_line (x ∷ xs) [] shaped = absurd shaped
shaped_line (x ∷ []) (v ∷ []) shaped = subst (IsValue x.length) (sym (append-nil (binary v))) (shaped_value x v shaped.0)
shaped_line (x ∷ []) (v ∷ w ∷ vs) shaped = absurd shaped.1
shaped_line (x ∷ y ∷ xs) (v ∷ []) shaped = absurd shaped.1
shaped_line (x ∷ y ∷ xs) (v ∷ w ∷ vs) shaped = (binary v, values_line (w ∷ vs), shaped_value x v shaped.0, shaped_line (y ∷ xs) (w ∷ vs) shaped.1, refl)

-- each value is that of a variable
pub its_variable : (variables : List Variable) (values : List Vector) (i : ℕ) (value : Vector) → AreShaped variables values → slice_get values i ≡ Some value →
    (variable : Variable) × (slice_get variables i ≡ Some variable) × HasShape variable value
its_variable variables [] i value shaped at = absurd cc
its_variable [] (v ∷ vs) i value shaped at = absurd shaped
its_variable (x ∷ xs) (v ∷ vs) zero value shaped at = (x, refl, subst (HasShape x) (same_Some v value at) shaped.0)
its_variable (x ∷ xs) (v ∷ vs) (suc i) value shaped at = its_variable xs vs i value shaped.1 at
