-- A part that is written, by what it leaves of its variable.
use Rattle.std.proofs.Common.{◌≡◌, ℕ, zero, suc, List, [], ◌∷◌, refl, ap}
use Rattle.std.specs.Prelude.{slice_set}
use Rattle.vbits.specs.Vectors.{Vector}
use Rattle.vmodel.specs.declared.part.Part.{Part}
use Rattle.vmodel.specs.declared.part.Part.TheVariants.{Whole, Bits}
use Rattle.vmodel.specs.Inner.{variable_of}
use Rattle.vmodel.specs.Parts.{value_in, with_bits, write, with_parts}

set_back : (values : List Vector) (n : ℕ) (v : Vector) → slice_set values n (value_in (slice_set values n v) n) ≡ slice_set values n v
set_back [] n v = refl
set_back (x ∷ xs) zero v = refl
set_back (x ∷ xs) (suc n) v = ap (λ (ys : List Vector). x ∷ ys) (set_back xs n v)

-- the values after the part, made by setting its variable to what it has then
pub written_by : (part : Part) (values : List Vector) →
    slice_set values (variable_of part) (value_in (with_parts (part ∷ []) values) (variable_of part)) ≡ write part values
written_by (Whole n value) values = set_back values n value
written_by (Bits n low value) values = set_back values n (with_bits (value_in values n) low value)
