-- Times in another unit.
use Rattle.std.proofs.Common.{◌≡◌, ℕ, ◌+◌, ◌*◌, ◌/◌, ◌%◌, ◌<◌, List, [], ◌∷◌, ◌++◌, Option, None, Some, SomeIff, IfSome, ap, sym, ◌∙◌, arith}
use Rattle.std.proofs.Math.Nat.{div-add-mod, mul_assoc, mul_comm}
use Rattle.vcd_read.specs.Commands.{Item}
use Rattle.vcd_slots.specs.Units.{AreInUnit}
use Rattle.vcd_slots.specs.declared.units.Units.{Units}

-- what is divided without rest is a product
whole : (n m : ℕ) → n % m ≡ 0 → n ≡ m * (n / m)
whole n m none = let all : m * (n / m) + n % m ≡ n = div-add-mod n m in omega arith

by_product : (time told shown now : ℕ) → told % shown ≡ 0 → now ≡ time * (told / shown) → time * told ≡ now * shown
by_product time told shown now none is =
    ap (λ (k : ℕ). time * k) (whole told shown none ∙ mul_comm shown (told / shown)) ∙ sym (mul_assoc time (told / shown) shown)
    ∙ ap (λ (k : ℕ). k * shown) (sym is)

pub if_product : (time told shown most : ℕ) (result : Option ℕ) → told % shown ≡ 0 → SomeIff result (time * (told / shown) < most) (time * (told / shown)) →
    IfSome result (λ now. time * told ≡ now * shown)
if_product time told shown most None none product = tt
if_product time told shown most (Some now) none product = by_product time told shown now none product.1

pub by_quotient : (time told shown : ℕ) → shown % told ≡ 0 → time % (shown / told) ≡ 0 → time * told ≡ time / (shown / told) * shown
by_quotient time told shown none rest =
    let parts : ℕ = shown / told in
    ap (λ (k : ℕ). k * told) (whole time parts rest ∙ mul_comm parts (time / parts)) ∙ mul_assoc (time / parts) parts told
    ∙ ap (λ (k : ℕ). time / parts * k) (mul_comm parts told ∙ sym (whole shown told none))

pub units_then : (units : Units) (a b c d : List Item) → AreInUnit units a b → AreInUnit units c d → AreInUnit units (a ++ c) (b ++ d)
units_then units [] [] c d x y = y
units_then units [] (item ∷ b) c d x y = absurd x
units_then units (told ∷ a) [] c d x y = absurd x
units_then units (told ∷ a) (item ∷ b) c d x y = (x.0, units_then units a b c d x.1 y)
