-- A `repeat` with so many turns left.
use Rattle.std.proofs.Common.{◌≡◌, ◌≢◌, ℕ, zero, suc, List, ◌∷◌, refl, arith}
use Rattle.vmodel.specs.declared.frame.Frame.{Frame}
use Rattle.vmodel.specs.declared.frame.Frame.TheVariants.{Repeating}
use Rattle.vmodel.specs.Step.{turns_left}

pub turning_left : (place n : ℕ) (after : List Frame) → n ≢ 0 → turns_left place n after ≡ Repeating place n ∷ after
turning_left place zero after some = absurd (some refl)
turning_left place (suc n) after some = refl

pub turning_done : (place n : ℕ) (after : List Frame) → n ≡ 0 → turns_left place n after ≡ after
turning_done place zero after none = refl
turning_done place (suc n) after none = absurd (omega (arith, none))
