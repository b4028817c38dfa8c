-- *internal*: Tests that decide equality, of lists and of options by those of their items (laws with their proofs).
use Rattle.std.specs.Prelude.{◌≡◌, Bool, Some, None, Decides, refl}
use Rattle.std.proofs.Common.{ap}
use Rattle.std.specs.Option.{option_eq}
use Rattle.std.specs.Cmp.Lexicographic.{pointwise}
use Rattle.std.proofs.lemmas.Slice.Eq.{slice_eq-Decides}
use Rattle.std.proofs.lemmas.Bool.Decides.{Decides-like}

-- the test decides equality
abbrev pub Tells : {A : Type 0} → (A → A → Bool) → Type 0
Tells {A} same = (x y : A) → Decides (same x y) (x ≡ y)

pub list_tells : {A : Type 0} (same : A → A → Bool) → Tells same → Tells (pointwise same)
list_tells same each xs ys = slice_eq-Decides each xs ys (pointwise same xs ys) refl

pub option_tells : {A : Type 0} (same : A → A → Bool) → Tells same → Tells (option_eq same)
option_tells same each None None = (λ h. refl, λ h. refl)
option_tells same each (Some x) (Some y) = Decides-like (same x y) (λ (h : x ≡ y). ap Some h) (λ h. cc) (each x y)
option_tells same each _ _ = (λ h. cc, λ h. cc)
