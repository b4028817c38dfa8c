-- What a vector's letters say of the planes behind it.
use Rattle.std.proofs.Common.{◌≡◌, ℕ, ◌==◌, Bool, ◌&&◌, length, sym, ◌∙◌, ap, Decides}
use Rattle.std.specs.Bool.{beq}
use Rattle.std.specs.Cmp.{booleans_Decides}
use Rattle.std.proofs.lemmas.Bool.Decides.{Decides-and, Decides-like, Decides-eqb}
use Rattle.vbits.specs.Planes.{letters_of, values_of, unknowns_of, Planes}
use Rattle.vbits.specs.PlanesBack.{length-letters_of, values_of-letters_of, unknowns_of-letters_of}
use Rattle.vbits.specs.Vectors.{Vector}

abbrev pub view_of : ℕ → ℕ → ℕ → Bool → Vector
view_of len value unknown signed = record { letters = letters_of len value unknown; signed = signed }

pub value_seen : (n v u : ℕ) (s : Bool) (w : Vector) → Planes n v u → view_of n v u s ≡ w → values_of w.letters ≡ v
value_seen n v u s w h e = ap (λ w. values_of w.letters) (sym e) ∙ values_of-letters_of n v u h.value_within

pub unknown_seen : (n v u : ℕ) (s : Bool) (w : Vector) → Planes n v u → view_of n v u s ≡ w → unknowns_of w.letters ≡ u
unknown_seen n v u s w h e = ap (λ w. unknowns_of w.letters) (sym e) ∙ unknowns_of-letters_of n v u h.unknown_within

pub len_seen : (n v u : ℕ) (s : Bool) (w : Vector) → view_of n v u s ≡ w → length w.letters ≡ n
len_seen n v u s w e = ap (λ w. length w.letters) (sym e) ∙ length-letters_of n v u

-- equal planes, lengths and marks make equal vectors, and equal vectors have them
pub seen_alike : (n m v w u x : ℕ) (s t : Bool) (a b : Vector) → Planes n v u → Planes m w x → view_of n v u s ≡ a → view_of m w x t ≡ b →
    Decides ((((v == w) && (u == x)) && (n == m)) && beq s t) (a ≡ b)
seen_alike n m v w u x s t a b h k p q =
    Decides-like ((((v == w) && (u == x)) && (n == m)) && beq s t)
    (λ (e : (((v ≡ w) × (u ≡ x)) × (n ≡ m)) × (s ≡ t)). sym p ∙ (λ i. view_of (e.0.1 i) (e.0.0.0 i) (e.0.0.1 i) (e.1 i)) ∙ q)
    (λ e. (
      (
        (
          sym (value_seen n v u s a h p) ∙ ap (λ (y : Vector). values_of y.letters) e ∙ value_seen m w x t b k q,
          sym (unknown_seen n v u s a h p) ∙ ap (λ (y : Vector). unknowns_of y.letters) e ∙ unknown_seen m w x t b k q,
        ),
        sym (len_seen n v u s a p) ∙ ap (λ (y : Vector). length y.letters) e ∙ len_seen m w x t b q,
      ),
      ap (λ (y : Vector). y.signed) p ∙ ap (λ (y : Vector). y.signed) e ∙ sym (ap (λ (y : Vector). y.signed) q),
    ))
    (Decides-and _ _ (Decides-and _ _ (Decides-and _ _ (Decides-eqb v w) (Decides-eqb u x)) (Decides-eqb n m)) (booleans_Decides s t))
