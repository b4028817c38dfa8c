-- *internal*: The test of equality of vectors decides it (a law with its proof).
use Rattle.std.specs.Prelude.{◌≡◌, ℕ, suc, ◌+◌, ◌*◌, Bool, true, ◌&&◌, List, [], ◌∷◌, ◌++◌, length, Decides, refl}
use Rattle.std.specs.Cmp.{IsEquivalence, decided, booleans_Decides}
use Rattle.std.specs.Hash as fed
use Rattle.std.proofs.Common.{ap, sym, subst, arith}
use Rattle.std.proofs.lemmas.Bool.Decides.{Decides-and, Decides-like}
use Rattle.vbits.specs.declared.bit4.Bit4.{Bit4}
use Rattle.vbits.specs.declared.bit4.Bit4.TheVariants.{Zero, One, X, Z}
use Rattle.vbits.specs.Letters.{is_same}
use Rattle.vbits.specs.Vectors.{Vector, letters_alike, vector_same}
use Rattle.vbits.specs.Planes.{values_of, unknowns_of}

letter_tells : (x y : Bit4) → Decides (is_same x y) (x ≡ y)
letter_tells Zero Zero = (λ h. refl, λ h. refl)
letter_tells One One = (λ h. refl, λ h. refl)
letter_tells X X = (λ h. refl, λ h. refl)
letter_tells Z Z = (λ h. refl, λ h. refl)
letter_tells _ _ = (λ h. cc, λ h. cc)

letters_tell : (xs ys : List Bit4) → Decides (letters_alike xs ys) (xs ≡ ys)
letters_tell [] [] = (λ h. refl, λ h. refl)
letters_tell (x ∷ xs) (y ∷ ys) =
    Decides-like (is_same x y && letters_alike xs ys) (λ (h : (x ≡ y) × (xs ≡ ys)). λ i. h.0 i ∷ h.1 i) (λ h. (cc, cc))
    (Decides-and (is_same x y) (letters_alike xs ys) (letter_tells x y) (letters_tell xs ys))
letters_tell _ _ = (λ h. cc, λ h. cc)

pub vectors_tell : (v w : Vector) → Decides (vector_same v w) (v ≡ w)
vectors_tell v w =
    Decides-like (vector_same v w) (λ (h : (v.letters ≡ w.letters) × (v.signed ≡ w.signed)). λ i. record { letters = h.0 i; signed = h.1 i })
    (λ h. (ap (λ (u : Vector). u.letters) h, ap (λ (u : Vector). u.signed) h))
    (Decides-and (letters_alike v.letters w.letters) _ (letters_tell v.letters w.letters) (booleans_Decides v.signed w.signed))

pub vectors_equivalent : IsEquivalence vector_same
vectors_equivalent = decided vector_same vectors_tell

abbrev planes_fed : Vector → List (List ℕ)
planes_fed v = fed.u64 (values_of v.letters) ++ fed.u64 (unknowns_of v.letters)

pub fed_alike : (v w : Vector) → vector_same v w ≡ true → planes_fed v ≡ planes_fed w
fed_alike v w h = ap planes_fed ((vectors_tell v w).0 h)
