-- An edge between equal values is none; and what a write changes.
use Rattle.std.proofs.Common.{◌≡◌, ◌≢◌, ℕ, zero, suc, ◌<◌, ◌≤◌, false, not, List, [], ◌∷◌, length, Option, Some, refl, sym, ap, ◌∙◌, arith}
use Rattle.std.specs.Prelude.{slice_get, slice_set, slice_index_or, unwrap_or}
use Rattle.vbits.specs.declared.bit4.Bit4.TheVariants.{X}
use Rattle.vbits.specs.Vectors.{Vector, filled}
use Rattle.vbits.specs.Equal.{vectors_tell}
use Rattle.vdesign.specs.declared.action.Edge.{Edge}
use Rattle.vdesign.specs.declared.action.Edge.TheVariants.{Any, Rise, Fall}
use Rattle.vmodel.specs.Parts.{value_in}
use Rattle.vmodel.specs.Waking.{rank, last_bit, is_edge}
use Rattle.vmodel.specs.InnerWaking.{Differ}
use Rattle.vmodel.proofs.ProcessLemmas.{not_lt}

-- ---- no change is heard

pub edge_none : (edge : Edge) (v w : Vector) → v ≡ w → is_edge edge v w ≡ false
edge_none Any v w e = ap not ((vectors_tell v w).1 e)
edge_none Rise v w e = not_lt (rank (last_bit v)) (rank (last_bit w)) (omega (arith, ap (λ (u : Vector). rank (last_bit u)) e))
edge_none Fall v w e = not_lt (rank (last_bit w)) (rank (last_bit v)) (omega (arith, ap (λ (u : Vector). rank (last_bit u)) e))

-- ---- what a write changes

pub set_same : (values : List Vector) (n : ℕ) (old new : Vector) → slice_get values n ≡ Some old → old ≡ new → values ≡ slice_set values n new
set_same [] n old new at e = refl
set_same (v ∷ vs) zero old new at e = let here : v ≡ old = cc in ap (λ w. w ∷ vs) (here ∙ e)
set_same (v ∷ vs) (suc n) old new at e = ap (λ ws. v ∷ ws) (set_same vs n old new at e)

get_set : (values : List Vector) (n : ℕ) (old new : Vector) → slice_get values n ≡ Some old → slice_get (slice_set values n new) n ≡ Some new
get_set [] n old new at = cc
get_set (v ∷ vs) zero old new at = refl
get_set (v ∷ vs) (suc n) old new at = get_set vs n old new at

get_other : (values : List Vector) (n m : ℕ) (new : Vector) → m ≢ n → slice_get values m ≡ slice_get (slice_set values n new) m
get_other [] n m new ne = refl
get_other (v ∷ vs) zero zero new ne = absurd (ne refl)
get_other (v ∷ vs) zero (suc m) new ne = refl
get_other (v ∷ vs) (suc n) zero new ne = refl
get_other (v ∷ vs) (suc n) (suc m) new ne = get_other vs n m new (λ e. ne (ap suc e))

pub differ_set : (values : List Vector) (n : ℕ) (old new : Vector) → slice_get values n ≡ Some old →
    Differ (record { variable = n; old = old; new = new }) values (slice_set values n new)
differ_set values n old new at = record {
  old = ap (λ (o : Option Vector). unwrap_or o (filled 1 X)) at;
  new = ap (λ (o : Option Vector). unwrap_or o (filled 1 X)) (get_set values n old new at);
  others = λ m ne. ap (λ (o : Option Vector). unwrap_or o (filled 1 X)) (get_other values n m new ne);
}

pub other_after : (values : List Vector) (n m : ℕ) (new : Vector) → m ≢ n → value_in values m ≡ value_in (slice_set values n new) m
other_after values n m new ne = ap (λ (o : Option Vector). unwrap_or o (filled 1 X)) (get_other values n m new ne)

pub got : (values : List Vector) (n : ℕ) (v d : Vector) → n < length values → v ≡ slice_index_or values n d → slice_get values n ≡ Some v
got [] n v d lt e = absurd (omega (arith, lt))
got (w ∷ ws) zero v d lt e = ap Some (sym e)
got (w ∷ ws) (suc n) v d lt e = got ws n v d (omega (arith, lt)) e

pub set_none : (values : List Vector) (n : ℕ) (new : Vector) → length values ≤ n → values ≡ slice_set values n new
set_none [] n new le = refl
set_none (v ∷ vs) zero new le = absurd (omega (arith, le))
set_none (v ∷ vs) (suc n) new le = ap (λ ws. v ∷ ws) (set_none vs n new (omega (arith, le)))
