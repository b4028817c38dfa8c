-- What a step tells those who listen: whatever it changes is told.
use Rattle.std.proofs.Common.{◌≡◌, ◌≢◌, ◌⊎◌, inl, inr, ℕ, zero, suc, true, true≢false, List, [], ◌∷◌, map, Option, None, Some, refl, sym, ap, subst, ◌∙◌, arith}
use Rattle.std.specs.Prelude.{slice_get, slice_set, unwrap_or}
use Rattle.std.specs.List.{Contains}
use Rattle.std.proofs.lemmas.Bool.Decides.{nat_tests, eqb_tells}
use Rattle.std.proofs.lemmas.List.Elements.{Contains-append_left, Contains-append_right}
use Rattle.vbits.specs.declared.bit4.Bit4.TheVariants.{X}
use Rattle.vbits.specs.Vectors.{Vector, filled}
use Rattle.vdesign.specs.declared.action.Edge.TheVariants.{Any}
use Rattle.vdesign.specs.declared.action.Term.{Term}
use Rattle.vdesign.specs.declared.action.Term.TheVariants.{Change, Event}
use Rattle.vmodel.specs.declared.part.Part.{Part}
use Rattle.vmodel.specs.declared.part.Part.TheVariants.{Whole, Bits}
use Rattle.vmodel.specs.Inner.{variable_of}
use Rattle.vmodel.specs.Parts.{value_in, with_bits, write, with_parts}
use Rattle.vmodel.specs.Waking.{is_triggered, hears}
use Rattle.vcompile.specs.Laws.{with_edge}
use Rattle.vflat.specs.Flat.{terms_told, told_of_event}
use Rattle.vflat.proofs.WakeLemmas.{listed_first, listed_later}
use Rattle.vmodel.proofs.WakingLemmas.{edge_none}

set_other : (values : List Vector) (n m : ℕ) (new : Vector) → m ≢ n → slice_get (slice_set values n new) m ≡ slice_get values m
set_other [] n m new ne = refl
set_other (v ∷ vs) zero zero new ne = absurd (ne refl)
set_other (v ∷ vs) zero (suc m) new ne = refl
set_other (v ∷ vs) (suc n) zero new ne = refl
set_other (v ∷ vs) (suc n) (suc m) new ne = set_other vs n m new (λ e. ne (ap suc e))

value_other : (values : List Vector) (n m : ℕ) (new : Vector) → m ≢ n → value_in (slice_set values n new) m ≡ value_in values m
value_other values n m new ne = ap (λ (o : Option Vector). unwrap_or o (filled 1 X)) (set_other values n m new ne)

write_other : (part : Part) (values : List Vector) (m : ℕ) → m ≢ variable_of part → value_in (write part values) m ≡ value_in values m
write_other (Whole variable value) values m ne = value_other values variable m value ne
write_other (Bits variable low value) values m ne = value_other values variable m (with_bits (value_in values variable) low value) ne

-- a variable that isn't written keeps its value
told_or_same : (parts : List Part) (values : List Vector) (m : ℕ) →
    Contains (map (λ part. Change Any (variable_of part)) parts) (Change Any m) ⊎ (value_in (with_parts parts values) m ≡ value_in values m)
told_or_same [] values m = inr refl
told_or_same (part ∷ parts) values m = elim (eqb_tells m (variable_of part)) [
  | inl same ↦ inl (subst (λ n. Contains (map (λ p. Change Any (variable_of p)) (part ∷ parts)) (Change Any n)) (sym same.1)
      (listed_first (Change Any (variable_of part)) (map (λ p. Change Any (variable_of p)) parts)))
  | inr other ↦ elim (told_or_same parts (write part values) m) [
    | inl later ↦ inl (listed_later (Change Any (variable_of part)) (map (λ p. Change Any (variable_of p)) parts) (Change Any m) later)
    | inr kept ↦ inr (kept ∙ write_other part values m other.1)
  ]
]

event_told : (triggered : Option ℕ) (event : ℕ) → is_triggered triggered event ≡ true → Contains (told_of_event triggered) (Event event)
event_told None event e = absurd (true≢false (sym e))
event_told (Some one) event e =
    let same : one ≡ event = grind (arith, nat_tests) in
    subst (λ n. Contains (Event one ∷ []) (Event n)) same (listed_first (Event one) [])

-- what hears is told
pub covers : (before : List Vector) (wrote : List Part) (triggered : Option ℕ) (term : Term) → hears before (with_parts wrote before) triggered term ≡ true →
    Contains (terms_told wrote triggered) (with_edge term Any)
covers before wrote triggered (Change edge variable) h = elim (told_or_same wrote before variable) [
  | inl there ↦ Contains-append_left (map (λ part. Change Any (variable_of part)) wrote) (told_of_event triggered) (Change Any variable) there
  | inr same ↦ absurd (true≢false (sym h ∙ edge_none edge (value_in before variable) (value_in (with_parts wrote before) variable) (sym same)))
]
covers before wrote triggered (Event event) h =
    Contains-append_right (map (λ part. Change Any (variable_of part)) wrote) (told_of_event triggered) (Event event) (event_told triggered event h)
