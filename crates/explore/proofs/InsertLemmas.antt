-- What inserting a pair into a list of pairs leaves of it.
use Rattle.std.proofs.Common.{◌≡◌, ℕ, ◌+◌, ◌≤◌, zero, suc, Bool, true, false, List, [], ◌∷◌, length, slice_get, Some, arith, ap, refl, sym, ◌∙◌, ◌⊎◌, inl, inr}
use Rattle.std.specs.Cmp.{IsEquivalence}
use Rattle.std.specs.List.{IsDistinct}
use Rattle.std.specs.Map.{keys_of, lookup}
use Rattle.std.proofs.lemmas.Map.Views.{lookup-from_Contains}
use Rattle.std.proofs.lemmas.Option.{same_Some, slice_get_within, get_or_from_slice_get}
use Rattle.indexmap.specs.IndexMap.{insert_entry}

-- The pair is there, at a key that was equal or its own; each other pair was there, and each key that was there stays.
pub record Inserted {K V : Type 0} (eq : K → K → Bool) (es : List (K × V)) (k : K) (v : V) (after : List (K × V)) : Type 0 where
  pub place : ℕ
  pub key : K
  pub at : slice_get after place ≡ Some (key, v)
  pub same : eq k key ≡ true
  pub from : (j : ℕ) (p : K × V) → slice_get after j ≡ Some p → ((eq k p.0 ≡ true) × (p.1 ≡ v)) ⊎ ((i : ℕ) × (slice_get es i ≡ Some p))
  pub kept : (i : ℕ) (p : K × V) → slice_get es i ≡ Some p → (q : K × V) × (slice_get after i ≡ Some q) × (q.0 ≡ p.0)
  pub count : length after ≤ length es + 1

first_from : {K V : Type 0} (eq : K → K → Bool) (e : K × V) (es : List (K × V)) (k : K) (v : V) → eq k e.0 ≡ true → (j : ℕ) (p : K × V) → slice_get ((e.0, v) ∷ es) j ≡ Some p → ((eq k p.0 ≡ true) × (p.1 ≡ v)) ⊎ ((i : ℕ) × (slice_get (e ∷ es) i ≡ Some p))
first_from {K} {V} eq e es k v here zero p at =
    let same : ◌≡◌ {A = K × V} (e.0, v) p = same_Some (e.0, v) p at in
    inl (ap (λ q. eq k q.0) (sym same) ∙ here, ap (λ q. q.1) (sym same))
first_from eq e es k v here (suc j) p at = inr (suc j, at)

first_kept : {K V : Type 0} (e : K × V) (es : List (K × V)) (v : V) (i : ℕ) (p : K × V) → slice_get (e ∷ es) i ≡ Some p → (q : K × V) × (slice_get ((e.0, v) ∷ es) i ≡ Some q) × (q.0 ≡ p.0)
first_kept e es v zero p at = ((e.0, v), refl, ap (λ q. q.0) (same_Some e p at))
first_kept e es v (suc i) p at = (p, at, refl)

later_from : {K V : Type 0} (eq : K → K → Bool) (e : K × V) (es : List (K × V)) (k : K) (v : V) (after : List (K × V)) → Inserted eq es k v after → (j : ℕ) (p : K × V) → slice_get (e ∷ after) j ≡ Some p → ((eq k p.0 ≡ true) × (p.1 ≡ v)) ⊎ ((i : ℕ) × (slice_get (e ∷ es) i ≡ Some p))
later_from eq e es k v after x zero p at = inr (0, at)
later_from eq e es k v after x (suc j) p at = elim (x.from j p at) [
  | inl new ↦ inl new
  | inr old ↦ inr (suc old.0, old.1)
]

later_kept : {K V : Type 0} (eq : K → K → Bool) (e : K × V) (es : List (K × V)) (k : K) (v : V) (after : List (K × V)) → Inserted eq es k v after → (i : ℕ) (p : K × V) → slice_get (e ∷ es) i ≡ Some p → (q : K × V) × (slice_get (e ∷ after) i ≡ Some q) × (q.0 ≡ p.0)
later_kept eq e es k v after x zero p at = (p, at, refl)
later_kept eq e es k v after x (suc i) p at = x.kept i p at

alone_from : {K V : Type 0} (eq : K → K → Bool) (k : K) (v : V) → eq k k ≡ true → (j : ℕ) (p : K × V) → slice_get ((k, v) ∷ []) j ≡ Some p → ((eq k p.0 ≡ true) × (p.1 ≡ v)) ⊎ ((i : ℕ) × (slice_get {X = K × V} [] i ≡ Some p))
alone_from {K} {V} eq k v itself zero p at =
    let same : ◌≡◌ {A = K × V} (k, v) p = same_Some (k, v) p at in
    inl (ap (λ q. eq k q.0) (sym same) ∙ itself, ap (λ q. q.1) (sym same))
alone_from eq k v itself (suc j) p at = absurd cc

inserted_at : {K V : Type 0} (eq : K → K → Bool) (e : K × V) (es : List (K × V)) (k : K) (v : V) → Inserted eq es k v (insert_entry eq es k v) → (b : Bool) → eq k e.0 ≡ b → Inserted eq (e ∷ es) k v (insert_entry eq (e ∷ es) k v)
inserted_at eq e es k v x true here = rw here (record {
  place = 0;
  key = e.0;
  at = refl;
  same = here;
  from = first_from eq e es k v here;
  kept = first_kept e es v;
  count = omega arith;
})
inserted_at eq e es k v x false other = rw other (record {
  place = suc x.place;
  key = x.key;
  at = x.at;
  same = x.same;
  from = later_from eq e es k v (insert_entry eq es k v) x;
  kept = later_kept eq e es k v (insert_entry eq es k v) x;
  count = omega (arith, x.count);
})

pub inserted : {K V : Type 0} (eq : K → K → Bool) → ((x : K) → eq x x ≡ true) → (es : List (K × V)) (k : K) (v : V) → Inserted eq es k v (insert_entry eq es k v)
inserted eq itself [] k v = record {
  place = 0;
  key = k;
  at = refl;
  same = itself k;
  from = alone_from eq k v (itself k);
  kept = λ i p at. absurd cc;
  count = omega arith;
}
inserted eq itself (e ∷ es) k v = inserted_at eq e es k v (inserted eq itself es k v) (eq k e.0) refl

-- of distinct keys two that are equal have one value
pub value_at : {K V : Type 0} (eq : K → K → Bool) → IsEquivalence eq → (es : List (K × V)) → IsDistinct eq (keys_of es) → (i : ℕ) (p : K × V) → slice_get es i ≡ Some p → lookup (eq p.0) es ≡ Some p.1
value_at eq laws es apart i p at = lookup-from_Contains laws p.0 p.1 es apart (i, slice_get_within es i p at, get_or_from_slice_get es i p p at)

pub same_value : {K V : Type 0} (eq : K → K → Bool) → IsEquivalence eq → (es : List (K × V)) → IsDistinct eq (keys_of es) → (i j : ℕ) (p q : K × V) → slice_get es i ≡ Some p → slice_get es j ≡ Some q → eq p.0 q.0 ≡ true → p.1 ≡ q.1
same_value {K} eq laws es apart i j p q at at' same =
    let tests : eq p.0 ≡ eq q.0 = λ n k. laws.congr p.0 q.0 k same n in
    same_Some p.1 q.1 (sym (value_at eq laws es apart i p at) ∙ ap (λ (t : K → Bool). lookup t es) tests ∙ value_at eq laws es apart j q at')
