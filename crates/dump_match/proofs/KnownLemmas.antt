-- Marks that are set one by one.
use Rattle.std.proofs.Common.{◌≡◌, ℕ, ◌+◌, ◌<◌, ◌≤◌, Bool, true, false, ◌||◌, List, length, set, length-set, Option, Some, None, is_none, slice_get, get_or, refl, ap, sym, ◌∙◌, subst, arith, inl, inr, get_or-set_same, get_or-set_other}
use Rattle.std.proofs.lemmas.Bool.{cases_eq}
use Rattle.basis.proofs.Bools.{or_second}
use Rattle.vbits.specs.Vectors.{Vector}
use Rattle.dump_match.specs.Known.{AreMarked, has_column, has_value}
use Rattle.dump_match.specs.declared.comparison.Pair.{Pair}

-- those below a number are marked, and the others are as they were
pub record MarkedSo (old new : List Bool) (has : ℕ → Bool) (number : ℕ) : Type 0 where
  pub len : length new ≡ length old
  pub below : (k : ℕ) → k < number → get_or new k false ≡ (get_or old k false || has k)
  pub above : (k : ℕ) → number ≤ k → get_or new k false ≡ get_or old k false

pub marked_first : (old : List Bool) (has : ℕ → Bool) → MarkedSo old old has 0
marked_first old has = record { len = refl; below = λ k lt. absurd (omega arith); above = λ k le. refl }

or_false : (b : Bool) → b ≡ (b || false)
or_false true = refl
or_false false = refl

pub marked_set : (old new : List Bool) (has : ℕ → Bool) (number : ℕ) → MarkedSo old new has number → number < length new → has number ≡ true →
    MarkedSo old (set new number true) has (number + 1)
marked_set old new has number so lt is = record {
  len = length-set new number true ∙ so.len;
  below = λ k k_lt. elim (cases_eq k number) [
    | inl same ↦ subst (λ (i : ℕ). get_or (set new number true) i false ≡ (get_or old i false || has i)) (sym same)
        (get_or-set_same new number true false lt ∙ sym (ap (λ (b : Bool). get_or old number false || b) is ∙ or_second (get_or old number false) true refl))
    | inr other ↦ get_or-set_other new number k true false other ∙ so.below k (omega arith)
  ];
  above = λ k le. get_or-set_other new number k true false (λ same. omega arith) ∙ so.above k (omega arith);
}

pub marked_kept : (old new : List Bool) (has : ℕ → Bool) (number : ℕ) → MarkedSo old new has number → has number ≡ false → MarkedSo old new has (number + 1)
marked_kept old new has number so isnt = record {
  len = so.len;
  below = λ k k_lt. elim (cases_eq k number) [
    | inl same ↦ subst (λ (i : ℕ). get_or new i false ≡ (get_or old i false || has i)) (sym same)
        (so.above number (omega arith) ∙ or_false (get_or old number false) ∙ ap (λ (b : Bool). get_or old number false || b) (sym isnt))
    | inr other ↦ so.below k (omega arith)
  ];
  above = λ k le. so.above k (omega arith);
}

-- before the first time nothing is marked, and then what has a value
pub none_marked : (time : Option ℕ) (told : List (Option Vector)) (pairs : List Pair) (known : List Bool) → is_none time ≡ true →
    AreMarked known known (has_value time told pairs)
none_marked None told pairs known is number lt = or_false (get_or known number false)
none_marked (Some time) told pairs known is number lt = absurd cc

pub all_marked : (time : Option ℕ) (told : List (Option Vector)) (pairs : List Pair) (old new : List Bool) (number : ℕ) → is_none time ≡ false →
    MarkedSo old new (λ k. has_column told (slice_get pairs k)) number → length old ≤ number → AreMarked old new (has_value time told pairs)
all_marked None told pairs old new number is so all k lt = absurd cc
all_marked (Some time) told pairs old new number is so all k lt = so.below k (omega arith)
