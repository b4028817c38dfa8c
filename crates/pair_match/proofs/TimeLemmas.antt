-- The times of two references.
use Rattle.std.proofs.Common.{◌≡◌, ℕ, ◌<◌, ◌≤◌, ◌⊎◌, inl, inr, min, Option, Some, None, IfSome, IfNone, arith, ap, refl}
use Rattle.std.proofs.lemmas.Bool.{cases_lt}
use Rattle.std.proofs.lemmas.Option.{none-some, same_Some}
use Rattle.matching.specs.Answers.{IsLater}
use Rattle.pair_match.specs.Pairs.{earlier_of, shown_since, together}

-- nothing differs in both together exactly where nothing does in either
pub none_in_first : (a b : ℕ) → together a b ≡ 0 → a ≡ 0
none_in_first a b is = omega (arith, is)

pub none_in_second : (a b : ℕ) → together a b ≡ 0 → b ≡ 0
none_in_second a b is = omega (arith, is)

pub none_in_both : (a b : ℕ) → a ≡ 0 → b ≡ 0 → together a b ≡ 0
none_in_both a b one other = omega (arith, one, other)

-- the time of a next piece is later
pub later_of_both : (time p q : ℕ) (a b : Option ℕ) → IfSome a (λ t. p < t) → IfSome b (λ t. q < t) →
    IfSome (earlier_of a b) (λ t. shown_since time (earlier_of a b) < t)
later_of_both time p q None b one other = tt
later_of_both time p q (Some x) None one other = tt
later_of_both time p q (Some x) (Some y) one other = omega (arith, one, other)

-- where there is none one of the two has none
pub done_of_both : (a b : Option ℕ) (A B : Type 0) → IfNone a A → IfNone b B → IfNone (earlier_of a b) (A ⊎ B)
done_of_both None b A B one other = inl one
done_of_both (Some x) None A B one other = inr other
done_of_both (Some x) (Some y) A B one other = tt

-- behind a piece that was read it is that one's time
pub since_read : (a b : Option ℕ) (v : ℕ) → IsLater a v → IsLater b v → shown_since v (earlier_of a b) ≡ v
since_read None b v one other = refl
since_read (Some x) None v one other = refl
since_read (Some x) (Some y) v one other = omega (arith, one x refl, other y refl)

least : (x y v : ℕ) → min x y ≡ v → (Some x ≡ Some v) ⊎ (Some y ≡ Some v)
least x y v is = elim (cases_lt x y) [
  | inl lt ↦ inl (ap Some (omega (arith, is, lt)))
  | inr le ↦ inr (ap Some (omega (arith, is, le)))
]

-- it comes first in one of the two, and in neither before
pub is_of_one : (a b : Option ℕ) (v : ℕ) → earlier_of a b ≡ Some v → (a ≡ Some v) ⊎ (b ≡ Some v)
is_of_one None b v is = absurd (none-some v is)
is_of_one (Some x) None v is = absurd (none-some v is)
is_of_one (Some x) (Some y) v is = least x y v (same_Some (min x y) v is)

pub none_before : (a b : Option ℕ) (v t : ℕ) → earlier_of a b ≡ Some v → a ≡ Some t → v ≤ t
none_before None b v t is there = absurd (none-some t there)
none_before (Some x) None v t is there = absurd (none-some v is)
none_before (Some x) (Some y) v t is there = omega (arith, same_Some (min x y) v is, same_Some x t there)

pub none_before_other : (a b : Option ℕ) (v t : ℕ) → earlier_of a b ≡ Some v → b ≡ Some t → v ≤ t
none_before_other None b v t is there = absurd (none-some v is)
none_before_other (Some x) None v t is there = absurd (none-some t there)
none_before_other (Some x) (Some y) v t is there = omega (arith, same_Some (min x y) v is, same_Some y t there)
