-- Counts of places: a partition point is a count, and so is the number of listed places below a place.
use Rattle.std.proofs.Common.{◌≡◌, ℕ, zero, suc, ◌+◌, ◌-◌, ◌≤◌, Bool, true, false, cond, List, [], ◌∷◌, length, get_or, nat_lt, refl, sym, ◌∙◌, ap, arith}
use Rattle.std.specs.List.{count_by, AllWithin}
use Rattle.std.specs.List.Sorted.{IsNonDecreasing}
use Rattle.std.proofs.Common.{All, slice_index}
use Rattle.std.proofs.lemmas.Bool.{cond_both, lt-ltb, le-ltb, ltb-true, ltb-false}
use Rattle.std.proofs.lemmas.List.Elements.{All-nil, All-cons, All-head, All-tail}
use Rattle.std.proofs.lemmas.List.Sums.{sum_by-cons, count_by-le-length}
use Rattle.memchr.specs.Find.{places_from, places}
use Rattle.vsrc.specs.Source.{count_below, file_start}

pub count_by-yes : {X : Type 0} (p : X → Bool) (x : X) (xs : List X) → p x ≡ true → count_by p (x ∷ xs) ≡ 1 + count_by p xs
count_by-yes p x xs h = sum_by-cons (λ y. cond (p y) 1 0) x xs ∙ ap (λ b. cond b 1 0 + count_by p xs) h

pub count_by-no : {X : Type 0} (p : X → Bool) (x : X) (xs : List X) → p x ≡ false → count_by p (x ∷ xs) ≡ count_by p xs
count_by-no p x xs h = sum_by-cons (λ y. cond (p y) 1 0) x xs ∙ ap (λ b. cond b 1 0 + count_by p xs) h ∙ omega arith

-- what passes up to a point, and nothing behind it, is counted by the point
pub count_by-point : {X : Type 0} (p : X → Bool) (xs : List X) (i : ℕ) → i ≤ length xs → AllWithin (λ y. p y ≡ true) xs 0 i → AllWithin (λ y. p y ≡ false) xs i (length xs) → count_by p xs ≡ i
count_by-point p [] i short passes fails = omega arith
count_by-point p (x ∷ xs) zero short passes fails =
    count_by-no p x xs (fails 0 x (omega arith) (omega arith))
    ∙ count_by-point p xs zero (omega arith) (λ k d low high. absurd (omega arith)) (λ k d low high. fails (suc k) d (omega arith) (omega arith))
count_by-point p (x ∷ xs) (suc i) short passes fails =
    count_by-yes p x xs (passes 0 x (omega arith) (omega arith))
    ∙ ap (λ n. 1 + n) (count_by-point p xs i (omega arith) (λ k d low high. passes (suc k) d (omega arith) (omega arith)) (λ k d low high. fails (suc k) d (omega arith) (omega arith)))
    ∙ omega arith

none_below : (at : ℕ) (xs : List ℕ) → All (λ x. at ≤ x) xs → count_by (λ x. nat_lt x at) xs ≡ 0
none_below at [] h = refl
none_below at (x ∷ xs) h =
    count_by-no (λ y. nat_lt y at) x xs (le-ltb _ _ (All-head (λ y. at ≤ y) x xs h)) ∙ none_below at xs (All-tail (λ y. at ≤ y) x xs h)

pub rises-cons : (x : ℕ) (xs : List ℕ) → All (λ y. x ≤ y) xs → IsNonDecreasing xs → IsNonDecreasing (x ∷ xs)
rises-cons x xs low rise zero zero d le within = omega arith
rises-cons x xs low rise zero (suc j) d le within = low j d (omega arith)
rises-cons x xs low rise (suc i) zero d le within = absurd (omega arith)
rises-cons x xs low rise (suc i) (suc j) d le within = rise i j d (omega arith) (omega arith)

module _ (test : ℕ → Bool) (hay : List ℕ) where
  places_not_below : (i n at : ℕ) → at ≤ i → All (λ k. at ≤ k) (places_from test hay i n)
  unfolding places_from
  places_not_below i zero at low = All-nil (λ k. at ≤ k)
  places_not_below i (suc n) at low =
      let P = λ (k : ℕ). at ≤ k in
      let later = places_not_below (i + 1) n at (omega arith) in
      cond_both (test (slice_index hay i)) (i ∷ places_from test hay (i + 1) n) (places_from test hay (i + 1) n) (All P)
      (λ _. All-cons P i _ low later) (λ _. later)

  places_rise : (i n : ℕ) → IsNonDecreasing (places_from test hay i n)
  unfolding places_from
  places_rise i zero = λ a b d low high. absurd (omega arith)
  places_rise i (suc n) =
      let later = places_rise (i + 1) n in
      cond_both (test (slice_index hay i)) (i ∷ places_from test hay (i + 1) n) (places_from test hay (i + 1) n) IsNonDecreasing
      (λ _. rises-cons i _ (places_not_below (i + 1) n i (omega arith)) later) (λ _. later)

  pub places_sorted : IsNonDecreasing (places test hay)
  places_sorted = places_rise 0 (length hay - 0)

rises-tail : (x : ℕ) (xs : List ℕ) → IsNonDecreasing (x ∷ xs) → IsNonDecreasing xs
rises-tail x xs rise i j d le within = rise (suc i) (suc j) d (omega arith) (omega arith)

rises-head : (x : ℕ) (xs : List ℕ) → IsNonDecreasing (x ∷ xs) → All (λ y. x ≤ y) xs
rises-head x xs rise j d within = rise zero (suc j) d (omega arith) (omega arith)

one_rises : (x a b : ℕ) → a ≤ b → cond (nat_lt x a) 1 0 ≤ cond (nat_lt x b) 1 0
one_rises x a b le = by (nat_lt x a) refl
  where
    by : (t : Bool) → nat_lt x a ≡ t → cond t 1 0 ≤ cond (nat_lt x b) 1 0
    by false e = omega arith
    by true e = let h : nat_lt x b ≡ true = lt-ltb x b (omega (arith, ltb-true x a e)) in let n : ℕ = cond (nat_lt x b) 1 0 in let same : n ≡ 1 = ap (λ t. cond t 1 0) h in omega (arith, same)

-- as many places stand before a place as before an earlier one, or more
pub count_below-rises : (places : List ℕ) (a b : ℕ) → a ≤ b → count_below places a ≤ count_below places b
count_below-rises [] a b le = omega arith
count_below-rises (x ∷ xs) a b le =
    let first = sum_by-cons (λ y. cond (nat_lt y a) 1 0) x xs in
    let second = sum_by-cons (λ y. cond (nat_lt y b) 1 0) x xs in
    omega (arith, first, second, one_rises x a b le, count_below-rises xs a b le)

-- a file begins no later than what stands in it
pub file_start-le : (start : ℕ) (borders : List ℕ) (at : ℕ) → start ≤ at → file_start start borders at ≤ at
file_start-le start [] at le = le
file_start-le start (b ∷ bs) at le =
    cond_both (nat_lt b at) (file_start (b + 1) bs at) start (λ s. s ≤ at)
    (λ before. file_start-le (b + 1) bs at (omega (arith, ltb-true b at before))) (λ _. le)

later_borders : (b : ℕ) (bs : List ℕ) (at : ℕ) → IsNonDecreasing (b ∷ bs) → nat_lt b at ≡ false → count_below bs at ≡ 0
later_borders b bs at rise after = none_below at bs (λ k d within. omega (arith, ltb-false b at after, rises-head b bs rise k d within))

-- without a border before the place the file begins at the start
pub file_start-none : (start : ℕ) (borders : List ℕ) (at : ℕ) → count_below borders at ≡ 0 → file_start start borders at ≡ start
file_start-none start [] at e = refl
file_start-none start (b ∷ bs) at e =
    cond_both (nat_lt b at) (file_start (b + 1) bs at) start (λ s. s ≡ start)
    (λ before. absurd (omega (arith, e, count_by-yes (λ x. nat_lt x at) b bs before))) (λ _. refl)

-- and else behind the last one before it
pub file_start-some : (start : ℕ) (borders : List ℕ) (at k : ℕ) → IsNonDecreasing borders → count_below borders at ≡ suc k → file_start start borders at ≡ get_or borders k 0 + 1
file_start-some start [] at k rise e = absurd (omega (arith, e))
file_start-some start (b ∷ bs) at zero rise e =
    cond_both (nat_lt b at) (file_start (b + 1) bs at) start (λ s. s ≡ b + 1)
    (λ before. let count : count_below bs at ≡ 0 = omega (arith, e, count_by-yes (λ x. nat_lt x at) b bs before) in file_start-none (b + 1) bs at count)
    (λ after. absurd (omega (arith, e, count_by-no (λ x. nat_lt x at) b bs after, later_borders b bs at rise after)))
file_start-some start (b ∷ bs) at (suc k) rise e =
    cond_both (nat_lt b at) (file_start (b + 1) bs at) start (λ s. s ≡ get_or bs k 0 + 1)
    (λ before. let count : count_below bs at ≡ suc k = omega (arith, e, count_by-yes (λ x. nat_lt x at) b bs before) in
    file_start-some (b + 1) bs at k (rises-tail b bs rise) count)
    (λ after. absurd (omega (arith, e, count_by-no (λ x. nat_lt x at) b bs after, later_borders b bs at rise after)))

-- the same, by the count of the places before it
pub file_start-last : (borders : List ℕ) (at count : ℕ) → IsNonDecreasing borders → count ≡ count_below borders at → (count ≡ 0 → ⊥) → get_or borders (count - 1) 0 + 1 ≡ file_start 0 borders at
file_start-last borders at count rise count_use some =
    let more : count_below borders at ≡ suc (count - 1) = omega (arith, count_use, some) in
    sym (file_start-some 0 borders at (count - 1) rise more)

pub count_below-le : (places : List ℕ) (at : ℕ) → count_below places at ≤ length places
count_below-le places at = count_by-le-length (λ x. nat_lt x at) places
