-- Sums over views where one changes or comes, or one has all parts; and how often a number stands in lists put together.
use Rattle.std.proofs.Common.{◌≡◌, ℕ, zero, suc, ◌+◌, ◌≤◌, List, [], ◌∷◌, ◌++◌, set, arith, ap, refl, sym}
use mathlib.Core.Option.{some, some-injective, some-ne-none}
use lib.ListN.{get_elem?}
use Rattle.workpool.specs.Inner.Sums.{total, times}

module _ {V : Type 0} where
  -- the sum after a change of one view
  pub total_set : (f : V → ℕ) (views : List V) (port : ℕ) (v w : V) → get_elem? views port ≡ some v → total f (set views port w) + f v ≡ total f views + f w
  total_set f [] port v w at = absurd (some-ne-none v (sym at))
  total_set f (x ∷ views) zero v w at = let same : f x ≡ f v = ap f (some-injective x v at) in omega (arith, same)
  total_set f (x ∷ views) (suc port) v w at = let rest = total_set f views port v w at in omega (arith, rest)

  -- and with one more view
  pub total_snoc : (f : V → ℕ) (views : List V) (w : V) → total f (views ++ w ∷ []) ≡ total f views + f w
  total_snoc f [] w = omega arith
  total_snoc f (x ∷ views) w = let rest = total_snoc f views w in omega (arith, rest)

  module _ (parts f : V → ℕ) where
    all_idle : (views : List V) → ((i : ℕ) (u : V) → get_elem? views i ≡ some u → parts u ≡ 0 → f u ≡ 0) → total parts views ≡ 0 → total f views ≡ 0
    all_idle [] idle none = refl
    all_idle (x ∷ views) idle none =
        let here : f x ≡ 0 = idle 0 x refl (omega (arith, none)) in
        let rest = all_idle views (λ i. idle (suc i)) (omega (arith, none)) in
        omega (arith, here, rest)

    pub part_of : (views : List V) (port : ℕ) (v : V) → get_elem? views port ≡ some v → parts v ≤ total parts views
    part_of [] port v at = absurd (some-ne-none v (sym at))
    part_of (x ∷ views) zero v at = let same : parts x ≡ parts v = ap parts (some-injective x v at) in omega (arith, same)
    part_of (x ∷ views) (suc port) v at = let rest = part_of views port v at in omega (arith, rest)

    -- where nobody else has a part, nobody else has counted
    pub alone : (views : List V) (port : ℕ) (v : V) → get_elem? views port ≡ some v → ((i : ℕ) (u : V) → get_elem? views i ≡ some u → parts u ≡ 0 → f u ≡ 0) → total parts views ≡ parts v → total f views ≡ f v
    alone [] port v at idle all = absurd (some-ne-none v (sym at))
    alone (x ∷ views) zero v at idle all =
        let same : x ≡ v = some-injective x v at in
        let part : parts x ≡ parts v = ap parts same in
        let rest = all_idle views (λ i. idle (suc i)) (omega (arith, part, all)) in
        let counted : f x ≡ f v = ap f same in
        omega (arith, rest, counted)
    alone (x ∷ views) (suc port) v at idle all =
        let most = part_of views port v at in
        let here : f x ≡ 0 = idle 0 x refl (omega (arith, most, all)) in
        let rest = alone views port v at (λ i. idle (suc i)) (omega (arith, most, all)) in
        omega (arith, here, rest)

pub times-append : (x : ℕ) (ys zs : List ℕ) → times x (ys ++ zs) ≡ times x ys + times x zs
times-append x [] zs = omega arith
times-append x (y ∷ ys) zs = let rest = times-append x ys zs in omega (arith, rest)
