-- What stands in the order behind others, and what is held back of it, one choice after another.
use Rattle.std.proofs.Common.{◌≡◌, ℕ, zero, suc, ◌+◌, ◌-◌, ◌<◌, ◌≤◌, List, [], ◌∷◌, ◌++◌, take, length, refl, sym, ap, ◌∙◌, arith}
use Rattle.std.proofs.Math.Seq.{take-nil}
use Rattle.std.specs.Prelude.{slice_get}
use Rattle.vmodel.specs.declared.choice.Choice.{Choice}
use Rattle.vmodel.specs.Queue.{Later}
use Rattle.vmodel.specs.Choices.{or_advance, taking_or_holding}
use Rattle.vmodel.specs.Holding.{with_one_held, with_held}
use Rattle.vmodel.specs.Inner.{with_some_held}

behind_all : {A : Type 0} (xs ys : List A) (k : ℕ) → slice_get (xs ++ ys) (length xs + k) ≡ slice_get ys k
behind_all [] ys k = let none : zero + k ≡ k = omega arith in ap (slice_get ys) none
behind_all (x ∷ xs) ys k =
    let one : suc (length xs) + k ≡ suc (length xs + k) = omega arith in
    ap (slice_get (x ∷ xs ++ ys)) one ∙ behind_all xs ys k

-- a choice that holds back is one of the order, from its second on
pub holding_choice : (order : List Choice) (future : List (ℕ × Later)) (n i : ℕ) → n ≡ length order → 0 < n → n ≤ i →
    slice_get order (i - n + 1) ≡ slice_get (or_advance (taking_or_holding order) future) i
holding_choice [] future n i is some le = absurd (omega (arith, is, some))
holding_choice (c ∷ cs) future n i is some le =
    let next : i - n + 1 ≡ suc (i - n) = omega arith in
    let at : suc (length cs) + (i - n) ≡ i = omega (arith, is, le) in
    ap (slice_get (c ∷ cs)) next
    ∙ sym (behind_all (c ∷ cs) cs (i - n))
    ∙ ap (slice_get (c ∷ cs ++ cs)) at

-- one more of the order is held back
pub one_more_held : (order : List Choice) (k : ℕ) (held : List ℕ) →
    with_held (take (k + 1) order) held ≡ with_some_held (slice_get order k) (with_held (take k order) held)
one_more_held [] k held =
    let same : take (k + 1) [] ≡ take k [] = take-nil (k + 1) ∙ sym (take-nil k) in
    ap (λ (before : List Choice). with_held before held) same
one_more_held (c ∷ cs) zero held = refl
one_more_held (c ∷ cs) (suc k) held =
    let next : suc k + 1 ≡ suc (k + 1) = omega arith in
    ap (λ (n : ℕ). with_held (take n (c ∷ cs)) held) next ∙ one_more_held cs k (with_one_held c held)
