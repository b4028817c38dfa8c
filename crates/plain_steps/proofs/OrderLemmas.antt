-- The order of what is active, and the choices that are made of it.
use Rattle.std.proofs.Common.{◌≡◌, ℕ, zero, suc, ◌+◌, ◌-◌, ◌*◌, ◌<◌, ◌≤◌, List, [], ◌∷◌, ◌++◌, take, length, refl, sym, ap, ◌∙◌, arith}
use Rattle.std.specs.Prelude.{slice_get}
use Rattle.vmodel.specs.declared.choice.Choice.{Choice}
use Rattle.vmodel.specs.Queue.{Later}
use Rattle.vmodel.specs.Choices.{or_advance, advance_choice, taking_or_holding}
use Rattle.vmodel.specs.Holding.{with_one_held, with_held}
use Rattle.vmodel.specs.Inner.{with_some_held}

-- ---- lists one behind the other

pub get_front : (xs ys : List Choice) (i : ℕ) → i < length xs → slice_get (xs ++ ys) i ≡ slice_get xs i
get_front [] ys i lt = absurd (omega (arith, lt))
get_front (x ∷ xs) ys zero lt = refl
get_front (x ∷ xs) ys (suc i) lt = get_front xs ys i (omega (arith, lt))

pub get_behind : (xs ys : List Choice) (i k : ℕ) → i ≡ length xs + k → slice_get (xs ++ ys) i ≡ slice_get ys k
get_behind [] ys i k is = let same : i ≡ k = omega (arith, is) in ap (slice_get ys) same
get_behind (x ∷ xs) ys zero k is = absurd (omega (arith, is))
get_behind (x ∷ xs) ys (suc i) k is = get_behind xs ys i k (omega (arith, is))

-- ---- the choices of an order that has a member

pub choice_takes : (order : List Choice) (future : List (ℕ × Later)) (i : ℕ) → i < length order →
    slice_get order i ≡ slice_get (or_advance (taking_or_holding order) future) i
choice_takes [] future i lt = absurd (omega (arith, lt))
choice_takes (c ∷ cs) future i lt = sym (get_front (c ∷ cs) cs i lt)

pub choice_holds : (order : List Choice) (future : List (ℕ × Later)) (i : ℕ) → 0 < length order → length order ≤ i →
    slice_get order (i - length order + 1) ≡ slice_get (or_advance (taking_or_holding order) future) i
choice_holds [] future i some le = absurd (omega (arith, some))
choice_holds (c ∷ cs) future i some le =
    let k = i - suc (length cs) in
    let next : k + 1 ≡ suc k = omega arith in
    let behind : i ≡ suc (length cs) + k = omega (arith, le) in
    ap (slice_get (c ∷ cs)) next ∙ sym (get_behind (c ∷ cs) cs i k behind)

pub width_is_odd : (order : List Choice) (future : List (ℕ × Later)) → 0 < length order →
    2 * length order - 1 ≡ length (or_advance (taking_or_holding order) future)
width_is_odd [] future some = absurd (omega (arith, some))
width_is_odd (c ∷ cs) future some = omega (arith, length_both cs cs)
  where
    length_both : (xs ys : List Choice) → length (xs ++ ys) ≡ length xs + length ys
    length_both [] ys = omega arith
    length_both (x ∷ xs) ys = omega (arith, length_both xs ys)

pub no_order : (order : List Choice) (future : List (ℕ × Later)) → length order ≡ 0 →
    or_advance (taking_or_holding order) future ≡ advance_choice future
no_order [] future none = refl
no_order (c ∷ cs) future none = absurd (omega (arith, none))

-- ---- what is held back, one choice after another

pub held_next : (order : List Choice) (k : ℕ) (held : List ℕ) →
    with_some_held (slice_get order k) (with_held (take k order) held) ≡ with_held (take (suc k) order) held
held_next [] k held = none k
  where
    none : (n : ℕ) → with_held (take n []) held ≡ with_held (take (suc n) []) held
    none zero = refl
    none (suc n) = refl
held_next (c ∷ cs) zero held = refl
held_next (c ∷ cs) (suc k) held = held_next cs k (with_one_held c held)

pub none_before : (order : List Choice) (n : ℕ) (held : List ℕ) → length order ≡ 0 → held ≡ with_held (take n order) held
none_before [] zero held none = refl
none_before [] (suc n) held none = refl
none_before (c ∷ cs) n held none = absurd (omega (arith, none))
