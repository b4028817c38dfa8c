-- What the actions in a block read, one after another.
use Rattle.std.proofs.Common.{◌≡◌, ℕ, zero, suc, List, [], ◌∷◌, ◌++◌, drop, Some, None, slice_get, true, refl, sym, ap, ◌∙◌, append-nil, append_assoc}
use Rattle.std.proofs.lemmas.Option.{same_Some}
use Rattle.vdesign.specs.declared.action.Action.{Action}
use Rattle.footprints.specs.declared.thing.Thing.{Thing}
use Rattle.footprints.specs.Footprints.{reads_at}
use Rattle.cause.specs.Behind.{places_in, read_from}

-- what is left behind a place, with more behind it
rest_of : (places more : List ℕ) (k p : ℕ) → slice_get places k ≡ Some p → (drop k places ≡ p ∷ drop (suc k) places) × (drop (suc k) (places ++ more) ≡ drop (suc k) places ++ more)
rest_of [] more k p e = absurd cc
rest_of (q ∷ places) more zero p e = (ap (λ (x : ℕ). x ∷ places) (same_Some q p e), refl)
rest_of (q ∷ places) more (suc k) p e = rest_of places more k p e

none_left : (places : List ℕ) (k : ℕ) → slice_get places k ≡ None → drop k places ≡ []
none_left [] zero e = refl
none_left [] (suc k) e = refl
none_left (q ∷ places) zero e = absurd cc
none_left (q ∷ places) (suc k) e = none_left places k e

nothing_read : (actions : List Action) (n : ℕ) → read_from actions n [] ≡ []
nothing_read actions zero = refl
nothing_read actions (suc n) = refl

pub none_more : (actions : List Action) (places : List ℕ) (k n : ℕ) (things whole : List Thing) → slice_get places k ≡ None →
    things ++ read_from actions n (drop k places) ≡ whole → things ≡ whole
none_more actions places k n things whole e so_far =
    sym (append-nil things)
    ∙ ap (λ (more : List Thing). things ++ more) (sym (ap (read_from actions n) (none_left places k e) ∙ nothing_read actions n))
    ∙ so_far

pub one_read : (actions : List Action) (places : List ℕ) (k n m p : ℕ) (things whole : List Thing) → slice_get places k ≡ Some p → n ≡ suc m →
    things ++ read_from actions n (drop k places) ≡ whole →
    (things ++ reads_at (slice_get actions p) true) ++ read_from actions m (drop (suc k) (places ++ places_in (slice_get actions p))) ≡ whole
one_read actions places k n m p things whole e is so_far =
    let within : List ℕ = places_in (slice_get actions p) in
    let reads : List Thing = reads_at (slice_get actions p) true in
    let rest = rest_of places within k p e in
    append_assoc things reads (read_from actions m (drop (suc k) (places ++ within)))
    ∙ ap (λ (left : List ℕ). things ++ (reads ++ read_from actions m left)) rest.1
    ∙ ap (λ (left : List ℕ). things ++ read_from actions (suc m) left) (sym rest.0)
    ∙ ap (λ (count : ℕ). things ++ read_from actions count (drop k places)) (sym is)
    ∙ so_far
