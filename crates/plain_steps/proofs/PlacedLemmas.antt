-- The future in order of time: more is put to what a time holds.
use Rattle.std.proofs.Common.{◌≡◌, ℕ, suc, ◌<◌, ◌≤◌, List, [], ◌∷◌, insert, get_or, refl, sym, ap, subst, ◌∙◌, arith}
use Rattle.std.specs.Prelude.{slice_get, slice_set}
use Rattle.vmodel.specs.Queue.{Later, empty_slot, later_at}
use Rattle.vmodel.specs.Inner.{place_of_time, SomeIs, NoneIs}
use Rattle.vmodel.proofs.ProcessLemmas.{less, equal, more, compared, is_lt, not_lt}
use Rattle.vmodel.proofs.FutureLemmas.{earlier, here, sooner}

module _ (t : ℕ) (put : Later → Later) where
  place_earlier : (e : ℕ × Later) (es : List (ℕ × Later)) → e.0 < t → place_of_time t (e ∷ es) ≡ suc (place_of_time t es)
  place_earlier e es lt = rw (is_lt e.0 t lt)

  place_first : (e : ℕ × Later) (es : List (ℕ × Later)) → t ≤ e.0 → place_of_time t (e ∷ es) ≡ 0
  place_first e es le = rw (not_lt e.0 t le)

  found_at : (es : List (ℕ × Later)) (v : ℕ × Later) → SomeIs (λ e. e.0 ≡ t) (slice_get es (place_of_time t es)) →
      v ≡ get_or es (place_of_time t es) v → slice_set es (place_of_time t es) (v.0, put v.1) ≡ later_at t put es
  found_at [] v is read = absurd is
  found_at (e ∷ es) v is read = elim (compared t e.0) [
    | less before ↦
        let first_is : e.0 ≡ t = subst (λ (k : ℕ). SomeIs (λ x. x.0 ≡ t) (slice_get (e ∷ es) k)) (place_first e es (omega arith)) is in
        absurd (omega arith)
    | equal now ↦
        let place : place_of_time t (e ∷ es) ≡ 0 = place_first e es (omega arith) in
        let v_is : v ≡ e = subst (λ (k : ℕ). v ≡ get_or (e ∷ es) k v) place read in
        ap (λ (k : ℕ). slice_set (e ∷ es) k (v.0, put v.1)) place
        ∙ ap (λ (w : ℕ × Later). (w.0, put w.1) ∷ es) v_is
        ∙ sym (here t put e es now)
    | more after ↦
        let place : place_of_time t (e ∷ es) ≡ suc (place_of_time t es) = place_earlier e es after in
        let is_there = subst (λ (k : ℕ). SomeIs (λ x. x.0 ≡ t) (slice_get (e ∷ es) k)) place is in
        let read_there = subst (λ (k : ℕ). v ≡ get_or (e ∷ es) k v) place read in
        ap (λ (k : ℕ). slice_set (e ∷ es) k (v.0, put v.1)) place
        ∙ ap (λ (rest : List (ℕ × Later)). e ∷ rest) (found_at es v is_there read_there)
        ∙ sym (earlier t put e es after)
  ]

  absent_at : (es : List (ℕ × Later)) → NoneIs (λ e. e.0 ≡ t) (slice_get es (place_of_time t es)) →
      insert es (place_of_time t es) (t, put empty_slot) ≡ later_at t put es
  absent_at [] is = refl
  absent_at (e ∷ es) is = elim (compared t e.0) [
    | less before ↦
        ap (λ (k : ℕ). insert (e ∷ es) k (t, put empty_slot)) (place_first e es (omega arith)) ∙ sym (sooner t put e es before)
    | equal now ↦
        let first_is_not = subst (λ (k : ℕ). NoneIs (λ x. x.0 ≡ t) (slice_get (e ∷ es) k)) (place_first e es (omega arith)) is in
        absurd (first_is_not (sym now))
    | more after ↦
        let place : place_of_time t (e ∷ es) ≡ suc (place_of_time t es) = place_earlier e es after in
        let is_not = subst (λ (k : ℕ). NoneIs (λ x. x.0 ≡ t) (slice_get (e ∷ es) k)) place is in
        ap (λ (k : ℕ). insert (e ∷ es) k (t, put empty_slot)) place
        ∙ ap (λ (rest : List (ℕ × Later)). e ∷ rest) (absent_at es is_not)
        ∙ sym (earlier t put e es after)
  ]

  -- the same at a place that was looked for
  pub found_by : (es : List (ℕ × Later)) (k : ℕ) (v w : ℕ × Later) → k ≡ place_of_time t es → SomeIs (λ e. e.0 ≡ t) (slice_get es k) →
      v ≡ get_or es k v → w ≡ (v.0, put v.1) → slice_set es k w ≡ later_at t put es
  found_by es k v w place is read becomes =
      ap (slice_set es k) becomes
      ∙ ap (λ (j : ℕ). slice_set es j (v.0, put v.1)) place
      ∙ found_at es v (subst (λ (j : ℕ). SomeIs (λ e. e.0 ≡ t) (slice_get es j)) place is) (subst (λ (j : ℕ). v ≡ get_or es j v) place read)

  pub absent_by : (es : List (ℕ × Later)) (k : ℕ) (w : ℕ × Later) → k ≡ place_of_time t es → NoneIs (λ e. e.0 ≡ t) (slice_get es k) →
      w ≡ (t, put empty_slot) → insert es k w ≡ later_at t put es
  absent_by es k w place is becomes =
      ap (insert es k) becomes
      ∙ ap (λ (j : ℕ). insert es j (t, put empty_slot)) place
      ∙ absent_at es (subst (λ (j : ℕ). NoneIs (λ e. e.0 ≡ t) (slice_get es j)) place is)
