-- The future in order of time: what is put to a time comes at its place.
use Rattle.std.proofs.Common.{◌≡◌, ℕ, ◌<◌, List, ◌∷◌, arith}
use Rattle.std.proofs.lemmas.Bool.{ne_eqb}
use Rattle.vmodel.specs.Queue.{Later, empty_slot, later_at}
use Rattle.vmodel.proofs.ProcessLemmas.{is_lt, not_lt, same}

module _ (t : ℕ) (put : Later → Later) where
  pub earlier : (e : ℕ × Later) (es : List (ℕ × Later)) → e.0 < t → later_at t put (e ∷ es) ≡ e ∷ later_at t put es
  earlier e es lt = rw (not_lt t e.0 (omega arith), ne_eqb t e.0 (omega arith))

  pub here : (e : ℕ × Later) (es : List (ℕ × Later)) → t ≡ e.0 → later_at t put (e ∷ es) ≡ (e.0, put e.1) ∷ es
  here e es is = rw (not_lt t e.0 (omega arith), same t e.0 is)

  pub sooner : (e : ℕ × Later) (es : List (ℕ × Later)) → t < e.0 → later_at t put (e ∷ es) ≡ (t, put empty_slot) ∷ e ∷ es
  sooner e es lt = rw (is_lt t e.0 lt)
