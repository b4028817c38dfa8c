-- *internal*: How the near future times are marked in a word: bit k says whether the time that is k away is a future time.
use Rattle.std.specs.Prelude.{◌≡◌, ◌==◌, ℕ, suc, ◌+◌, ◌<◌, ◌≤◌, if◌then◌else◌, List, [], ◌∷◌}
use Rattle.std.specs.Int.{bit_at}
use Rattle.vmodel.specs.Queue.{Later}

-- 1 for a future time, 0 for another
abbrev pub mark_of : ℕ → List (ℕ × Later) → ℕ
mark_of t [] = 0
mark_of t (e ∷ es) = if t == e.0 then 1 else mark_of t es

-- the times rise, from low on
abbrev pub TimesFrom : ℕ → List (ℕ × Later) → Type 0
TimesFrom low [] = Unit {0}
TimesFrom low (e ∷ es) = (low ≤ e.0) × TimesFrom (suc e.0) es

-- each bit of the word is the mark of its time
abbrev pub AreMarks : ℕ → ℕ → List (ℕ × Later) → Type 0
AreMarks word time es = (k : ℕ) → k < 64 → bit_at word k ≡ mark_of (time + k) es

-- the future times rise after the current one, and the near ones are marked
pub record IsRing (time near : ℕ) (es : List (ℕ × Later)) : Type 0 where
  pub rises : TimesFrom (suc time) es
  pub marks : AreMarks near time es
