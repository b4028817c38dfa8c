-- Facts about lists of members.
use Rattle.std.proofs.Common.{◌≡◌, ℕ, ◌+◌, ◌-◌, ◌<◌, ◌≤◌, zero, suc, List, [], ◌∷◌, ◌++◌, length, get_or, arith, ap, refl, sym, ◌∙◌}
use Rattle.sched_core.specs.Inner.Reading.{next_from}
use Rattle.sched_core.specs.Logs.{IsLogFrom}

-- what a member put last has to meet
pub record Fits (next : ℕ) (m : ℕ × ℕ) : Type 0 where
  pub rising : next ≤ m.0
  pub step : m.0 ≤ 999999
  pub low : 1 ≤ m.1
  pub high : m.1 ≤ 4294967295

pub IsLogFrom-append : (low : ℕ) (log : List (ℕ × ℕ)) (m : ℕ × ℕ) → IsLogFrom low log → Fits (next_from low log) m → IsLogFrom low (log ++ m ∷ [])
IsLogFrom-append low [] m h f = (f.rising, f.step, f.low, f.high, tt)
IsLogFrom-append low (x ∷ xs) m h f = (h.0, h.1, h.2, h.3, IsLogFrom-append (x.0 + 1) xs m h.4 f)

pub Fits-from_append : (low : ℕ) (log : List (ℕ × ℕ)) (m : ℕ × ℕ) → IsLogFrom low (log ++ m ∷ []) → Fits (next_from low log) m
Fits-from_append low [] m h = record { rising = h.0; step = h.1; low = h.2; high = h.3 }
Fits-from_append low (x ∷ xs) m h = Fits-from_append (x.0 + 1) xs m h.4

-- the members before a place are a log, too
pub IsLogFrom-front : (low : ℕ) (front back : List (ℕ × ℕ)) → IsLogFrom low (front ++ back) → IsLogFrom low front
IsLogFrom-front low [] back h = tt
IsLogFrom-front low (x ∷ xs) back h = (h.0, h.1, h.2, h.3, IsLogFrom-front (x.0 + 1) xs back h.4)

pub next_from-at : (low : ℕ) (log : List (ℕ × ℕ)) (k : ℕ) (d : ℕ × ℕ) → length log ≡ k + 1 → next_from low log ≡ (get_or log k d).0 + 1
next_from-at low [] k d h = absurd (omega (arith, h))
next_from-at low (x ∷ []) zero d h = refl
next_from-at low (x ∷ []) (suc k) d h = absurd (omega (arith, h))
next_from-at low (x ∷ y ∷ ys) zero d h = absurd (omega (arith, h))
next_from-at low (x ∷ y ∷ ys) (suc k) d h = next_from-at (x.0 + 1) (y ∷ ys) k d (omega (arith, h))

pub next_from-last : (low : ℕ) (log : List (ℕ × ℕ)) (m : ℕ × ℕ) → 0 < length log → m ≡ get_or log (length log - 1) m → next_from low log ≡ m.0 + 1
next_from-last low log m h e = next_from-at low log (length log - 1) m (omega arith) ∙ ap (λ x. x.0 + 1) (sym e)

pub next_from-le : (low : ℕ) (log : List (ℕ × ℕ)) → low ≤ 1000000 → IsLogFrom low log → next_from low log ≤ 1000000
next_from-le low [] b h = b
next_from-le low (x ∷ xs) b h = next_from-le (x.0 + 1) xs (omega (arith, h.1)) h.4
