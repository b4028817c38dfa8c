-- The log of a run that goes on into a slot, and the members of a log between two steps.
use Rattle.std.proofs.Common.{◌≡◌, ◌≢◌, ℕ, ◌+◌, ◌-◌, ◌<◌, ◌≤◌, ◌==◌, ◌&&◌, nat_le, nat_lt, Bool, true, false, if◌then◌else◌, List, []}
use Rattle.std.proofs.Common.{◌∷◌, ◌++◌, length, length-append, inl, inr, arith, ap, refl, ◌∙◌}
use Rattle.std.proofs.lemmas.Bool.{cases_lt}
use Rattle.std.proofs.lemmas.Bool.Decides.{nat_tests}
use Rattle.sched_core.specs.Rules.{choice_at, NamesBelow}
use Rattle.matching.specs.Explained.{departures_within}
use Rattle.matching.specs.Inner.Slots.{log_later}

-- The members from step i to before step j, so many steps earlier.
abbrev pub between : ℕ → ℕ → List (ℕ × ℕ) → List (ℕ × ℕ)
between i j [] = []
between i j (m ∷ log) = if nat_le i m.0 && nat_lt m.0 j then (m.0 - i, m.1) ∷ between i j log else between i j log

eq_no : (a b : ℕ) → a ≢ b → (a == b) ≡ false
eq_no a b ne = grind (arith, nat_tests, ne)

eq_shift : (n a b : ℕ) → (n + a == n + b) ≡ (a == b)
eq_shift n a b = grind (arith, nat_tests)

-- below the step where the second log begins there is no choice of it
pub shifted_before : (n k : ℕ) (slot : List (ℕ × ℕ)) → k < n → choice_at (log_later n slot) k ≡ 0
shifted_before n k [] lt = refl
shifted_before n k (m ∷ slot) lt =
    let other : (n + m.0 == k) ≡ false = eq_no (n + m.0) k (λ e. absurd (omega (arith, e, lt))) in
    rw other (shifted_before n k slot lt)

pub shifted_at : (n k : ℕ) (slot : List (ℕ × ℕ)) → choice_at (log_later n slot) (n + k) ≡ choice_at slot k
shifted_at n k [] = refl
shifted_at n k (m ∷ slot) = rw (eq_shift n m.0 k) (ap (λ c. if m.0 == k then m.1 else c) (shifted_at n k slot))

-- the joined log has the choices of the first below its steps, and behind them those of the second
pub joined_before : (log : List (ℕ × ℕ)) (n k : ℕ) (slot : List (ℕ × ℕ)) → k < n → choice_at (log ++ log_later n slot) k ≡ choice_at log k
joined_before [] n k slot lt = shifted_before n k slot lt
joined_before (m ∷ log) n k slot lt = ap (λ c. if m.0 == k then m.1 else c) (joined_before log n k slot lt)

pub joined_after : (log : List (ℕ × ℕ)) (n k : ℕ) (slot : List (ℕ × ℕ)) → NamesBelow log n →
    choice_at (log ++ log_later n slot) (n + k) ≡ choice_at slot k
joined_after [] n k slot below = shifted_at n k slot
joined_after (m ∷ log) n k slot below =
    let other : (m.0 == n + k) ≡ false = eq_no m.0 (n + k) (λ e. absurd (omega (arith, e, below.0))) in
    rw other (joined_after log n k slot below.1)

-- nothing is chosen where nothing is named
pub choice_beyond : (log : List (ℕ × ℕ)) (n k : ℕ) → NamesBelow log n → n ≤ k → choice_at log k ≡ 0
choice_beyond [] n k below le = refl
choice_beyond (m ∷ log) n k below le =
    let other : (m.0 == k) ≡ false = eq_no m.0 k (λ e. absurd (omega (arith, e, below.0, le))) in
    rw other (choice_beyond log n k below.1 le)

pub names_more : (log : List (ℕ × ℕ)) (n k : ℕ) → NamesBelow log n → n ≤ k → NamesBelow log k
names_more [] n k below le = tt
names_more (m ∷ log) n k below le = (omega (arith, below.0, le), names_more log n k below.1 le)

names_shifted : (n c : ℕ) (slot : List (ℕ × ℕ)) → NamesBelow slot c → NamesBelow (log_later n slot) (n + c)
names_shifted n c [] below = tt
names_shifted n c (m ∷ slot) below = (omega (arith, below.0), names_shifted n c slot below.1)

pub names_joined : (log : List (ℕ × ℕ)) (n c : ℕ) (slot : List (ℕ × ℕ)) → NamesBelow log n → NamesBelow slot c →
    NamesBelow (log ++ log_later n slot) (n + c)
names_joined [] n c slot below also = names_shifted n c slot also
names_joined (m ∷ log) n c slot below also = (omega (arith, below.0), names_joined log n c slot below.1 also)

pub shifted_length : (n : ℕ) (slot : List (ℕ × ℕ)) → length (log_later n slot) ≡ length slot
shifted_length n [] = refl
shifted_length n (m ∷ slot) = omega (arith, shifted_length n slot)

pub joined_length : (log : List (ℕ × ℕ)) (n : ℕ) (slot : List (ℕ × ℕ)) → length (log ++ log_later n slot) ≡ length log + length slot
joined_length log n slot = length-append log (log_later n slot) ∙ ap (λ l. length log + l) (shifted_length n slot)

abbrev one_if : Bool → ℕ
one_if b = if b then 1 else 0

one_most : (b : Bool) → one_if b ≤ 1
one_most true = omega arith
one_most false = omega arith

none_of : (b : Bool) → b ≡ false → one_if b ≡ 0
none_of b e = ap one_if e

outside_below : (i j s : ℕ) → s < i → (nat_le i s && nat_lt s j) ≡ false
outside_below i j s lt = grind (arith, nat_tests)

outside_above : (i j s : ℕ) → j ≤ s → (nat_le i s && nat_lt s j) ≡ false
outside_above i j s le = grind (arith, nat_tests)

inside : (i j s : ℕ) → i ≤ s → s < j → (nat_le i s && nat_lt s j) ≡ true
inside i j s le lt = grind (arith, nat_tests)

-- departures of a stretch are some of all
pub within_all : (log : List (ℕ × ℕ)) (i j : ℕ) → departures_within log i j ≤ length log
within_all [] i j = omega arith
within_all (m ∷ log) i j = omega (arith, one_most (nat_le i m.0 && nat_lt m.0 j), within_all log i j)

pub within_joined : (a b : List (ℕ × ℕ)) (i j : ℕ) → departures_within (a ++ b) i j ≡ departures_within a i j + departures_within b i j
within_joined [] b i j = omega arith
within_joined (m ∷ a) b i j = omega (arith, within_joined a b i j)

-- none is named behind the last step of the log
pub none_beyond : (log : List (ℕ × ℕ)) (n i j : ℕ) → NamesBelow log n → n ≤ i → departures_within log i j ≡ 0
none_beyond [] n i j below le = refl
none_beyond (m ∷ log) n i j below le =
    omega (
      arith,
      none_of (nat_le i m.0 && nat_lt m.0 j) (outside_below i j m.0 (omega (arith, below.0, le))),
      none_beyond log n i j below.1 le,
    )

-- nor below the step where the second log begins
pub none_before : (slot : List (ℕ × ℕ)) (n i j : ℕ) → j ≤ n → departures_within (log_later n slot) i j ≡ 0
none_before [] n i j le = refl
none_before (m ∷ slot) n i j le =
    omega (
      arith,
      none_of (nat_le i (n + m.0) && nat_lt (n + m.0) j) (outside_above i j (n + m.0) (omega (arith, le))),
      none_before slot n i j le,
    )

-- the members of a stretch
between_by : (i j : ℕ) (m : ℕ × ℕ) (log : List (ℕ × ℕ)) (b : Bool) → length (between i j log) ≡ departures_within log i j →
    length (if b then (m.0 - i, m.1) ∷ between i j log else between i j log) ≡ one_if b + departures_within log i j
between_by i j m log true e = omega (arith, e)
between_by i j m log false e = omega (arith, e)

pub between_length : (log : List (ℕ × ℕ)) (i j : ℕ) → length (between i j log) ≡ departures_within log i j
between_length [] i j = refl
between_length (m ∷ log) i j = between_by i j m log (nat_le i m.0 && nat_lt m.0 j) (between_length log i j)

between_names_by : (i j : ℕ) (m : ℕ × ℕ) (log : List (ℕ × ℕ)) (b : Bool) → (nat_le i m.0 && nat_lt m.0 j) ≡ b →
    NamesBelow (between i j log) (j - i) →
    NamesBelow (if b then (m.0 - i, m.1) ∷ between i j log else between i j log) (j - i)
between_names_by i j m log true is below =
    let lt : m.0 - i < j - i = grind (arith, nat_tests) in
    (lt, below)
between_names_by i j m log false is below = below

pub between_names : (log : List (ℕ × ℕ)) (i j : ℕ) → NamesBelow (between i j log) (j - i)
between_names [] i j = tt
between_names (m ∷ log) i j = between_names_by i j m log (nat_le i m.0 && nat_lt m.0 j) refl (between_names log i j)

between_choice_by : (i j k : ℕ) (m : ℕ × ℕ) (log : List (ℕ × ℕ)) (b : Bool) → (nat_le i m.0 && nat_lt m.0 j) ≡ b → i + k < j →
    choice_at (between i j log) k ≡ choice_at log (i + k) →
    choice_at (if b then (m.0 - i, m.1) ∷ between i j log else between i j log) k ≡ (if m.0 == i + k then m.1 else choice_at log (i + k))
between_choice_by i j k m log true is lt e =
    let le : i ≤ m.0 = grind (arith, nat_tests) in
    let same : (m.0 - i == k) ≡ (m.0 == i + k) = grind (arith, nat_tests) in
    rw same (ap (λ c. if m.0 == i + k then m.1 else c) e)
between_choice_by i j k m log false is lt e =
    let other : (m.0 == i + k) ≡ false = eq_no m.0 (i + k)
    (λ s. absurd (grind (arith, nat_tests, inside i j m.0 (omega (arith, s)) (omega (arith, s, lt))))) in
    rw other e

pub between_choice : (log : List (ℕ × ℕ)) (i j k : ℕ) → i + k < j → choice_at (between i j log) k ≡ choice_at log (i + k)
between_choice [] i j k lt = refl
between_choice (m ∷ log) i j k lt = between_choice_by i j k m log (nat_le i m.0 && nat_lt m.0 j) refl lt (between_choice log i j k lt)

-- two stretches that don't meet have no more departures than all
both_by : (i j k : ℕ) (s : ℕ) → i ≤ j → one_if (nat_le 0 s && nat_lt s i) + one_if (nat_le j s && nat_lt s k) ≤ 1
both_by i j k s le = elim (cases_lt s i) [
  | inl lt ↦ omega (
    arith,
    none_of (nat_le j s && nat_lt s k) (outside_below j k s (omega (arith, lt, le))),
    one_most (nat_le 0 s && nat_lt s i),
  )
  | inr ge ↦ omega (arith, none_of (nat_le 0 s && nat_lt s i) (outside_above 0 i s ge), one_most (nat_le j s && nat_lt s k))
]

pub both_within : (log : List (ℕ × ℕ)) (i j k : ℕ) → i ≤ j → departures_within log 0 i + departures_within log j k ≤ length log
both_within [] i j k le = omega arith
both_within (m ∷ log) i j k le = omega (arith, both_by i j k m.0 le, both_within log i j k le)

-- of the members before a step no more lie in a stretch than of all
front_by : (i a b : ℕ) (m : ℕ × ℕ) (log : List (ℕ × ℕ)) (t : Bool) → departures_within (between 0 i log) a b ≤ departures_within log a b →
    departures_within (if t then (m.0 - 0, m.1) ∷ between 0 i log else between 0 i log) a b ≤ one_if (nat_le a m.0 && nat_lt m.0 b) +
    departures_within log a b
front_by i a b m log true le =
    let same : m.0 - 0 ≡ m.0 = omega arith in
    rw same (omega (arith, le))
front_by i a b m log false le = omega (arith, le)

pub front_within : (log : List (ℕ × ℕ)) (i a b : ℕ) → departures_within (between 0 i log) a b ≤ departures_within log a b
front_within [] i a b = omega arith
front_within (m ∷ log) i a b = front_by i a b m log (nat_le 0 m.0 && nat_lt m.0 i) (front_within log i a b)
