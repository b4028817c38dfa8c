-- *product rule*: The meaning of a space: states with numbered choices, and the runs that logs name.
use Rattle.std.specs.Prelude.{◌≡◌, ℕ, ◌<◌, ◌==◌, zero, suc, Bool, true, List, [], ◌∷◌, if◌then◌else◌}

-- What a space says of its states. Choices of a state are numbered from 0, choice 0 is the default.
pub record Rules (S : Type 0) : Type 0 where
  -- the two states are equal
  pub same : S → S → Bool
  -- the opening state
  pub first : S
  -- how many choices the state has
  pub width : S → ℕ
  -- the state is one of those that are looked for, an observable state
  pub mark : S → Bool
  -- the state after the one step that the choice makes
  pub after : S → ℕ → S

-- States that are equal can't be told apart by what follows: as many choices, both marks or neither,
-- and equal states after the same choice. Where nothing is left to choose there is a mark.
pub record IsLawful {S : Type 0} (r : Rules S) : Type 0 where
  pub reflexive : (s : S) → r.same s s ≡ true
  pub symmetric : (s t : S) → r.same s t ≡ true → r.same t s ≡ true
  pub transitive : (s t u : S) → r.same s t ≡ true → r.same t u ≡ true → r.same s u ≡ true
  pub width_same : (s t : S) → r.same s t ≡ true → r.width s ≡ r.width t
  pub mark_same : (s t : S) → r.same s t ≡ true → r.mark s ≡ r.mark t
  pub after_same : (s t : S) (i : ℕ) → r.same s t ≡ true → i < r.width s → r.same (r.after s i) (r.after t i) ≡ true
  pub end_is_mark : (s : S) → r.width s ≡ 0 → r.mark s ≡ true

-- The choice of step n under a log: the index that the log names for that step, else choice 0.
abbrev pub choice_at : List (ℕ × ℕ) → ℕ → ℕ
choice_at [] n = 0
choice_at (m ∷ log) n = if m.0 == n then m.1 else choice_at log n

-- The state t is where choice i leads from s.
abbrev pub IsAfter : {S : Type 0} → Rules S → S → ℕ → S → Type 0
IsAfter r s i t = r.same t (r.after s i) ≡ true

-- Where the run under the log stands after n steps.
abbrev pub stands : {S : Type 0} → Rules S → List (ℕ × ℕ) → ℕ → S
stands r log zero = r.first
stands r log (suc n) = r.after (stands r log n) (choice_at log n)

-- The run under the log takes its first n steps: each state on the way has the choice that is taken.
abbrev pub IsRun : {S : Type 0} → Rules S → List (ℕ × ℕ) → ℕ → Type 0
IsRun r log n = (k : ℕ) → k < n → choice_at log k < r.width (stands r log k)

-- Each named step lies below n: the first n steps reach all that the log names.
abbrev pub NamesBelow : List (ℕ × ℕ) → ℕ → Type 0
NamesBelow [] n = Unit {0}
NamesBelow (m ∷ log) n = (m.0 < n) × NamesBelow log n
