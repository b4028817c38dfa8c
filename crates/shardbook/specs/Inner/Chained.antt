-- *internal*: The codes of a list's members, and where the last member of a code stands.
use Rattle.std.specs.Prelude.{◌≡◌, ◌≢◌, ℕ, ◌<◌, Bool, List, slice_get, Option, Some, None}

-- The codes of the members in their order, and whether there is room for one more.
pub record Chained : Type 0 where
  pub codes : List ℕ
  pub room : Bool

-- Of the first n members, the one at the place is the last that has the code; or none has it.
abbrev pub IsLast : List ℕ → ℕ → ℕ → Option ℕ → Type 0
IsLast codes n code None = (j : ℕ) → j < n → slice_get codes j ≢ Some code
IsLast codes n code (Some i) = (i < n) × (slice_get codes i ≡ Some code) × ((j : ℕ) → i < j → j < n → slice_get codes j ≢ Some code)

-- Of the members before the place, it is the last that has the code of the one there.
abbrev pub IsLastBefore : List ℕ → ℕ → Option ℕ → Type 0
IsLastBefore codes place found = (code : ℕ) → slice_get codes place ≡ Some code → IsLast codes place code found
