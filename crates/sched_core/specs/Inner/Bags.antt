-- *internal*: Where a bag's new line goes, and lines as they are gathered.
use Rattle.std.specs.Prelude.{◌≡◌, ◌≢◌, ℕ, ◌<◌, ◌≤◌, false, List, [], ◌∷◌, slice_get, Some, nat_eq}
use Rattle.std.specs.Ordering.{nat_cmp}
use Rattle.std.specs.Cmp.Lexicographic.{slice_cmp}
use Rattle.std.specs.declared.cmp.Ordering.TheVariants.{Less}

-- the line is less than none of the first k
abbrev pub IsBehind : List ℕ → List (List ℕ) → ℕ → Type 0
IsBehind line lines k = (j : ℕ) (other : List ℕ) → j < k → slice_get lines j ≡ Some other → slice_cmp nat_cmp line other ≢ Less

-- it is less than all others
abbrev pub IsBefore : List ℕ → List (List ℕ) → ℕ → Type 0
IsBefore line lines k = (j : ℕ) (other : List ℕ) → k ≤ j → slice_get lines j ≡ Some other → slice_cmp nat_cmp line other ≡ Less

-- no byte of it is a line feed
abbrev pub HasNoFeed : List ℕ → Type 0
HasNoFeed [] = Unit {0}
HasNoFeed (byte ∷ more) = (nat_eq byte 10 ≡ false) × HasNoFeed more
