-- *internal*: What a book of one owner keeps, and how it looks entries up.
use Rattle.std.specs.Prelude.{◌≡◌, ◌≤◌, ◌==◌, ◌&&◌, ℕ, Bool, true, false, List, length, slice_get, Some}
use Rattle.statebook.specs.Books.{Book, Dominates, IsUndominated}
use Rattle.statebook.specs.declared.entry.Entry.{Entry}

-- The two entries are equal in state and budget.
abbrev pub alike : {S : Type 0} → (S → S → Bool) → Entry S → Entry S → Bool
alike same e f = same e.state f.state && (e.budget == f.budget)

-- An entry that is equal in state and budget stands at the place.
abbrev pub IsEqualAt : {S : Type 0} → (S → S → Bool) → List (Entry S) → Entry S → ℕ → Type 0
IsEqualAt {S} same entries e place = (f : Entry S) × (slice_get entries place ≡ Some f) × (alike same e f ≡ true)

-- No entry is equal in state and budget.
abbrev pub HasNoEqual : {S : Type 0} → (S → S → Bool) → List (Entry S) → Entry S → Type 0
HasNoEqual {S} same entries e = (place : ℕ) (f : Entry S) → slice_get entries place ≡ Some f → alike same e f ≡ false

-- No entry of a budget up to the top dominates this one.
abbrev pub HasNoDominator : {S : Type 0} → (S → S → Bool) → List (Entry S) → ℕ → Entry S → Type 0
HasNoDominator {S} same entries top e = (place : ℕ) (f : Entry S) → slice_get entries place ≡ Some f → f.budget ≤ top → Dominates same f e.state e.budget → ⊥

-- What a one-owner book keeps: a list of successors or none for each entry, and no budget over the top.
pub record IsKept {S : Type 0} (same : S → S → Bool) (b : Book S) (top : ℕ) : Type 0 where
  pub paired : length b.finished ≡ length b.entries
  pub undominated : IsUndominated same b.entries
  pub budgets : (i : ℕ) (e : Entry S) → slice_get b.entries i ≡ Some e → e.budget ≤ top
