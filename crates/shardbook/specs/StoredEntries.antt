-- *internal*: The entries of a shared book, as what shows them says.
use Rattle.std.specs.Prelude.{ℕ, List, map}
use Rattle.statebook.specs.declared.entry.Entry.{Entry}

-- An entry that was seen to stand at a place; its successors go to the slot.
pub record StoredEntry (S : Type 0) : Type 0 where
  pub place : ℕ
  pub entry : Entry S
  pub slot : ℕ

abbrev pub entries_of : {S : Type 0} → List (StoredEntry S) → List (Entry S)
entries_of {S} stored_entries = map (λ (s : StoredEntry S). s.entry) stored_entries

-- An entry, and what it met.
pub record ExpandedEntry (S : Type 0) : Type 0 where
  pub entry : StoredEntry S
  pub next : List (StoredEntry S)
