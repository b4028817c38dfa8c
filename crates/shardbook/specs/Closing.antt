-- *internal*: When a list of entries that were seen closes.
use Rattle.std.specs.Prelude.{◌≡◌, ℕ, List, length, slice_get, Option, Some}
use Rattle.std.specs.List.{range_with_len}
use Rattle.sched_core.specs.Rules.{Rules}
use Rattle.statebook.specs.Books.{Book, IsClosed}
use Rattle.statebook.specs.ExplorerCore.{IsSound}
use Rattle.statebook.specs.declared.entry.Entry.{Entry}
use Rattle.shardbook.specs.StoredEntries.{StoredEntry, entries_of}

-- A book of just these entries is sound, and all its places together close it, from the place of the root's entry on.
pub record Closing {S : Type 0} (r : Rules S) (k limit : ℕ) (root : Entry S) (entries : List (Entry S)) : Type 0 where
  pub book : Book S
  pub entries_are : book.entries ≡ entries
  pub sound : IsSound r k limit book
  pub place : ℕ
  pub root_is : slice_get entries place ≡ Some root
  pub closed : IsClosed book place (range_with_len 0 (length entries))

-- So it is by the rules, if they are known.
abbrev pub Closes : {S : Type 0} → Option (Rules S) → ℕ → ℕ → StoredEntry S → List (StoredEntry S) → Type 0
Closes {S} rules k limit root all = (r : Rules S) → rules ≡ Some r → Closing r k limit root.entry (entries_of all)
