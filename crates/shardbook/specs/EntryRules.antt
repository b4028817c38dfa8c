-- *internal*: What a search asks of the entries of its book.
use Rattle.std.specs.Prelude.{◌≡◌, ℕ, Option, Some}
use Rattle.sched_core.specs.Rules.{Rules}
use Rattle.statebook.specs.ExplorerCore.{IsEntry}
use Rattle.statebook.specs.declared.entry.Entry.{Entry}

-- The entry is one that `Add` allows, whatever stands in the book, by the rules if they are known.
abbrev pub IsWanted : {S : Type 0} → Option (Rules S) → ℕ → ℕ → Entry S → Type 0
IsWanted {S} rules k limit e = (r : Rules S) → rules ≡ Some r → IsEntry r k limit e
