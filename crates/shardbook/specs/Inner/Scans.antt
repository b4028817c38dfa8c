-- *internal*: How a list of entries that were seen is gone through.
use Rattle.std.specs.Prelude.{◌≡◌, ℕ, List, [], slice_get, Option, Some}
use Rattle.sched_core.specs.Rules.{Rules}
use Rattle.statebook.specs.declared.entry.Entry.{Entry}
use Rattle.shardbook.specs.Finishes.{HasSuccessors}
use Rattle.shardbook.specs.EntryRules.{IsWanted}
use Rattle.shardbook.specs.StoredEntries.{StoredEntry, entries_of}

-- It is the entry of a run that has taken no step.
pub record IsStart {S : Type 0} (e : Entry S) : Type 0 where
  pub log : e.log ≡ []
  pub steps : e.steps ≡ 0

-- what shows the same stands in the list
abbrev pub IsAmong : {S : Type 0} → List (StoredEntry S) → StoredEntry S → Type 0
IsAmong all s = (j : ℕ) × (slice_get all j ≡ Some s)

-- so it is with each of these
abbrev pub AllAmong : {S : Type 0} → List (StoredEntry S) → List (StoredEntry S) → Type 0
AllAmong {S} all these = (c : ℕ) (s : StoredEntry S) → slice_get these c ≡ Some s → IsAmong all s

-- The entry is one that the search may add, it is finished, and what it met is among all.
pub record IsDone {S : Type 0} (rules : Option (Rules S)) (k limit : ℕ) (all : List (StoredEntry S)) (s : StoredEntry S) : Type 0 where
  pub wanted : IsWanted rules k limit s.entry
  pub next : List (StoredEntry S)
  pub met : HasSuccessors rules s.entry (entries_of next)
  pub inside : AllAmong all next

-- so it is with each of these
abbrev pub AllDone : {S : Type 0} → Option (Rules S) → ℕ → ℕ → List (StoredEntry S) → List (StoredEntry S) → Type 0
AllDone {S} rules k limit all these = (c : ℕ) (s : StoredEntry S) → slice_get these c ≡ Some s → IsDone rules k limit all s
