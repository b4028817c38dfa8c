-- *internal*: Words for the list of marks that is read from entries that were seen.
use Rattle.std.specs.Prelude.{◌≡◌, ℕ, ◌≤◌, Bool, true, List, length, slice_get, Some}
use Rattle.sched_core.specs.Rules.{Rules}
use Rattle.statebook.specs.declared.entry.Entry.{Entry}
use Rattle.shardbook.specs.StoredEntries.{StoredEntry}
use Rattle.explore.specs.Found.{IsListedMark}

-- A state equal to this one is listed, under a log of at most d departures: `IsListedMark` by the code's own test, which is
-- asked the other way round.
pub record IsShort {S : Type 0} (same : S → S → Bool) (marks : List (S × List (ℕ × ℕ))) (s : S) (d : ℕ) : Type 0 where
  pub place : ℕ
  pub found : S × List (ℕ × ℕ)
  pub at : slice_get marks place ≡ Some found
  pub equal : same s found.0 ≡ true
  pub departures : length found.1 ≤ d

-- Where a state equal to this one is listed, it is under a log of d departures or more.
abbrev pub AreLong : {S : Type 0} → (S → S → Bool) → List (S × List (ℕ × ℕ)) → S → ℕ → Type 0
AreLong {S} same marks s d = (i : ℕ) (p : S × List (ℕ × ℕ)) → slice_get marks i ≡ Some p → same s p.0 ≡ true → d ≤ length p.1

-- The mark that the entry stands at, if it is one, is listed, under a log with no more departures.
abbrev pub ListsEntry : {S : Type 0} → Rules S → List (S × List (ℕ × ℕ)) → Entry S → Type 0
ListsEntry r marks e = r.mark e.state ≡ true → IsListedMark r marks e.state (length e.log)

-- So it is of each of the entries.
abbrev pub ListsEach : {S : Type 0} → Rules S → List (Entry S) → List (S × List (ℕ × ℕ)) → Type 0
ListsEach {S} r entries marks = (i : ℕ) (e : Entry S) → slice_get entries i ≡ Some e → ListsEntry r marks e

-- What was listed under at most d departures stays so.
abbrev pub KeepsListed : {S : Type 0} → Rules S → List (S × List (ℕ × ℕ)) → List (S × List (ℕ × ℕ)) → Type 0
KeepsListed {S} r old new = (s : S) (d : ℕ) → IsListedMark r old s d → IsListedMark r new s d

-- Each of the list shows the entry of the place at which it stands in the list.
abbrev pub InPlace : {S : Type 0} → List (StoredEntry S) → Type 0
InPlace {S} all = (i : ℕ) (s : StoredEntry S) → slice_get all i ≡ Some s → s.place ≡ i
