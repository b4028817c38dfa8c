-- *internal*: What an answer tells of the book that the search left: whatever the status, the marks are read from such a book.
use Rattle.std.specs.Prelude.{◌≡◌, ℕ, ◌+◌, ◌<◌, ◌≤◌, ◌⊎◌, true, List, length, slice_get, Some}
use Rattle.sched_core.specs.Rules.{Rules}
use Rattle.statebook.specs.Books.{Book, IsRootAt, IsUndominated}
use Rattle.statebook.specs.ExplorerCore.{IsSuccessorAt, IsReached, choices_of}
use Rattle.statebook.specs.declared.entry.Entry.{Entry}
use Rattle.statebook.specs.declared.limits.Limits.{Limits}
use Rattle.statebook.specs.Ways.{Allows, ChoiceGoesPast}
use Rattle.explore.specs.declared.findings.Findings.{Findings}
use Rattle.statebook.specs.declared.reason.Reason.TheVariants.{Entries, Steps}
use Rattle.explore.specs.declared.findings.Status.{Status}
use Rattle.explore.specs.declared.findings.Status.TheVariants.{Exhausted, Cut}

-- After choice c the way leads to an entry that dominates its next station, or goes past the step limit.
abbrev pub LeadsOn : {S : Type 0} → Rules S → Limits → List (Entry S) → Entry S → ℕ → Type 0
LeadsOn r limits entries e c = ((j : ℕ) × IsSuccessorAt r entries e c j) ⊎ ChoiceGoesPast r limits e c

-- Some choice that the entry's budget allows goes past the step limit: the run under the entry's log that goes on by
-- this choice, and then by choice 0 alone, comes to no further station up to that limit.
pub record SomeChoiceGoesPast {S : Type 0} (r : Rules S) (limits : Limits) (e : Entry S) : Type 0 where
  pub choice : ℕ
  pub allowed : Allows r e choice
  pub past : ChoiceGoesPast r limits e choice

-- From one of the entries some choice goes past the step limit.
pub record SomeWayGoesPast {S : Type 0} (r : Rules S) (limits : Limits) (entries : List (Entry S)) : Type 0 where
  pub place : ℕ
  pub entry : Entry S
  pub at : slice_get entries place ≡ Some entry
  pub past : SomeChoiceGoesPast r limits entry

-- Each choice that the entry's budget allows leads on.
abbrev pub AllChoicesLeadOn : {S : Type 0} → Rules S → Limits → List (Entry S) → Entry S → Type 0
AllChoicesLeadOn r limits entries e = (c : ℕ) → Allows r e c → LeadsOn r limits entries e c

-- So does each choice of each entry: no other entry can be met.
abbrev pub AllLeadOn : {S : Type 0} → Rules S → Limits → List (Entry S) → Type 0
AllLeadOn {S} r limits entries = (i : ℕ) (e : Entry S) → slice_get entries i ≡ Some e → AllChoicesLeadOn r limits entries e

-- The pair is a mark, and the state and the log of an entry; none that stands there has a greater budget.
pub record IsBest {S : Type 0} (r : Rules S) (entries : List (Entry S)) (found : S × List (ℕ × ℕ)) : Type 0 where
  pub place : ℕ
  pub entry : Entry S
  pub at : slice_get entries place ≡ Some entry
  pub same : r.same found.0 entry.state ≡ true
  pub mark : r.mark found.0 ≡ true
  pub log : found.1 ≡ entry.log
  pub greatest : (i : ℕ) (e : Entry S) → slice_get entries i ≡ Some e → r.same found.0 e.state ≡ true → e.budget ≤ entry.budget

-- The state, or one equal to it, is listed.
pub record IsAmongMarks {S : Type 0} (r : Rules S) (marks : List (S × List (ℕ × ℕ))) (s : S) : Type 0 where
  pub place : ℕ
  pub found : S × List (ℕ × ℕ)
  pub at : slice_get marks place ≡ Some found
  pub same : r.same found.0 s ≡ true

-- The list is of the marks that entries stand at: all of them, and each from the entry of the greatest budget.
pub record ListsExactly {S : Type 0} (r : Rules S) (b : Book S) (marks : List (S × List (ℕ × ℕ))) : Type 0 where
  pub each : (i : ℕ) (e : Entry S) → slice_get b.entries i ≡ Some e → r.mark e.state ≡ true → IsAmongMarks r marks e.state
  pub best : (j : ℕ) (found : S × List (ℕ × ℕ)) → slice_get marks j ≡ Some found → IsBest r b.entries found

-- There are no more entries than the limit and what the choices of one entry can add.
pub record IsBounded {S : Type 0} (r : Rules S) (limit : ℕ) (entries : List (Entry S)) : Type 0 where
  pub place : ℕ
  pub entry : Entry S
  pub at : slice_get entries place ≡ Some entry
  pub few : length entries ≤ limit + choices_of (r.width entry.state) entry.budget

-- No job was left: the search was not stopped for want of memory, nor by the limit of entries.
abbrev pub WentThrough : Status → Type 0
WentThrough status = (status ≡ Exhausted) ⊎ (status ≡ Cut Steps)

-- The answer is read from the book.
-- [reached] Allowed events lead to the book. [root] Its first entry is the root's. [undominated] No entry was
-- added that an earlier one dominates. [marks] Its marks are those listed. [bounded] It hasn't outgrown the limit.
-- The first reason that holds is told: [full] by the limit of entries it was cut only with as many entries, and
-- [fewer] with so many it is always cut, for want of memory if not by that limit. [past] By the limit of steps it was
-- cut only where a way from one of the entries goes past it, and then [steps] each choice of each entry leads on,
-- under that entry's own count of steps.
pub record IsReadFrom {S : Type 0} (r : Rules S) (limits : Limits) (b : Book S) (findings : Findings S) : Type 0 where
  pub reached : IsReached r limits.depart limits.steps b
  pub root : IsRootAt b.entries 0
  pub undominated : IsUndominated r.same b.entries
  pub marks : ListsExactly r b findings.marks.entries
  pub bounded : IsBounded r limits.entries b.entries
  pub full : findings.status ≡ Cut Entries → limits.entries ≤ length b.entries
  pub fewer : WentThrough findings.status → length b.entries < limits.entries
  pub past : findings.status ≡ Cut Steps → SomeWayGoesPast r limits b.entries
  pub steps : findings.status ≡ Cut Steps → AllLeadOn r limits b.entries

-- There is a book that the answer is read from.
abbrev pub TellsOfBook : {S : Type 0} → Rules S → Limits → Findings S → Type 0
TellsOfBook {S} r limits findings = (b : Book S) × IsReadFrom r limits b findings
