-- *product rule*: What an explorer lists: marks, each with the log of a run that reaches it. And when that is all of them. Only
-- `HasEntries` and what it names has to be believed.
use Rattle.std.specs.Prelude.{◌≡◌, ℕ, ◌<◌, ◌≤◌, true, List, length, slice_get, Some}
use Rattle.sched_core.specs.Rules.{Rules, stands, IsRun, NamesBelow}
use Rattle.statebook.specs.Covered.{IsCovered}
use Rattle.statebook.specs.ExplorerCore.{IsEntry}
use Rattle.statebook.specs.declared.entry.Entry.{Entry}
use Rattle.statebook.specs.declared.limits.Limits.{Limits}
use Rattle.statebook.specs.Ways.{SomeRunExceeds}
use Rattle.explore.specs.declared.findings.Findings.{Findings}
use Rattle.statebook.specs.declared.reason.Reason.TheVariants.{Entries, Steps}
use Rattle.explore.specs.declared.findings.Status.TheVariants.{Exhausted, Cut}

-- The pair is a mark with its log: the run under the log is within the limits, takes all that the log
-- names, and stands at the mark.
pub record IsFound {S : Type 0} (r : Rules S) (limits : Limits) (found : S × List (ℕ × ℕ)) : Type 0 where
  pub steps : ℕ
  pub run : IsRun r found.1 steps
  pub at : r.same found.0 (stands r found.1 steps) ≡ true
  pub mark : r.mark found.0 ≡ true
  pub names : NamesBelow found.1 steps
  pub within : steps ≤ limits.steps
  pub short : length found.1 ≤ limits.depart

-- Each of the pairs is a mark with its log.
abbrev pub AreFound : {S : Type 0} → Rules S → Limits → List (S × List (ℕ × ℕ)) → Type 0
AreFound {S} r limits marks = (i : ℕ) (found : S × List (ℕ × ℕ)) → slice_get marks i ≡ Some found → IsFound r limits found

-- A state equal to s is listed, under a log of at most d departures.
pub record IsListedMark {S : Type 0} (r : Rules S) (marks : List (S × List (ℕ × ℕ))) (s : S) (d : ℕ) : Type 0 where
  pub place : ℕ
  pub found : S × List (ℕ × ℕ)
  pub at : slice_get marks place ≡ Some found
  pub same : r.same found.0 s ≡ true
  pub departures : length found.1 ≤ d

-- No run at all that comes to s has fewer than d departures.
abbrev pub NoneFewer : {S : Type 0} → Rules S → S → ℕ → Type 0
NoneFewer r s d = (log : List (ℕ × ℕ)) (n : ℕ) → IsRun r log n → r.same s (stands r log n) ≡ true → d ≤ length log

-- No run at all that reaches a listed mark has fewer departures than its log.
abbrev pub AllFewest : {S : Type 0} → Rules S → List (S × List (ℕ × ℕ)) → Type 0
AllFewest {S} r marks = (i : ℕ) (found : S × List (ℕ × ℕ)) → slice_get marks i ≡ Some found → NoneFewer r found.0 (length found.1)

-- The entries aren't alike in state and budget.
abbrev pub Differ : {S : Type 0} → Rules S → Entry S → Entry S → Type 0
Differ r e f = r.same e.state f.state ≡ true → e.budget ≡ f.budget → ⊥

-- At least as many entries as the limit exist that may be added, no two of them alike in state and budget.
pub record HasEntries {S : Type 0} (r : Rules S) (limits : Limits) : Type 0 where
  pub entries : List (Entry S)
  pub count : limits.entries ≤ length entries
  pub allowed : (i : ℕ) (e : Entry S) → slice_get entries i ≡ Some e → IsEntry r limits.depart limits.steps e
  pub differ : (i j : ℕ) (e f : Entry S) → i < j → slice_get entries i ≡ Some e → slice_get entries j ≡ Some f → Differ r e f

-- each listed mark is one, under its log
abbrev pub ListsFound : {S : Type 0} → Rules S → Limits → Findings S → Type 0
ListsFound r limits findings = AreFound r limits findings.marks.entries

-- `Exhausted` is said only where every mark of every run within the limit of departures is listed
abbrev pub ListsAll : {S : Type 0} → Rules S → Limits → Findings S → Type 0
ListsAll r limits findings = findings.status ≡ Exhausted → IsCovered r limits.depart (IsListedMark r findings.marks.entries)

-- and then each under a log of the fewest departures
abbrev pub ListsFewest : {S : Type 0} → Rules S → Findings S → Type 0
ListsFewest r findings = findings.status ≡ Exhausted → AllFewest r findings.marks.entries

-- `Cut(Entries)` is said only where there are so many entries
abbrev pub TellsEntries : {S : Type 0} → Rules S → Limits → Findings S → Type 0
TellsEntries r limits findings = findings.status ≡ Cut Entries → HasEntries r limits

-- `Cut(Steps)` is said only where a run takes more steps
abbrev pub TellsSteps : {S : Type 0} → Rules S → Limits → Findings S → Type 0
TellsSteps r limits findings = findings.status ≡ Cut Steps → SomeRunExceeds r limits
