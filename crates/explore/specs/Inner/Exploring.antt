-- *internal*: What the parts of the explorer keep as they go on.
use Rattle.std.specs.Prelude.{◌≡◌, ℕ, ◌+◌, ◌^◌, ◌<◌, ◌≤◌, ◌⊎◌, Bool, false, List, length, slice_get, Some, Result, Err}
use Rattle.basis.specs.declared.memory.OrMemory.{OrMemory}
use Rattle.basis.specs.declared.memory.OrMemory.TheVariants.{Fault}
use Rattle.sched_core.specs.Rules.{Rules}
use Rattle.statebook.specs.Books.{Book, IsClosed, IsFinished, IsRootAt, add}
use Rattle.statebook.specs.ExplorerCore.{IsEntry, IsSuccessorAt, IsSound, choices_of}
use Rattle.statebook.specs.declared.entry.Entry.{Entry}
use Rattle.statebook.specs.declared.limits.Limits.{Limits}
use Rattle.statebook.specs.Ways.{Allows}
use Rattle.explore.specs.BookFindings.{AllChoicesLeadOn, SomeChoiceGoesPast, SomeWayGoesPast}
use Rattle.explore.specs.declared.classes.Full.{Full}

-- It is so of the entry at the place.
abbrev pub OfEntry : {S : Type 0} → Book S → ℕ → (Entry S → Type 0) → Type 0
OfEntry {S} b place P = (e : Entry S) → slice_get b.entries place ≡ Some e → P e

-- Where it is said that not every way was within the limit of steps, a way from one of the entries goes past it.
abbrev pub CutsShort : {S : Type 0} → Rules S → Limits → Book S → Bool → Type 0
CutsShort r limits b within = within ≡ false → SomeWayGoesPast r limits b.entries

-- So it is of the ways from the entry at the place.
abbrev pub CutsShortAt : {S : Type 0} → Rules S → Limits → Book S → ℕ → Bool → Type 0
CutsShortAt r limits b place within = within ≡ false → OfEntry b place (SomeChoiceGoesPast r limits)

-- The work was stopped by the limit of entries.
abbrev pub StoppedFull : Result Bool (OrMemory Full) → Type 0
StoppedFull visited = (full : Full) × (visited ≡ Err (Fault full))

-- The book grew: entries stay, finished ones too, and what was added has at most this budget.
pub record BookGrows {S : Type 0} (old new : Book S) (budget : ℕ) : Type 0 where
  pub stays : (i : ℕ) (e : Entry S) → slice_get old.entries i ≡ Some e → slice_get new.entries i ≡ Some e
  pub done : (i : ℕ) (places : List ℕ) → slice_get old.finished i ≡ Some (Some places) → slice_get new.finished i ≡ Some (Some places)
  pub lower : (i : ℕ) (e : Entry S) → slice_get new.entries i ≡ Some e → (slice_get old.entries i ≡ Some e) ⊎ (e.budget ≤ budget)

-- It grew so by the choices of the entry at the place.
abbrev pub GrowsFrom : {S : Type 0} → Book S → Book S → ℕ → Type 0
GrowsFrom old new place = OfEntry old place (λ e. BookGrows old new e.budget)

-- The entry at the place allows the choice.
abbrev pub AllowsAt : {S : Type 0} → Rules S → Book S → ℕ → ℕ → Type 0
AllowsAt r b place c = OfEntry b place (λ e. Allows r e c)

-- The entry at place j dominates the next station after choice c of the entry at the place.
abbrev pub IsSuccessorOfPlace : {S : Type 0} → Rules S → Book S → ℕ → ℕ → ℕ → Type 0
IsSuccessorOfPlace r b place c j = OfEntry b place (λ e. IsSuccessorAt r b.entries e c j)

-- All choices of the entry at the place lead on.
abbrev pub LeadsOnAt : {S : Type 0} → Rules S → Limits → Book S → ℕ → Type 0
LeadsOnAt r limits b place = OfEntry b place (AllChoicesLeadOn r limits b.entries)

-- No more entries were added than the entry at the place has choices.
abbrev pub AddsFew : {S : Type 0} → Rules S → Book S → ℕ → Book S → Type 0
AddsFew r old place new = OfEntry old place (λ e. length new.entries ≤ length old.entries + choices_of (r.width e.state) e.budget)

-- A state's choices are counted by 32 bits, so there are fewer than this.
abbrev pub width_limit : ℕ
width_limit = 2 ^ 32

-- What an explorer's book is at any time: sound, and its first entry the root's.
pub record IsUnderWay {S : Type 0} (r : Rules S) (limits : Limits) (b : Book S) : Type 0 where
  pub sound : IsSound r limits.depart limits.steps b
  pub root : IsRootAt b.entries 0

-- Each entry of the book may be added within the limits.
abbrev pub AreEntries : {S : Type 0} → Rules S → Limits → Book S → Type 0
AreEntries {S} r limits b = (i : ℕ) (e : Entry S) → slice_get b.entries i ≡ Some e → IsEntry r limits.depart limits.steps e

-- The book stays, or has the entry more.
abbrev pub IsSameOrAdded : {S : Type 0} → Book S → Entry S → Book S → Type 0
IsSameOrAdded old e new = (new ≡ old) ⊎ (new ≡ add old e)

-- Each entry of the book is finished.
abbrev pub AllFinished : {S : Type 0} → Book S → Type 0
AllFinished {S} b = (i : ℕ) (e : Entry S) → slice_get b.entries i ≡ Some e → IsFinished b i

-- It is so of each place that has an entry with just this budget.
abbrev pub EachWith : {S : Type 0} → Book S → ℕ → (ℕ → Type 0) → Type 0
EachWith {S} b budget P = (i : ℕ) (e : Entry S) → slice_get b.entries i ≡ Some e → e.budget ≡ budget → P i

-- Each entry with just this budget is finished.
abbrev pub FinishedAt : {S : Type 0} → Book S → ℕ → Type 0
FinishedAt b budget = EachWith b budget (IsFinished b)

-- The entry at the place was visited: all its choices lead on, and as it was taken there were fewer entries than the limit.
pub record WasVisited {S : Type 0} (r : Rules S) (limits : Limits) (entries : List (Entry S)) (place : ℕ) : Type 0 where
  pub entry : Entry S
  pub at : slice_get entries place ≡ Some entry
  pub leads : AllChoicesLeadOn r limits entries entry
  pub fewer : place + 1 < limits.entries

-- Each entry was visited.
abbrev pub AllVisited : {S : Type 0} → Rules S → Limits → Book S → Type 0
AllVisited {S} r limits b = (i : ℕ) (e : Entry S) → slice_get b.entries i ≡ Some e → WasVisited r limits b.entries i

-- Each entry with just this budget was visited.
abbrev pub VisitedAt : {S : Type 0} → Rules S → Limits → Book S → ℕ → Type 0
VisitedAt r limits b budget = EachWith b budget (WasVisited r limits b.entries)

-- Some list of places closes the book, from the root's at 0.
abbrev pub Closes : {S : Type 0} → Book S → Type 0
Closes b = (all : List ℕ) × IsClosed b 0 all

-- Each of the places is below the count.
abbrev pub AreBelow : List ℕ → ℕ → Type 0
AreBelow places count = (c j : ℕ) → slice_get places c ≡ Some j → j < count

-- It is finished at the place, and names only places of entries.
abbrev pub NamesEntries : {S : Type 0} → Book S → ℕ → Type 0
NamesEntries b i = (places : List ℕ) × (slice_get b.finished i ≡ Some (Some places)) × AreBelow places (length b.entries)

-- Each entry is finished and names only places of entries.
pub record IsComplete {S : Type 0} (b : Book S) : Type 0 where
  pub root : IsRootAt b.entries 0
  pub places : (i : ℕ) → i < length b.entries → NamesEntries b i
