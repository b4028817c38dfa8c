-- *internal*: What a search keeps as it goes from one time to the next.
use Rattle.std.specs.Prelude.{◌≡◌, ◌≢◌, ℕ, ◌-◌, ◌⊎◌, Bool, true, List, [], length, Option, Some, None, IfSome}
use Rattle.indexmap.specs.IndexMap.{IsUnique}
use Rattle.sched_core.specs.Rules.{Rules, stands}
use Rattle.matching.specs.Explained.{Piece, differ_at, latest_time, IsExplained}
use Rattle.matching.specs.Answers.{IsLater, IsNearRun, SomeIsExplained}
use Rattle.matching.specs.Inner.Candidates.{AddsOnly, AreWays, IsAWay, IsFittingEnd, IsIn, IsKept, KeepsAll, KeepsEnds}
use Rattle.matching.specs.Inner.Reading.{HasRead}
use Rattle.statebook.specs.declared.limits.Limits.{Limits}
use Rattle.matching.specs.Slots.{IsFull, IsTooLong}
use Rattle.matching.specs.declared.answer.Explanation.{Explanation}
use Rattle.matching.specs.declared.candidates.Way.{Way}
use Rattle.matching.specs.declared.halt.Halt.{Halt}
use Rattle.matching.specs.declared.halt.Halt.TheVariants.{Entries, Steps, Stopped}
use Rattle.matching.specs.declared.search.Nearest.{Nearest}
use Rattle.matching.specs.declared.search.Search.{Search}
use Rattle.matching.specs.declared.slot.SlotStart.{SlotStart}

-- The runs that differ least are such.
pub record AreNear {S : Type 0} (P : Explanation S → Type 0) (one other : Option (Nearest S)) : Type 0 where
  pub ending : IfSome one (λ n. P n.run)
  pub waiting : IfSome other (λ n. P n.run)

-- it is what was kept before, or is such
abbrev pub IsNearOr : {S : Type 0} → Option (Nearest S) → (Explanation S → Type 0) → Option (Nearest S) → Type 0
IsNearOr old P new = IfSome new (λ n. (old ≡ Some n) ⊎ P n.run)

-- The runs that differ least are those that did before, or are such.
pub record AddsNear {S : Type 0} (P : Explanation S → Type 0) (old new : Search S) : Type 0 where
  pub ending : IsNearOr old.ending P new.ending
  pub waiting : IsNearOr old.waiting P new.waiting

-- the run is one of the two
abbrev pub IsRunOf : {S : Type 0} → Option (Nearest S) → Explanation S → Type 0
IsRunOf {S} nearest e = (n : Nearest S) × (nearest ≡ Some n) × (n.run ≡ e)

abbrev pub IsOneOfBoth : {S : Type 0} → Option (Nearest S) → Option (Nearest S) → Explanation S → Type 0
IsOneOfBoth ending waiting e = IsRunOf ending e ⊎ IsRunOf waiting e

-- Candidates are distinct ends of slots.
pub record IsSearch {S : Type 0} (same : S → S → Bool) (r : Rules S) (rank : S → ℕ) (search : Search S) : Type 0 where
  pub unique : IsUnique same search.candidates
  pub ways : AreWays r rank search.candidates.entries

-- At the same time there are more candidates, all of them such.
pub record Extends {S : Type 0} (r : Rules S) (P : S × Way S → Type 0) (old new : Search S) : Type 0 where
  pub time : new.time ≡ old.time
  pub adds : AddsOnly old.candidates.entries new.candidates.entries P
  pub all : KeepsAll r old.candidates.entries new.candidates.entries

-- The candidates are the ends of the first slot in which nothing differs.
pub record OpensWith {S : Type 0} (r : Rules S) (rank : S → ℕ) (differ : S → ℕ) (most : ℕ) (start : SlotStart S)
    (entries : List (S × Way S)) : Type 0 where
  pub only : (e : S × Way S) → IsIn entries e → IsFittingEnd r rank differ most start e
  pub all : KeepsEnds r differ most start entries

-- The slot is the one that runs open with.
pub record IsOpening {S : Type 0} (r : Rules S) (start : SlotStart S) : Type 0 where
  pub state : r.same start.state r.first ≡ true
  pub log : start.log ≡ []
  pub steps : start.steps ≡ 0

-- The candidates are the runs that are explained up to the time: each is one, and each other run that is one stands at a
-- candidate's state, with no fewer departures.
pub record AreMatched {S : Type 0} (r : Rules S) (rank : S → ℕ) (shown : ℕ → S → ℕ) (most v : ℕ)
    (entries : List (S × Way S)) : Type 0 where
  pub way : (e : S × Way S) → IsIn entries e → IsAWay r rank e
  pub explained : (e : S × Way S) → IsIn entries e → IsExplained r rank shown most v e.1.log e.1.steps
  pub all : (log : List (ℕ × ℕ)) (k : ℕ) → IsExplained r rank shown most v log k →
      IsKept r entries (stands r log k) (length log)

-- The reference was read up to the time of the search, whose candidates are the runs that are explained up to it. The next piece is
-- later; where there is none, the time is the last of a piece. Some run is explained up to the time before, if runs open earlier; and
-- the runs that differ least come near the time.
pub record HasSearchedTo {R S : Type 0} (r : Rules S) (rank : S → ℕ) (most : ℕ) (piece : R → Piece S) (upcoming : R → Option ℕ)
    (reads : R → List (Piece S) → R → Type 0) (first now : R) (time : ℕ) (entries : List (S × Way S))
    (ending waiting : Option (Nearest S)) : Type 0 where
  pub read : HasRead piece reads first (rank r.first) time now
  pub matched : AreMatched r rank (differ_at (piece first) read.pieces) most time entries
  pub ahead : IsLater (upcoming now) time
  pub last : upcoming now ≡ None → time ≡ latest_time (rank r.first) read.pieces
  pub reached : (time ≡ rank r.first) ⊎ SomeIsExplained r rank (differ_at (piece first) read.pieces) most (time - 1)
  pub near : AreNear (IsNearRun r rank (differ_at (piece first) read.pieces) most time) ending waiting

-- the time that comes next, if the search is to go on
pub record IsWanted {S : Type 0} (upcoming : Option ℕ) (entries : List (S × Way S)) (t : ℕ) : Type 0 where
  pub next : upcoming ≡ Some t
  pub some : entries ≢ []

-- there is no candidate, or nothing is left
abbrev pub IsOver : {S : Type 0} → Option ℕ → List (S × Way S) → Type 0
IsOver upcoming entries = (entries ≡ []) ⊎ (upcoming ≡ None)

-- why a search stops short, where it wasn't stopped
abbrev pub IsReason : {S : Type 0} → Rules S → Limits → Halt → Type 0
IsReason r limits Entries = IsFull r limits
IsReason r limits Steps = IsTooLong r limits
IsReason r limits Stopped = Unit {0}
