-- *internal*: The candidates of a search, and which of them follow from those of the time before.
use Rattle.std.specs.Prelude.{◌≡◌, ℕ, ◌+◌, ◌<◌, ◌≤◌, ◌⊎◌, true, List, ◌++◌, length, slice_get, Option}
use Rattle.std.specs.Prelude.{Some, None, IfSome}
use Rattle.sched_core.specs.Rules.{Rules}
use Rattle.matching.specs.Slots.{IsRunTo}
use Rattle.matching.specs.Inner.Slots.{log_later, EndsSlot}
use Rattle.matching.specs.declared.answer.Explanation.{Explanation}
use Rattle.matching.specs.declared.candidates.Onward.{Onward}
use Rattle.matching.specs.declared.candidates.Way.{Way}
use Rattle.matching.specs.declared.slot.SlotStart.{SlotStart}

-- it stands somewhere in the list
abbrev pub IsIn : {X : Type 0} → List X → X → Type 0
IsIn xs x = (i : ℕ) × (slice_get xs i ≡ Some x)

-- Where a run goes on from a state: nowhere, or to the state after choice 0, of this rank.
abbrev pub GoesOn : {S : Type 0} → Rules S → (S → ℕ) → S → Option (Onward S) → Type 0
GoesOn r rank s None = r.width s ≡ 0
GoesOn r rank s (Some next) = (0 < r.width s) × (r.same next.state (r.after s 0) ≡ true) × (next.rank ≡ rank next.state)

-- the pair is a mark at which its run stands, with where that goes on
pub record IsAWay {S : Type 0} (r : Rules S) (rank : S → ℕ) (e : S × Way S) : Type 0 where
  pub stands : IsRunTo r e.0 e.1.log e.1.steps
  pub mark : r.mark e.0 ≡ true
  pub next : GoesOn r rank e.0 e.1.next

-- so it is of each
abbrev pub AreWays : {S : Type 0} → Rules S → (S → ℕ) → List (S × Way S) → Type 0
AreWays {S} r rank entries = (e : S × Way S) → IsIn entries e → IsAWay r rank e

-- A state equal to s is in the list, under a log of at most d departures.
pub record IsKept {S : Type 0} (r : Rules S) (entries : List (S × Way S)) (s : S) (d : ℕ) : Type 0 where
  pub entry : S × Way S
  pub at : IsIn entries entry
  pub same : r.same entry.0 s ≡ true
  pub departures : length entry.1.log ≤ d

-- What was in the list under at most d departures is still.
abbrev pub KeepsAll : {S : Type 0} → Rules S → List (S × Way S) → List (S × Way S) → Type 0
KeepsAll {S} r old new = (s : S) (d : ℕ) → IsKept r old s d → IsKept r new s d

-- What came into the list is such.
abbrev pub AddsOnly : {S : Type 0} → List (S × Way S) → List (S × Way S) → (S × Way S → Type 0) → Type 0
AddsOnly {S} old new P = (e : S × Way S) → IsIn new e → IsIn old e ⊎ P e

-- the list is that one with this pair more, or has a pair that is as good
pub record Keeps {S : Type 0} (r : Rules S) (s : S) (way : Way S) (old new : List (S × Way S)) : Type 0 where
  pub adds : AddsOnly old new (λ e. (r.same s e.0 ≡ true) × (e.1 ≡ way))
  pub all : KeepsAll r old new
  pub kept : IsKept r new s (length way.log)

-- The pair stands at the end of a slot, after a run that goes on from the start by at most so many departures.
pub record IsEndOf {S : Type 0} (r : Rules S) (most : ℕ) (start : SlotStart S) (s : S) (log : List (ℕ × ℕ))
    (steps : ℕ) : Type 0 where
  pub slot : List (ℕ × ℕ)
  pub count : ℕ
  pub ends : EndsSlot r start.state slot count s
  pub short : length slot ≤ most
  pub log_is : log ≡ start.log ++ log_later start.steps slot
  pub steps_is : steps ≡ start.steps + count

-- so it does, and nothing differs
pub record IsFittingEnd {S : Type 0} (r : Rules S) (rank : S → ℕ) (differ : S → ℕ) (most : ℕ) (start : SlotStart S)
    (e : S × Way S) : Type 0 where
  pub ends : IsEndOf r most start e.0 e.1.log e.1.steps
  pub fits : differ e.0 ≡ 0
  pub next : GoesOn r rank e.0 e.1.next

-- Each of the ends that were found in which nothing differs is in the list, after a run of so many departures more.
abbrev pub KeepsFound : {S : Type 0} → Rules S → (S → ℕ) → ℕ → List (S × List (ℕ × ℕ)) → List (S × Way S) → Type 0
KeepsFound {S} r differ more marks entries = (found : S × List (ℕ × ℕ)) → IsIn marks found → differ found.0 ≡ 0 →
    IsKept r entries found.0 (more + length found.1)

-- Each end of the slot in which nothing differs is in the list, after a run of at most so many departures more.
abbrev pub KeepsEnds : {S : Type 0} → Rules S → (S → ℕ) → ℕ → SlotStart S → List (S × Way S) → Type 0
KeepsEnds {S} r differ most start entries = (log : List (ℕ × ℕ)) (n : ℕ) (s : S) → length log ≤ most →
    EndsSlot r start.state log n s → differ s ≡ 0 → IsKept r entries s (length start.log + length log)

-- where the slot after a candidate begins
abbrev pub begins : {S : Type 0} → S → Way S → ℕ → SlotStart S
begins s way steps = record { state = s; log = way.log; steps = steps }

-- the candidate's next slot has come at time v, or hasn't
abbrev pub IsDue : {S : Type 0} → ℕ → Way S → Onward S → Type 0
IsDue v way next = (way.next ≡ Some next) × (next.rank ≤ v)

abbrev pub IsWaiting : {S : Type 0} → ℕ → Way S → Type 0
IsWaiting v way = IfSome way.next (λ next. v < next.rank)

-- The second follows from the first at time v: it is the first itself, which waits, or the end of its next slot; nothing differs.
pub record Waits {S : Type 0} (r : Rules S) (differ : S → ℕ) (v : ℕ) (c e : S × Way S) : Type 0 where
  pub waiting : IsWaiting v c.1
  pub same : r.same c.0 e.0 ≡ true
  pub way : e.1 ≡ c.1
  pub fits : differ c.0 ≡ 0

pub record GoesInto {S : Type 0} (r : Rules S) (rank : S → ℕ) (differ : S → ℕ) (most v : ℕ) (c e : S × Way S) : Type 0 where
  pub next : Onward S
  pub due : IsDue v c.1 next
  pub ends : IsFittingEnd r rank differ most (begins next.state c.1 (c.1.steps + 1)) e

abbrev pub Follows : {S : Type 0} → Rules S → (S → ℕ) → (S → ℕ) → ℕ → ℕ → S × Way S → S × Way S → Type 0
Follows r rank differ most v c e = Waits r differ v c e ⊎ GoesInto r rank differ most v c e

-- Whatever follows from the candidate at time v is in the list.
pub record KeepsFollowing {S : Type 0} (r : Rules S) (differ : S → ℕ) (most v : ℕ) (c : S × Way S) (entries : List (S × Way S)) :
    Type 0 where
  pub waits : IsWaiting v c.1 → differ c.0 ≡ 0 → IsKept r entries c.0 (length c.1.log)
  pub ends : (next : Onward S) → IsDue v c.1 next → KeepsEnds r differ most (begins next.state c.1 (c.1.steps + 1)) entries

-- The candidates are what follows at time v from those of a time before.
pub record FollowAll {S : Type 0} (r : Rules S) (rank : S → ℕ) (differ : S → ℕ) (most v : ℕ) (old new : List (S × Way S)) :
    Type 0 where
  pub only : (e : S × Way S) → IsIn new e → (c : S × Way S) × IsIn old c × Follows r rank differ most v c e
  pub all : (c : S × Way S) → IsIn old c → KeepsFollowing r differ most v c new

-- it is the least of a time and the ranks of the next slots
pub record IsEarliest {S : Type 0} (entries : List (S × Way S)) (until v : ℕ) : Type 0 where
  pub within : v ≤ until
  pub least : (e : S × Way S) (next : Onward S) → IsIn entries e → e.1.next ≡ Some next → v ≤ next.rank
  pub some : (v ≡ until) ⊎ ((e : S × Way S) × (next : Onward S) × IsIn entries e × (e.1.next ≡ Some next) × (next.rank ≡ v))

-- the run is that of a candidate, and none has fewer departures
pub record IsShortest {S : Type 0} (entries : List (S × Way S)) (best : Explanation S) : Type 0 where
  pub entry : S × Way S
  pub at : IsIn entries entry
  pub state : entry.0 ≡ best.state
  pub log : entry.1.log ≡ best.log
  pub steps : entry.1.steps ≡ best.steps
  pub least : (e : S × Way S) → IsIn entries e → length best.log ≤ length e.1.log

-- The run is that of the first, which waits at time v; or it goes on from there to the end of the next slot.
pub record WaitsNear {S : Type 0} (v : ℕ) (c : S × Way S) (e : Explanation S) : Type 0 where
  pub waiting : IsWaiting v c.1
  pub state : e.state ≡ c.0
  pub log : e.log ≡ c.1.log
  pub steps : e.steps ≡ c.1.steps

pub record GoesNear {S : Type 0} (r : Rules S) (most v : ℕ) (c : S × Way S) (e : Explanation S) : Type 0 where
  pub next : Onward S
  pub due : IsDue v c.1 next
  pub ends : IsEndOf r most (begins next.state c.1 (c.1.steps + 1)) e.state e.log e.steps

abbrev pub NearFrom : {S : Type 0} → Rules S → ℕ → ℕ → S × Way S → Explanation S → Type 0
NearFrom r most v c e = WaitsNear v c e ⊎ GoesNear r most v c e

-- So it is from one of the list.
abbrev pub NearFromSome : {S : Type 0} → Rules S → ℕ → ℕ → List (S × Way S) → Explanation S → Type 0
NearFromSome {S} r most v old e = (c : S × Way S) × IsIn old c × NearFrom r most v c e

-- the run goes on from the start to the end of the slot
abbrev pub EndsNear : {S : Type 0} → Rules S → ℕ → SlotStart S → Explanation S → Type 0
EndsNear r most start e = IsEndOf r most start e.state e.log e.steps
