-- *internal*: What every state of a run keeps, under every log (docs/SCHEDULING.md): it is proved of all of them.
use Rattle.std.specs.Prelude.{◌≡◌, ℕ, suc, ◌+◌, ◌≤◌, ◌==◌, if◌then◌else◌, List, [], ◌∷◌, length, slice_get, Option, Some, None}
use Rattle.std.specs.Option.{ForSome}
use Rattle.vmodel.specs.declared.frame.Frame.{Frame}
use Rattle.vmodel.specs.Queue.{Later, Queue}
use Rattle.vmodel.specs.State.{Process, State}
use Rattle.vmodel.specs.Holding.{release}
use Rattle.vmodel.specs.SlotEnds.{IsIdle, IsSlotEnd}
use Rattle.vmodel.specs.Step.{continuation_of}
use Rattle.vmodel.specs.Run.{Setting, state_after}
use Rattle.vbits.specs.Vectors.{Vector}
use Rattle.vdesign.specs.Design.{Variable}
use Rattle.vmodel.specs.declared.history.Item.{Item}
use Rattle.vmodel.specs.declared.history.Item.TheVariants.{SlotEnd, Dump, Line, Monitor}

-- the numbers rise, from low on
abbrev pub RisesFrom : ℕ → List ℕ → Type 0
RisesFrom low [] = Unit {0}
RisesFrom low (n ∷ ns) = (low ≤ n) × RisesFrom (suc n) ns

-- the times rise, from low on and up to the limit; the processes of each stand in the order of their numbers
abbrev pub FutureFrom : ℕ → ℕ → List (ℕ × Later) → Type 0
FutureFrom low until [] = Unit {0}
FutureFrom low until (e ∷ es) = (low ≤ e.0) × (e.0 ≤ until) × RisesFrom 0 e.1.processes × FutureFrom (suc e.0) until es

-- 11.3: the future lies after the current time, and no process stands twice in a region
pub record IsInOrder (q : Queue) : Type 0 where
  pub active : RisesFrom 0 q.active
  pub inactive : RisesFrom 0 q.inactive
  pub future : FutureFrom (suc q.time) q.until q.future

-- how often a number stands in a list
abbrev pub count_in : ℕ → List ℕ → ℕ
count_in p [] = 0
count_in p (q ∷ qs) = if p == q then suc (count_in p qs) else count_in p qs

abbrev pub asleep : ℕ → List (ℕ × Later) → ℕ
asleep p [] = 0
asleep p (e ∷ es) = count_in p e.1.processes + asleep p es

-- in how many places a process stands: active, inactive or asleep
abbrev pub places : ℕ → Queue → ℕ
places p q = count_in p q.active + count_in p q.inactive + asleep p q.future

-- in how many places at most, by what it waits for and what it has left
abbrev pub most_places : Option ℕ → List Frame → ℕ
most_places (Some place) continuation = 0
most_places None [] = 0
most_places None (frame ∷ rest) = 1

-- what waits has something left
abbrev pub HasRest : Option ℕ → List Frame → Type 0
HasRest None continuation = Unit {0}
HasRest (Some place) [] = ⊥
HasRest (Some place) (frame ∷ rest) = Unit {0}

abbrev pub waits_of : Option Process → Option ℕ
waits_of None = None
waits_of (Some process) = process.waits

-- 9.9.1, 9.7.2: a process with something left stands in one place at most, one that waits or has nothing left in
-- none; the process that made the last step is active
pub record IsInPlace (q : Queue) (processes : List Process) : Type 0 where
  pub once : (p : ℕ) → places p q ≤ most_places (waits_of (slice_get processes p)) (continuation_of (slice_get processes p))
  pub waiting : (p : ℕ) → HasRest (waits_of (slice_get processes p)) (continuation_of (slice_get processes p))
  pub last : ForSome q.last (λ p. 1 ≤ count_in p q.active)

abbrev pub IsEmptied : Queue → Type 0
IsEmptied q = (q.inactive ≡ []) × (q.posted ≡ []) × (q.strobes ≡ [])

-- what is held back is active, each process once, and something else is active, too
pub record AreHeldBack (q : Queue) (held : List ℕ) : Type 0 where
  pub rises : RisesFrom 0 held
  pub active : (p : ℕ) → count_in p held ≤ count_in p q.active
  pub released : release q held ≡ held

pub record IsKept (s : State) : Type 0 where
  pub order : IsInOrder s.queue
  pub place : IsInPlace s.queue s.processes
  pub held : ForSome s.held_back (AreHeldBack s.queue)
  -- 11.4: while the run goes on the region moves were made: where nothing is active, nothing else stands at this time, and the
  -- monitor events have run
  pub moves : s.cause ≡ None → IsIdle s.queue → IsEmptied s.queue

-- the times of the slot ends
abbrev pub slot_times : List Item → List ℕ
slot_times [] = []
slot_times (SlotEnd time values ∷ items) = time ∷ slot_times items
slot_times (Dump command ∷ items) = slot_times items
slot_times (Line text ∷ items) = slot_times items
slot_times (Monitor place ∷ items) = slot_times items

-- 4.2.2: each variable stores a value at all times, so that a slot end has so many values; what else is shown has none
abbrev pub HasValues : ℕ → Item → Type 0
HasValues count (SlotEnd time values) = length values ≡ count
HasValues count (Dump command) = Unit {0}
HasValues count (Line text) = Unit {0}
HasValues count (Monitor place) = Unit {0}

-- 4.2.2: a value of the variable's length and sign
abbrev pub HasShape : Variable → Vector → Type 0
HasShape variable value = (length value.letters ≡ variable.length) × (value.signed ≡ variable.signed)

-- 5.4.1, 6.2: an assignment cuts or extends its right side to its target, at once or when it is taken to be written later;
-- so each variable's value has the variable's length and sign
abbrev pub AreShaped : List Variable → List Vector → Type 0
AreShaped [] [] = Unit {0}
AreShaped [] (value ∷ values) = ⊥
AreShaped (variable ∷ variables) [] = ⊥
AreShaped (variable ∷ variables) (value ∷ values) = HasShape variable value × AreShaped variables values

-- the run was at such a slot end after n steps or before
abbrev pub HasSlotEnd : Setting → List (ℕ × ℕ) → ℕ → ℕ → List Vector → Type 0
HasSlotEnd setting log n time values = (k : ℕ) × (k ≤ n) × IsSlotEnd time values (state_after setting log k)
