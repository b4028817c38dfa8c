-- *internal*: Words for marks that stand until the next slot of their run, and for what they show beside the marks of a slot.
use Rattle.std.specs.Prelude.{◌≡◌, ◌≢◌, ℕ, ◌<◌, ◌≤◌, ◌⊎◌, List, [], ◌∷◌, ◌++◌, length, nat_lt, slice_get, Option, Some, None}
use Rattle.std.specs.List.{Contains, filter}
use Rattle.std.specs.Option.{IsSome}
use Rattle.explore.specs.Ranked.{Closing, pairs_of}
use Rattle.explore.specs.declared.rank_marks.FoundMark.{FoundMark}
use Rattle.vmodel.specs.State.{State}
use Rattle.vmodel.specs.Run.{Setting}
use Rattle.vmachine.specs.declared.machine_state.MachineState.{MachineState}
use Rattle.vmachine.specs.Machines.{Stands, machine_rules, rank_of}
use Rattle.vmachine.specs.Reads.{slot_in}
use Rattle.racebook.specs.Races.{Race}
use Rattle.racebook.specs.LineRaces.{LineRace}
use Rattle.racebook.specs.Inner.{AreAllLineRaces, AreAllRaces, AreEndsOf, AreSlotStates, IsNoSlot, printed_of}
use Rattle.racebook.specs.declared.slot_state.SlotState.{SlotState}
use Rattle.race_groups.specs.declared.shown.FoundAt.{FoundAt}
use Rattle.race_groups.specs.declared.standing.Standing.{Standing}
use Rattle.race_groups.specs.Shown.{no_lines}

-- ---- marks that stand

abbrev pub mark_of : Standing → MachineState × List (ℕ × ℕ)
mark_of standing = (standing.found.state, standing.found.log)

-- a run goes on from the state, to this time
pub record HasNext (setting : Setting) (s : MachineState) (next : ℕ) : Type 0 where
  pub goes_on : 0 < (machine_rules setting).width s
  pub is : next ≡ rank_of setting ((machine_rules setting).after s 0)

-- to this time, or it has ended
abbrev pub IsNextOf : Setting → MachineState → Option ℕ → Type 0
IsNextOf setting s None = (machine_rules setting).width s ≡ 0
IsNextOf setting s (Some next) = HasNext setting s next

-- the mark stands last, or no run goes on there
abbrev pub GoesOnByNext : Setting → FoundMark MachineState → List Standing → List Standing → Type 0
GoesOnByNext setting found old new = ((new ≡ old) × ((machine_rules setting).width found.state ≡ 0))
    ⊎ ((next : ℕ) × HasNext setting found.state next × (new ≡ old ++ (record { found = found; next = next }) ∷ []))

-- the mark is one of these
pub record HasStanding (standing : List Standing) (found : MachineState × List (ℕ × ℕ)) : Type 0 where
  pub one : Standing
  pub among : Contains standing one
  pub is : mark_of one ≡ found

-- those of the marks from which runs go on, each with the time of the next slot
pub record GoOn (setting : Setting) (marks : List (MachineState × List (ℕ × ℕ))) (standing : List Standing) : Type 0 where
  pub each : (one : Standing) → Contains standing one → Contains marks (mark_of one) × HasNext setting one.found.state one.next
  pub whole : (found : MachineState × List (ℕ × ℕ)) (next : ℕ) → Contains marks found → HasNext setting found.0 next →
      HasStanding standing found

-- those that stand past the time
abbrev pub standing_past : ℕ → List Standing → List Standing
standing_past time standing = filter (λ one. nat_lt time one.next) standing

-- ---- what they show

-- at this time the slot state shows what the mark still does: its values, and no line
pub record IsStill (setting : Setting) (time : ℕ) (found : MachineState × List (ℕ × ℕ)) (slot_state : SlotState) : Type 0 where
  pub log_is : slot_state.log.now ≡ found.1
  pub time_is : slot_state.time ≡ time
  pub slot : (t : State) → Stands setting found.0 t → IsSome (slot_in t)
  pub values_are : (t : State) → Stands setting found.0 t → slot_state.values.now ≡ t.values
  pub printed_are : (t : State) → Stands setting found.0 t → printed_of slot_state ≡ no_lines t.printed
  pub wide : length slot_state.values.now ≡ length setting.design.variables

-- what it shows stands last; or the next slot has come, or the mark is the end of no slot
abbrev pub GoesOnByStill : Setting → ℕ → Standing → List SlotState → List SlotState → Type 0
GoesOnByStill setting time one old new = ((new ≡ old) × ((one.next ≤ time) ⊎ IsNoSlot setting one.found.state))
    ⊎ ((slot_state : SlotState) × (new ≡ old ++ slot_state ∷ []) × (time < one.next) × IsStill setting time (mark_of one) slot_state)

pub record IsStillOfOne (setting : Setting) (time : ℕ) (standing : List Standing) (slot_state : SlotState) : Type 0 where
  pub one : Standing
  pub among : Contains standing one
  pub past : time < one.next
  pub still : IsStill setting time (mark_of one) slot_state

pub record HasStill (setting : Setting) (time : ℕ) (one : Standing) (slot_states : List SlotState) : Type 0 where
  pub slot_state : SlotState
  pub among : Contains slot_states slot_state
  pub still : IsStill setting time (mark_of one) slot_state

-- beside these states of slots there are those of the first marks that stand past the time, and no others
pub record AddsStillBelow (setting : Setting) (time : ℕ) (standing : List Standing) (count : ℕ) (own slot_states : List SlotState) : Type 0 where
  pub kept : (slot_state : SlotState) → Contains own slot_state → Contains slot_states slot_state
  pub each : (slot_state : SlotState) → Contains slot_states slot_state → Contains own slot_state
      ⊎ IsStillOfOne setting time standing slot_state
  pub whole : (place : ℕ) (one : Standing) (t : State) (ended : ℕ) → place < count → slice_get standing place ≡ Some one →
      Stands setting one.found.state t → length t.values ≡ length setting.design.variables → slot_in t ≡ Some ended →
      time < one.next → HasStill setting time one slot_states

abbrev pub GoesOnByAllStill : Setting → ℕ → List Standing → List SlotState → List SlotState → Type 0
GoesOnByAllStill setting time standing old new = AddsStillBelow setting time standing (length standing) old new

-- what is shown at the time of these marks, if one is the end of a slot
pub record AreStatesShown (setting : Setting) (time : ℕ) (marks : List (MachineState × List (ℕ × ℕ))) (standing : List Standing)
    (slot_states : List SlotState) : Type 0 where
  pub own : List SlotState
  pub are : AreSlotStates setting marks own
  pub whole : ((own ≡ []) × (slot_states ≡ [])) ⊎ ((own ≢ []) × GoesOnByAllStill setting time standing own slot_states)

-- the races are all that is shown then
pub record AreRacesShown (setting : Setting) (time : ℕ) (marks : List (MachineState × List (ℕ × ℕ))) (standing : List Standing)
    (races : List Race) : Type 0 where
  pub slot_states : List SlotState
  pub are : AreStatesShown setting time marks standing slot_states
  pub all : AreAllRaces slot_states races

-- the races of lines are
pub record AreLineRacesShown (setting : Setting) (time : ℕ) (marks : List (MachineState × List (ℕ × ℕ))) (standing : List Standing)
    (races : List LineRace) : Type 0 where
  pub slot_states : List SlotState
  pub are : AreStatesShown setting time marks standing slot_states
  pub all : AreAllLineRaces slot_states races

-- so it is of what the marks of one slot gave
pub record IsFoundAt (setting : Setting) (time : ℕ) (marks : List (MachineState × List (ℕ × ℕ))) (standing : List Standing)
    (at : FoundAt) : Type 0 where
  pub races : AreRacesShown setting time marks standing at.found.races.items
  pub line_races : AreLineRacesShown setting time marks standing at.found.line_races.items
  pub ends : AreEndsOf setting marks (pairs_of at.found.ends.items)
  pub going_on : GoOn setting marks at.going_on.items

-- ---- closings

-- it is a mark of one of the first closings
pub record IsOfEarlier (setting : Setting) (closings : List (Closing MachineState)) (count : ℕ) (one : Standing) : Type 0 where
  pub place : ℕ
  pub closing : Closing MachineState
  pub before : place < count
  pub at : slice_get closings place ≡ Some closing
  pub among : Contains closing.marks (mark_of one)
  pub next : HasNext setting one.found.state one.next

-- one of the first closings is of this time, or a later one
pub record HasCome (closings : List (Closing MachineState)) (count time : ℕ) : Type 0 where
  pub place : ℕ
  pub closing : Closing MachineState
  pub before : place < count
  pub at : slice_get closings place ≡ Some closing
  pub come : time ≤ closing.rank

-- these are the marks of the first closings whose next slot hasn't come in them
pub record AreStanding (setting : Setting) (closings : List (Closing MachineState)) (count : ℕ) (standing : List Standing) : Type 0 where
  pub each : (one : Standing) → Contains standing one → IsOfEarlier setting closings count one
  pub whole : (place : ℕ) (closing : Closing MachineState) (found : MachineState × List (ℕ × ℕ)) (next : ℕ) → place < count →
      slice_get closings place ≡ Some closing → Contains closing.marks found → HasNext setting found.0 next →
      HasStanding standing found ⊎ HasCome closings count next

-- the race is shown by the closing at this place, with the marks that stand there
pub record ShowsRace (setting : Setting) (closings : List (Closing MachineState)) (place : ℕ) (c : Closing MachineState) (race : Race) : Type 0 where
  pub standing : List Standing
  pub stand : AreStanding setting closings place standing
  pub races : List Race
  pub are : AreRacesShown setting c.rank c.marks standing races
  pub has : Contains races race

pub record ShowsLineRace (setting : Setting) (closings : List (Closing MachineState)) (place : ℕ) (c : Closing MachineState)
    (race : LineRace) : Type 0 where
  pub standing : List Standing
  pub stand : AreStanding setting closings place standing
  pub races : List LineRace
  pub are : AreLineRacesShown setting c.rank c.marks standing races
  pub has : Contains races race
