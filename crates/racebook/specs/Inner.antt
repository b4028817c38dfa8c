-- *internal*: Words for the contracts of calls within: states of slot ends, gone through by time and variable. Those for the values of a
-- variable serve the lines of a slot too: they take the type of what is compared, and its order, as parameters.
use Rattle.std.specs.Prelude.{◌≡◌, ◌≢◌, Bool, ℕ, ◌<◌, ◌≤◌, ◌⊎◌, List, [], ◌∷◌, ◌++◌, length, slice_get, map, is_some, Option, Some, None, option_map, unwrap_or}
use Rattle.std.specs.List.{Contains, filter}
use Rattle.std.proofs.Common.{append-nil, refl, subst, sym}
use Rattle.std.specs.Option.{IsSome}
use Rattle.std.specs.declared.cmp.Ordering.{Ordering}
use Rattle.std.specs.Ordering.{nat_cmp, ordering_then}
use Rattle.std.specs.BTreeMap.{BTreeMap, get}
use Rattle.std.specs.Bool.{MatchBool}
use Rattle.explore.specs.declared.findings.Findings.{Findings}
use Rattle.explore.specs.Ranked.{Closing, OfEach, RanksRise, pairs_of}
use Rattle.explore.specs.declared.rank_marks.FoundMark.{FoundMark}
use Rattle.vbits.specs.Vectors.{Vector, filled}
use Rattle.vbits.specs.declared.bit4.Bit4.TheVariants.{X}
use Rattle.vmodel.specs.State.{State}
use Rattle.vmodel.specs.Run.{Setting}
use Rattle.vmachine.specs.declared.machine_state.MachineState.{MachineState}
use Rattle.vmachine.specs.Machines.{Stands}
use Rattle.vmachine.specs.Reads.{end_in, slot_in}
use Rattle.racebook.specs.declared.slot_state.SlotState.{SlotState}
use Rattle.racebook.specs.declared.slots.ClosedSlots.{ClosedSlots}
use Rattle.racebook.specs.declared.slots.FoundInSlot.{FoundInSlot}
use Rattle.racebook.specs.Order.{IsEarlier, shape_of, text_number, AreInTextOrder}
use Rattle.racebook.specs.Races.{Race}
use Rattle.racebook.specs.LineRaces.{LineRace, Texts, AreSidesInOrder}

-- ---- what is seen of a mark

-- the lines that its slot printed, where lines are looked at
abbrev pub printed_of : SlotState → Option Texts
printed_of slot_state = option_map (λ bag. bag.now) slot_state.printed

-- the slot state is of this mark, which is the end of a slot
pub record IsSlotState (setting : Setting) (found : MachineState × List (ℕ × ℕ)) (slot_state : SlotState) : Type 0 where
  pub log_is : slot_state.log.now ≡ found.1
  pub slot : (t : State) → Stands setting found.0 t → slot_in t ≡ Some slot_state.time
  pub values_are : (t : State) → Stands setting found.0 t → slot_state.values.now ≡ t.values
  pub printed_are : (t : State) → Stands setting found.0 t → printed_of slot_state ≡ t.printed
  pub wide : length slot_state.values.now ≡ length setting.design.variables

-- the mark is the end of no slot
abbrev pub IsNoSlot : Setting → MachineState → Type 0
IsNoSlot setting s = (t : State) → Stands setting s t → length t.values ≡ length setting.design.variables → slot_in t ≡ None

-- what is seen of one mark more stands last, or the mark is the end of no slot
abbrev pub GoesOnBy : Setting → MachineState × List (ℕ × ℕ) → List SlotState → List SlotState → Type 0
GoesOnBy setting found old new =
    ((new ≡ old) × IsNoSlot setting found.0) ⊎ ((slot_state : SlotState) × (new ≡ old ++ slot_state ∷ []) × IsSlotState setting found slot_state)

pub record HasSlotState (setting : Setting) (found : MachineState × List (ℕ × ℕ)) (slot_states : List SlotState) : Type 0 where
  pub slot_state : SlotState
  pub among : Contains slot_states slot_state
  pub of : IsSlotState setting found slot_state

pub record IsOfSome (setting : Setting) (marks : List (MachineState × List (ℕ × ℕ))) (slot_state : SlotState) : Type 0 where
  pub place : ℕ
  pub found : MachineState × List (ℕ × ℕ)
  pub at : slice_get marks place ≡ Some found
  pub of : IsSlotState setting found slot_state

-- each slot state is of a mark, and each of the first marks that is the end of a slot has its slot state
pub record AreSlotStatesBelow (setting : Setting) (marks : List (MachineState × List (ℕ × ℕ))) (count : ℕ) (slot_states : List SlotState) : Type 0 where
  pub each : (slot_state : SlotState) → Contains slot_states slot_state → IsOfSome setting marks slot_state
  pub whole : (place : ℕ) (found : MachineState × List (ℕ × ℕ)) (t : State) (time : ℕ) → place < count →
      slice_get marks place ≡ Some found → Stands setting found.0 t →
      length t.values ≡ length setting.design.variables → slot_in t ≡ Some time → HasSlotState setting found slot_states

abbrev pub AreSlotStates : Setting → List (MachineState × List (ℕ × ℕ)) → List SlotState → Type 0
AreSlotStates setting marks slot_states = AreSlotStatesBelow setting marks (length marks) slot_states

-- each has so many values
abbrev pub AreWide : ℕ → List SlotState → Type 0
AreWide count slot_states = (slot_state : SlotState) → Contains slot_states slot_state → length slot_state.values.now ≡ count

-- what is seen of all marks of the findings
abbrev pub AreSlotStatesOf : Setting → Findings MachineState → List SlotState → Type 0
AreSlotStatesOf setting findings slot_states = AreSlotStates setting findings.marks.entries slot_states

-- each has a value of each variable of the design
abbrev pub HaveAllValues : Setting → List SlotState → Type 0
HaveAllValues setting slot_states = AreWide (length setting.design.variables) slot_states

-- their times don't fall
abbrev pub AreInTime : List SlotState → Type 0
AreInTime slot_states = (i j : ℕ) (g h : SlotState) →
    i ≤ j → slice_get slot_states i ≡ Some g → slice_get slot_states j ≡ Some h → g.time ≤ h.time

-- each has lines
abbrev pub HavePrinted : List SlotState → Type 0
HavePrinted slot_states = (slot_state : SlotState) → Contains slot_states slot_state → IsSome slot_state.printed

-- those that have lines
abbrev pub printing_among : List SlotState → List SlotState
printing_among slot_states = filter (λ slot_state. is_some slot_state.printed) slot_states

-- ---- what the states of one slot show

-- the value of the variable, where there is one
abbrev pub value_of : ℕ → SlotState → Option Vector
value_of variable slot_state = slice_get slot_state.values.now variable

-- what is shown, or else this
abbrev pub shown_or : {V : Type 0} → V → (SlotState → Option V) → SlotState → V
shown_or none shown slot_state = unwrap_or (shown slot_state) none

-- the value of the variable; x, one bit wide, where there is none
abbrev pub value_in : ℕ → SlotState → Vector
value_in variable slot_state = shown_or (filled 1 X) (value_of variable) slot_state

-- the lines; none, where none are looked at
abbrev pub lines_in : SlotState → Texts
lines_in slot_state = shown_or [] printed_of slot_state

-- what is shown, with the log
abbrev pub row_by : {V : Type 0} → (SlotState → V) → SlotState → V × List (ℕ × ℕ)
row_by value slot_state = (value slot_state, slot_state.log.now)

abbrev pub rows_by : {V : Type 0} → (SlotState → V) → List SlotState → List (V × List (ℕ × ℕ))
rows_by value slot = map (row_by value) slot

-- the values of the variable, and the lines, each with its log
abbrev pub rows_of : ℕ → List SlotState → List (Vector × List (ℕ × ℕ))
rows_of variable slot = rows_by (value_in variable) slot

abbrev pub rows_of_lines : List SlotState → List (Texts × List (ℕ × ℕ))
rows_of_lines slot = rows_by lines_in slot

-- what texts are compared by
abbrev pub key_of : Vector → ℕ × ℕ
key_of value = (shape_of value, text_number value.letters)

abbrev pub key_cmp : ℕ × ℕ → ℕ × ℕ → Ordering
key_cmp a b = ordering_then (nat_cmp a.0 b.0) (nat_cmp a.1 b.1)

-- lines are their own key
abbrev pub themselves : Texts → Texts
themselves lines = lines

abbrev pub AllSame : {V : Type 0} → List (V × List (ℕ × ℕ)) → Type 0
AllSame {V} rows = (r s : V × List (ℕ × ℕ)) → Contains rows r → Contains rows s → r.0 ≡ s.0

pub record HasTwo {V : Type 0} (rows : List (V × List (ℕ × ℕ))) : Type 0 where
  pub one : V × List (ℕ × ℕ)
  pub other : V × List (ℕ × ℕ)
  pub has_one : Contains rows one
  pub has_other : Contains rows other
  pub differ : one.0 ≢ other.0

-- each has a value of the variable
abbrev pub HaveValue : ℕ → List SlotState → Type 0
HaveValue variable slot = (slot_state : SlotState) → Contains slot slot_state → variable < length slot_state.values.now

-- whether two rows differ
abbrev pub TellsTwo : {V : Type 0} → List (V × List (ℕ × ℕ)) → Bool → Type 0
TellsTwo rows answer = MatchBool answer (HasTwo rows) (AllSame rows)

-- of the first rows those with the key have no fewer departures than the one at the place
pub record IsBestAt {V K : Type 0} (key_is_of : V → K) (rows : List (V × List (ℕ × ℕ))) (count : ℕ) (key : K) (place : ℕ) : Type 0 where
  pub row : V × List (ℕ × ℕ)
  pub at : slice_get rows place ≡ Some row
  pub key_is : key_is_of row.0 ≡ key
  pub fewest : (j : ℕ) (r : V × List (ℕ × ℕ)) → j < count → slice_get rows j ≡ Some r → key_is_of r.0 ≡ key → length row.1 ≤ length r.1

abbrev pub HasBestAt : {V K : Type 0} → (V → K) → List (V × List (ℕ × ℕ)) → ℕ → K → Option ℕ → Type 0
HasBestAt {V} {K} key_is_of rows count key None = (j : ℕ) (r : V × List (ℕ × ℕ)) → j < count → slice_get rows j ≡ Some r → key_is_of r.0 ≢ key
HasBestAt {V} {K} key_is_of rows count key (Some place) = IsBestAt key_is_of rows count key place

-- for each key the best of the first rows is noted
abbrev pub IsBestBelow : {V K : Type 0} → (V → K) → (K → K → Ordering) → List (V × List (ℕ × ℕ)) → ℕ → BTreeMap K ℕ → Type 0
IsBestBelow {V} {K} key_is_of cmp rows count best = (key : K) → HasBestAt key_is_of rows count key (get cmp best key)

abbrev pub KeepsBest : {V K : Type 0} → (V → K) → (K → K → Ordering) → List (V × List (ℕ × ℕ)) → BTreeMap K ℕ → Type 0
KeepsBest key_is_of cmp rows best = IsBestBelow key_is_of cmp rows (length rows) best

-- the row that an entry names; one of this value, where it names none
abbrev pub row_of_entry : {V K : Type 0} → V → List (V × List (ℕ × ℕ)) → K × ℕ → V × List (ℕ × ℕ)
row_of_entry none rows entry = unwrap_or (slice_get rows entry.1) (none, [])

-- the value stands among these
abbrev pub HasValue : {V : Type 0} → List (V × List (ℕ × ℕ)) → V → Type 0
HasValue {V} values value = (i : ℕ) × (s : V × List (ℕ × ℕ)) × (slice_get values i ≡ Some s) × (s.0 ≡ value)

-- each value of the rows once, with the log of the fewest departures, in their order
pub record AreBest {V : Type 0} (AreInOrder : List (V × List (ℕ × ℕ)) → Type 0) (rows values : List (V × List (ℕ × ℕ))) : Type 0 where
  pub seen : (i : ℕ) (s : V × List (ℕ × ℕ)) → slice_get values i ≡ Some s → Contains rows s
  pub fewest : (i : ℕ) (s r : V × List (ℕ × ℕ)) → slice_get values i ≡ Some s → Contains rows r → r.0 ≡ s.0 → length s.1 ≤ length r.1
  pub all : (r : V × List (ℕ × ℕ)) → Contains rows r → HasValue values r.0
  pub order : AreInOrder values

-- the race of these rows, if there is one
abbrev pub TellsRace : List (Vector × List (ℕ × ℕ)) → ℕ → ℕ → Option Race → Type 0
TellsRace rows time variable None = AllSame rows
TellsRace rows time variable (Some race) =
    (race.time ≡ time) × (race.variable ≡ variable) × HasTwo rows × AreBest AreInTextOrder rows race.values

abbrev pub TellsLineRace : List (Texts × List (ℕ × ℕ)) → ℕ → Option LineRace → Type 0
TellsLineRace rows time None = AllSame rows
TellsLineRace rows time (Some race) = (race.time ≡ time) × HasTwo rows × AreBest AreSidesInOrder rows race.sides

-- ---- races among slot states

-- a slot state of this time shows the value, under the log
pub record IsSeen {V : Type 0} (shown : SlotState → Option V) (slot_states : List SlotState) (time : ℕ) (value : V) (log : List (ℕ × ℕ)) : Type 0 where
  pub slot_state : SlotState
  pub among : Contains slot_states slot_state
  pub time_is : slot_state.time ≡ time
  pub value_is : shown slot_state ≡ Some value
  pub log_is : slot_state.log.now ≡ log

pub record Disagree {V : Type 0} (shown : SlotState → Option V) (slot_states : List SlotState) (time : ℕ) : Type 0 where
  pub one : V
  pub other : V
  pub log : List (ℕ × ℕ)
  pub other_log : List (ℕ × ℕ)
  pub sees_one : IsSeen shown slot_states time one log
  pub sees_other : IsSeen shown slot_states time other other_log
  pub differ : one ≢ other

-- two values or more: those that the slot states of this time show, each with the log of the fewest departures, in their order
pub record AreShown {V : Type 0} (shown : SlotState → Option V) (AreInOrder : List (V × List (ℕ × ℕ)) → Type 0) (slot_states : List SlotState) (time : ℕ) (values : List (V × List (ℕ × ℕ))) : Type 0 where
  pub two : 2 ≤ length values
  pub seen : (i : ℕ) (s : V × List (ℕ × ℕ)) → slice_get values i ≡ Some s → IsSeen shown slot_states time s.0 s.1
  pub fewest : (i : ℕ) (s : V × List (ℕ × ℕ)) (log : List (ℕ × ℕ)) → slice_get values i ≡ Some s →
      IsSeen shown slot_states time s.0 log → length s.1 ≤ length log
  pub all : (value : V) (log : List (ℕ × ℕ)) → IsSeen shown slot_states time value log → HasValue values value
  pub order : AreInOrder values

abbrev pub IsRaceAmong : List SlotState → Race → Type 0
IsRaceAmong slot_states race = AreShown (value_of race.variable) AreInTextOrder slot_states race.time race.values

abbrev pub IsLineRaceAmong : List SlotState → LineRace → Type 0
IsLineRaceAmong slot_states race = AreShown printed_of AreSidesInOrder slot_states race.time race.sides

-- where two slot states of the time differ in the variable
abbrev pub DifferIn : List SlotState → ℕ → ℕ → Type 0
DifferIn slot_states time variable = Disagree (value_of variable) slot_states time

-- races of lines are of no variable: they stand at number 0 of their time
abbrev pub DifferInLines : List SlotState → ℕ → ℕ → Type 0
DifferInLines slot_states time number = Disagree printed_of slot_states time × (number ≡ 0)

-- ---- lists of races, of which each has a time and a number

-- the numbers of races
abbrev pub place_of : Race → ℕ × ℕ
place_of race = (race.time, race.variable)

abbrev pub place_of_lines : LineRace → ℕ × ℕ
place_of_lines race = (race.time, 0)

abbrev pub ListsAt : {R : Type 0} → (R → ℕ × ℕ) → List R → ℕ → ℕ → Type 0
ListsAt {R} place races time number = (i : ℕ) × (race : R) × (slice_get races i ≡ Some race) × ((place race).0 ≡ time) × ((place race).1 ≡ number)

abbrev pub AreInOrderOf : {R : Type 0} → (R → ℕ × ℕ) → List R → Type 0
AreInOrderOf {R} place races = (i j : ℕ) (a b : R) → i < j → slice_get races i ≡ Some a → slice_get races j ≡ Some b →
    IsEarlier (place a).0 (place a).1 (place b).0 (place b).1

-- the races are those before this time and number
pub record AreUpTo {R : Type 0} (place : R → ℕ × ℕ) (Is : R → Type 0) (Differ : ℕ → ℕ → Type 0) (races : List R) (time number : ℕ) : Type 0 where
  pub each : (i : ℕ) (race : R) → slice_get races i ≡ Some race → Is race
  pub before : (i : ℕ) (race : R) → slice_get races i ≡ Some race → IsEarlier (place race).0 (place race).1 time number
  pub all : (t n : ℕ) → IsEarlier t n time number → Differ t n → ListsAt place races t n
  pub order : AreInOrderOf place races

-- and those are all
pub record AreAll {R : Type 0} (place : R → ℕ × ℕ) (Is : R → Type 0) (Differ : ℕ → ℕ → Type 0) (races : List R) : Type 0 where
  pub each : (i : ℕ) (race : R) → slice_get races i ≡ Some race → Is race
  pub all : (t n : ℕ) → Differ t n → ListsAt place races t n
  pub order : AreInOrderOf place races

-- the races of variables up to a time and variable, and all
abbrev pub AreRacesUpTo : List SlotState → List Race → ℕ → ℕ → Type 0
AreRacesUpTo slot_states races time variable = AreUpTo place_of (IsRaceAmong slot_states) (DifferIn slot_states) races time variable

abbrev pub AreAllRaces : List SlotState → List Race → Type 0
AreAllRaces slot_states races = AreAll place_of (IsRaceAmong slot_states) (DifferIn slot_states) races

-- those of lines
abbrev pub AreLineRacesUpTo : List SlotState → List LineRace → ℕ → ℕ → Type 0
AreLineRacesUpTo slot_states races time number =
    AreUpTo place_of_lines (IsLineRaceAmong slot_states) (DifferInLines slot_states) races time number

abbrev pub AreAllLineRaces : List SlotState → List LineRace → Type 0
AreAllLineRaces slot_states races = AreAll place_of_lines (IsLineRaceAmong slot_states) (DifferInLines slot_states) races

-- the slot is of all the slot states of this time
pub record IsSlotOf (slot_states slot : List SlotState) (time : ℕ) : Type 0 where
  pub within : (g : SlotState) → Contains slot g → Contains slot_states g
  pub time_is : (g : SlotState) → Contains slot g → g.time ≡ time
  pub whole : (g : SlotState) → Contains slot_states g → g.time ≡ time → Contains slot g

-- from the races before this slot to those of it too
abbrev pub GoesThrough : ℕ → ℕ → List SlotState → List Race → List Race → Type 0
GoesThrough time count slot old new = (slot_states : List SlotState) → IsSlotOf slot_states slot time → AreWide count slot_states →
    AreRacesUpTo slot_states old time 0 → AreRacesUpTo slot_states new time count

abbrev pub GoesThroughLines : ℕ → List SlotState → List LineRace → List LineRace → Type 0
GoesThroughLines time slot old new = (slot_states : List SlotState) → IsSlotOf slot_states slot time →
    AreLineRacesUpTo slot_states old time 0 → AreLineRacesUpTo slot_states new time 1

-- where the slot that begins at start ends
pub record IsSlotEndAt (slot_states : List SlotState) (start end : ℕ) : Type 0 where
  pub more : start < end
  pub within : end ≤ length slot_states
  pub same : (k : ℕ) (g h : SlotState) → start ≤ k → k < end → slice_get slot_states start ≡ Some g → slice_get slot_states k ≡ Some h → h.time ≡ g.time
  pub next : (g h : SlotState) → slice_get slot_states start ≡ Some g → slice_get slot_states end ≡ Some h → h.time ≢ g.time

-- ---- what is kept of closed slots

-- the marks of all closings
abbrev pub marks_of : List (Closing MachineState) → List (MachineState × List (ℕ × ℕ))
marks_of [] = []
marks_of (c ∷ closings) = c.marks ++ marks_of closings

-- the machine's state is one of a run, at this time
abbrev pub StandsAt : Setting → MachineState → ℕ → Type 0
StandsAt setting s time = (t : State) × Stands setting s t × (t.queue.time ≡ time)

-- each of the marks is of the time of the closing
abbrev pub IsOfItsTime : Setting → Closing MachineState → Type 0
IsOfItsTime setting c = (i : ℕ) (found : MachineState × List (ℕ × ℕ)) → slice_get c.marks i ≡ Some found → StandsAt setting found.0 c.rank

-- each time was closed once, an earlier one before a later, with marks of that time
pub record AreInTurn (setting : Setting) (closings : List (Closing MachineState)) : Type 0 where
  pub rise : RanksRise closings
  pub times : OfEach closings (IsOfItsTime setting)

-- the races are all that the marks show
pub record AreRacesOf (setting : Setting) (marks : List (MachineState × List (ℕ × ℕ))) (races : List Race) : Type 0 where
  pub slot_states : List SlotState
  pub are : AreSlotStates setting marks slot_states
  pub all : AreAllRaces slot_states races

-- the races of lines are
pub record AreLineRacesOf (setting : Setting) (marks : List (MachineState × List (ℕ × ℕ))) (races : List LineRace) : Type 0 where
  pub slot_states : List SlotState
  pub are : AreSlotStates setting marks slot_states
  pub all : AreAllLineRaces slot_states races

-- a run has ended in the machine's state
abbrev pub HasEnded : Setting → MachineState → Type 0
HasEnded setting s = (t : State) → Stands setting s t → IsSome (end_in t)

-- none has
abbrev pub GoesOn : Setting → MachineState → Type 0
GoesOn setting s = (t : State) → Stands setting s t → end_in t ≡ None

-- the mark stands last, or no run has ended there
abbrev pub GoesOnByEnd : Setting → FoundMark MachineState → List (FoundMark MachineState) → List (FoundMark MachineState) → Type 0
GoesOnByEnd setting found old new = ((new ≡ old) × GoesOn setting found.state) ⊎ ((new ≡ old ++ found ∷ []) × HasEnded setting found.state)

-- the ends are those of the marks in which a run has ended
pub record AreEndsOf (setting : Setting) (marks ends : List (MachineState × List (ℕ × ℕ))) : Type 0 where
  pub each : (end : MachineState × List (ℕ × ℕ)) → Contains ends end → Contains marks end × HasEnded setting end.0
  pub whole : (found : MachineState × List (ℕ × ℕ)) → Contains marks found → Contains ends found ⊎ GoesOn setting found.0

-- so it is of what the marks of one slot gave
pub record IsFoundIn (setting : Setting) (marks : List (MachineState × List (ℕ × ℕ))) (found : FoundInSlot) : Type 0 where
  pub races : AreRacesOf setting marks found.races.items
  pub line_races : AreLineRacesOf setting marks found.line_races.items
  pub ends : AreEndsOf setting marks (pairs_of found.ends.items)

-- it stands behind what was kept
pub record IsPutBehind (old : ClosedSlots) (found : FoundInSlot) (new : ClosedSlots) : Type 0 where
  pub machine : new.machine.now ≡ old.machine.now
  pub races : new.races.items ≡ old.races.items ++ found.races.items
  pub line_races : new.line_races.items ≡ old.line_races.items ++ found.line_races.items
  pub ends : new.ends.items ≡ old.ends.items ++ found.ends.items

-- no more is kept than was
pub record KeepsSame (old new : ClosedSlots) : Type 0 where
  pub machine : new.machine.now ≡ old.machine.now
  pub races : new.races.items ≡ old.races.items
  pub line_races : new.line_races.items ≡ old.line_races.items
  pub ends : new.ends.items ≡ old.ends.items

-- what is kept of closings, where these were in turn
pub record AreKept (setting : Setting) (races : List Race) (line_races : List LineRace) (ends : List (MachineState × List (ℕ × ℕ))) (closings : List (Closing MachineState)) : Type 0 where
  pub of_values : AreInTurn setting closings → AreRacesOf setting (marks_of closings) races
  pub of_lines : AreInTurn setting closings → AreLineRacesOf setting (marks_of closings) line_races
  pub of_ends : AreEndsOf setting (marks_of closings) ends

-- so it is of what these slots keep
abbrev pub KeepsSlots : Setting → ClosedSlots → List (Closing MachineState) → Type 0
KeepsSlots setting slots closings = AreKept setting slots.races.items slots.line_races.items (pairs_of slots.ends.items) closings

-- what collecting these closings makes of slots that kept what there was before
pub record CollectsSlots (first : ClosedSlots) (closings : List (Closing MachineState)) (now : ClosedSlots) : Type 0 where
  pub machine : now.machine.now ≡ first.machine.now
  pub kept : (before : List (Closing MachineState)) → KeepsSlots first.machine.now first before → KeepsSlots first.machine.now now (before ++ closings)

pub collects_nothing : (slots : ClosedSlots) → CollectsSlots slots [] slots
collects_nothing slots = record {
  machine = refl;
  kept = λ before kept. subst (KeepsSlots slots.machine.now slots) (sym (append-nil before)) kept;
}
