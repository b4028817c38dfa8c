-- *internal*: What holds of the runs of every setting, log and number of steps; `run_law` proves each.
use Rattle.std.specs.Prelude.{◌≡◌, ℕ, suc, ◌<◌, ◌≤◌, true, false, List, [], Some, None, All, length, Decides}
use Rattle.std.specs.List.{Contains}
use Rattle.sched_core.specs.Rules.{IsLawful, IsRun}
use Rattle.sched_core.specs.Replay.{EndsAfter}
use Rattle.vbits.specs.Vectors.{Vector}
use Rattle.vmodel.specs.State.{State}
use Rattle.vmodel.specs.Same.{state_same}
use Rattle.vmodel.specs.Choices.{choices}
use Rattle.vmodel.specs.Run.{Setting, rules_of, is_mark, state_after, items_after}
use Rattle.vmodel.specs.declared.history.Item.TheVariants.{SlotEnd}
use Rattle.sched_core.specs.declared.setting.Departures.TheVariants.{Taking, Holding}
use Rattle.sched_core.specs.declared.setting.Looked.TheVariants.{Values}
use Rattle.sched_core.specs.Bags.{HasLines}
use Rattle.vmodel.specs.Kept.{IsKept, RisesFrom, slot_times, AreShaped, HasValues, HasSlotEnd}

-- the test that an explorer takes for two states is their equality
abbrev pub TestsEquality : Type 0
TestsEquality = (s t : State) → Decides (state_same s t) (s ≡ t)

-- so the rules of a run are lawful
abbrev pub HasLawfulRuns : Type 0
HasLawfulRuns = (setting : Setting) → IsLawful (rules_of setting)

-- each state keeps what specs/Kept.antt says
abbrev pub IsAlwaysKept : Type 0
IsAlwaysKept = (setting : Setting) (log : List (ℕ × ℕ)) (n : ℕ) → IsKept (state_after setting log n)

-- no step lowers the time (11.3)
abbrev pub TimeNeverFalls : Type 0
TimeNeverFalls = (setting : Setting) (log : List (ℕ × ℕ)) (n : ℕ) → IsRun (rules_of setting) log (suc n) →
    (state_after setting log n).queue.time ≤ (state_after setting log (suc n)).queue.time

-- no two slots of a run end at one time, and later ones end later
abbrev pub HasRisingSlots : Type 0
HasRisingSlots = (setting : Setting) (log : List (ℕ × ℕ)) (n : ℕ) →
    IsRun (rules_of setting) log n → RisesFrom 0 (slot_times (items_after setting log n))

-- the end of a slot has one choice at most, to go on to the next slot
abbrev pub GoesOnOneWay : Type 0
GoesOnOneWay = (setting : Setting) (log : List (ℕ × ℕ)) (n : ℕ) → is_mark (state_after setting log n) ≡ true →
    length (choices (state_after setting log n)) ≤ 1

-- and that is later (11.3)
abbrev pub GoesOnLater : Type 0
GoesOnLater = (setting : Setting) (log : List (ℕ × ℕ)) (n : ℕ) → IsRun (rules_of setting) log (suc n) →
    is_mark (state_after setting log n) ≡ true → (state_after setting log n).queue.time < (state_after setting log (suc n)).queue.time

-- within a slot the time stays
abbrev pub StaysInSlot : Type 0
StaysInSlot = (setting : Setting) (log : List (ℕ × ℕ)) (n : ℕ) → IsRun (rules_of setting) log (suc n) →
    is_mark (state_after setting log n) ≡ false → (state_after setting log (suc n)).queue.time ≡ (state_after setting log n).queue.time

-- each state has as many values as the design has variables
abbrev pub IsAlwaysFull : Type 0
IsAlwaysFull = (setting : Setting) (log : List (ℕ × ℕ)) (n : ℕ) →
    length (state_after setting log n).values ≡ length setting.design.variables

-- and each value has the length and the sign of its variable (4.2.2)
abbrev pub IsAlwaysShaped : Type 0
IsAlwaysShaped = (setting : Setting) (log : List (ℕ × ℕ)) (n : ℕ) →
    AreShaped setting.design.variables (state_after setting log n).values

-- each slot end has as many values as the design has variables
abbrev pub ShowsFullSlots : Type 0
ShowsFullSlots = (setting : Setting) (log : List (ℕ × ℕ)) (n : ℕ) →
    All (HasValues (length setting.design.variables)) (items_after setting log n)

-- a slot end that a history shows is one that its run was at
abbrev pub ShowsOnlySlotEnds : Type 0
ShowsOnlySlotEnds = (setting : Setting) (log : List (ℕ × ℕ)) (n time : ℕ) (values : List Vector) →
    Contains (items_after setting log n) (SlotEnd time values) → HasSlotEnd setting log n time values

-- and it shows each
abbrev pub ShowsEachSlotEnd : Type 0
ShowsEachSlotEnd = (setting : Setting) (log : List (ℕ × ℕ)) (n time : ℕ) (values : List Vector) →
    HasSlotEnd setting log n time values → Contains (items_after setting log n) (SlotEnd time values)

-- ---- settings beside each other

-- the same setting, where departures may hold back
abbrev pub holding : Setting → Setting
holding setting = record setting { departures = Holding }

-- the same setting, where values alone are looked at
abbrev pub of_values : Setting → Setting
of_values setting = record setting { looked = Values }

-- a run where departures only take is, under the same log, one where they may hold back, with nothing held back
abbrev pub TakingIsHolding : Type 0
TakingIsHolding = (setting : Setting) (log : List (ℕ × ℕ)) (n : ℕ) → setting.departures ≡ Taking → IsRun (rules_of setting) log n →
    IsRun (rules_of (holding setting)) log n
    × (state_after (holding setting) log n ≡ record (state_after setting log n) { held_back = Some [] })
    × (items_after (holding setting) log n ≡ items_after setting log n)

-- and where the one ends so does the other
abbrev pub HoldingEndsToo : Type 0
HoldingEndsToo = (setting : Setting) (log : List (ℕ × ℕ)) (n : ℕ) → setting.departures ≡ Taking →
    EndsAfter (rules_of setting) log n → EndsAfter (rules_of (holding setting)) log n

-- lines are there where they are looked at, in order
abbrev pub PrintsWhereLooked : Type 0
PrintsWhereLooked = (setting : Setting) (log : List (ℕ × ℕ)) (n : ℕ) → HasLines setting.looked (state_after setting log n).printed

-- where lines are looked at, runs are those where values are, and their states those without the lines
abbrev pub LinesChangeNoRun : Type 0
LinesChangeNoRun = (setting : Setting) (log : List (ℕ × ℕ)) (n : ℕ) →
    (state_after (of_values setting) log n ≡ record (state_after setting log n) { printed = None })
    × (items_after (of_values setting) log n ≡ items_after setting log n)
