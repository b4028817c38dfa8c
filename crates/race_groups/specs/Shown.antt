-- *product rule*: What a run shows at a time, and where two runs differ in it (IEEE 1364-2005, 11.3, 11.4; docs/RACES.md). From the end of a
-- slot on until its next slot begins, a run shows the values of that end; at the time of the slot it shows the lines that the slot printed,
-- and later none. So it is up to its last slot that ends.
use Rattle.std.specs.Prelude.{◌≡◌, ◌≢◌, ℕ, suc, ◌<◌, ◌≤◌, ◌⊎◌, List, [], length, slice_get, Option, Some, None}
use Rattle.vbits.specs.Vectors.{Vector}
use Rattle.sched_core.specs.Rules.{IsRun, NamesBelow}
use Rattle.statebook.specs.declared.limits.Limits.{Limits}
use Rattle.vmodel.specs.Run.{Setting, rules_of, state_after}
use Rattle.vmodel.specs.SlotEnds.{IsSlotEnd}
use Rattle.racebook.specs.Races.{AreDifferent, Race}
use Rattle.racebook.specs.LineRaces.{AreSidesInOrder, LineRace, Side, Texts}

-- ---- what a run shows

-- the run goes on by one step more, to a time later than this one (11.3)
pub record GoesPast (setting : Setting) (time : ℕ) (log : List (ℕ × ℕ)) (steps : ℕ) : Type 0 where
  pub run : IsRun (rules_of setting) log (suc steps)
  pub later : time < (state_after setting log (suc steps)).queue.time

-- no line, where lines are looked at
abbrev pub no_lines : Option Texts → Option Texts
no_lines None = None
no_lines (Some lines) = Some []

-- After so many steps the run under the log is at the end of a slot, and shows it at this time, with these values and these lines. It is the
-- slot of this time, or an earlier one, from which the run goes on past this time.
pub record ShowsAt (setting : Setting) (time : ℕ) (values : List Vector) (lines : Option Texts) (log : List (ℕ × ℕ)) (steps : ℕ) : Type 0 where
  pub run : IsRun (rules_of setting) log steps
  pub ended : ℕ
  pub slot : IsSlotEnd ended values (state_after setting log steps)
  pub when : ((ended ≡ time) × (lines ≡ (state_after setting log steps).printed))
      ⊎ ((ended < time) × GoesPast setting time log steps × (lines ≡ no_lines (state_after setting log steps).printed))

-- some run of at most so many departures ends a slot at this time
pub record SomeSlotEnds (setting : Setting) (depart time : ℕ) : Type 0 where
  pub log : List (ℕ × ℕ)
  pub steps : ℕ
  pub run : IsRun (rules_of setting) log steps
  pub values : List Vector
  pub slot : IsSlotEnd time values (state_after setting log steps)
  pub short : length log ≤ depart

-- ---- where two runs differ

-- some run of at most so many departures shows the variable with this value
pub record SomeRunShowsAt (setting : Setting) (depart time variable : ℕ) (value : Vector) : Type 0 where
  pub log : List (ℕ × ℕ)
  pub steps : ℕ
  pub values : List Vector
  pub lines : Option Texts
  pub shown : ShowsAt setting time values lines log steps
  pub value_is : slice_get values variable ≡ Some value
  pub short : length log ≤ depart

-- Two such runs show different values at the end of some run's slot. At other times no run shows anything new.
pub record TwoRunsDifferAt (setting : Setting) (depart time variable : ℕ) : Type 0 where
  pub one : Vector
  pub other : Vector
  pub shows_one : SomeRunShowsAt setting depart time variable one
  pub shows_other : SomeRunShowsAt setting depart time variable other
  pub differ : one ≢ other
  pub slot : SomeSlotEnds setting depart time

-- the same of lines
pub record SomeRunPrintsAt (setting : Setting) (depart time : ℕ) (lines : Texts) : Type 0 where
  pub log : List (ℕ × ℕ)
  pub steps : ℕ
  pub values : List Vector
  pub shown : ShowsAt setting time values (Some lines) log steps
  pub short : length log ≤ depart

pub record TwoRunsPrintAt (setting : Setting) (depart time : ℕ) : Type 0 where
  pub one : Texts
  pub other : Texts
  pub prints_one : SomeRunPrintsAt setting depart time one
  pub prints_other : SomeRunPrintsAt setting depart time other
  pub differ : one ≢ other
  pub slot : SomeSlotEnds setting depart time

-- ---- a difference with its logs

-- within the limits the run under the log shows this, once it has reached all that the log names
pub record ShowsWithin (setting : Setting) (limits : Limits) (time : ℕ) (values : List Vector) (lines : Option Texts)
    (log : List (ℕ × ℕ)) : Type 0 where
  pub steps : ℕ
  pub shown : ShowsAt setting time values lines log steps
  pub within : steps ≤ limits.steps
  pub names : NamesBelow log steps
  pub short : length log ≤ limits.depart

-- it shows the variable with this value
pub record IsValueSide (setting : Setting) (limits : Limits) (time variable : ℕ) (value : Vector) (log : List (ℕ × ℕ)) : Type 0 where
  pub values : List Vector
  pub lines : Option Texts
  pub shown : ShowsWithin setting limits time values lines log
  pub value_is : slice_get values variable ≡ Some value

-- it shows these lines
pub record IsLinesSide (setting : Setting) (limits : Limits) (time : ℕ) (lines : Texts) (log : List (ℕ × ℕ)) : Type 0 where
  pub values : List Vector
  pub shown : ShowsWithin setting limits time values (Some lines) log

-- two or more different values, each shown under its log, at the end of some run's slot
pub record IsRaceAt (setting : Setting) (limits : Limits) (race : Race) : Type 0 where
  pub two : 2 ≤ length race.values
  pub differ : AreDifferent race.values
  pub seen : (i : ℕ) (s : Vector × List (ℕ × ℕ)) → slice_get race.values i ≡ Some s →
      IsValueSide setting limits race.time race.variable s.0 s.1
  pub slot : SomeSlotEnds setting limits.depart race.time

-- two sides or more, each shown under its log, at the end of some run's slot
pub record IsLineRaceAt (setting : Setting) (limits : Limits) (race : LineRace) : Type 0 where
  pub two : 2 ≤ length race.sides
  pub order : AreSidesInOrder race.sides
  pub seen : (i : ℕ) (s : Side) → slice_get race.sides i ≡ Some s → IsLinesSide setting limits race.time s.0 s.1
  pub slot : SomeSlotEnds setting limits.depart race.time
