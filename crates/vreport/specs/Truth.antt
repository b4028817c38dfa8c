-- *product rule*: When what a report lists is true: its head is that of a setting, and each end and each race is of runs of it within the
-- limits that the head names.
use Rattle.std.specs.Prelude.{◌≡◌, ℕ, ◌≤◌, List, [], ◌∷◌, length, map}
use Rattle.sched_core.specs.Rules.{IsRun, NamesBelow}
use Rattle.vbits.specs.Vectors.{Vector}
use Rattle.vdesign.specs.Design.{Variable}
use Rattle.vmodel.specs.Run.{Setting, rules_of}
use Rattle.racebook.specs.LineRaces.{ShowsLines}
use Rattle.racebook.specs.Races.{ShowsValue}
use Rattle.report_text.specs.Report.{Column, End, LineRace, Race, Report}
use Rattle.report_text.specs.WellFormed.{Each}
use Rattle.vreport.specs.Dumps.{IsRunDump}
use Rattle.vreport.specs.Ends.{IsEndAfter}
use Rattle.value_text.specs.ValueText.{binary}

-- a variable, by its name and its width
abbrev pub column_of : Variable → Column
column_of variable = record { name = variable.name; width = variable.length }

-- the head is that of the setting
pub record IsTrueHead (setting : Setting) (report : Report) : Type 0 where
  pub top_is : report.top ≡ setting.design.top
  pub until_is : report.until ≡ setting.until
  pub grain_is : report.grain ≡ setting.grain
  pub departures_are : report.departures ≡ setting.departures
  pub looked_is : report.looked ≡ setting.looked
  pub variables_are : report.variables ≡ map column_of setting.design.variables

-- the run under the end's log has no more departures and takes no more steps than the head allows, ends as it is told, and
-- this is its dump
pub record IsTrueEndOf (setting : Setting) (report : Report) (end : End) (dump : List ℕ) : Type 0 where
  pub steps : ℕ
  pub after : IsEndAfter setting end.log steps end.time end.cause end.line end.printed
  pub within : steps ≤ report.steps
  pub short : length end.log ≤ report.depart
  pub is_dump : IsRunDump setting end.log report.steps dump

-- of each end and its dump
abbrev pub AreTrueEnds : Setting → Report → List End → List (List ℕ) → Type 0
AreTrueEnds setting report [] dumps = dumps ≡ []
AreTrueEnds setting report (end ∷ ends) [] = ⊥
AreTrueEnds setting report (end ∷ ends) (dump ∷ dumps) = IsTrueEndOf setting report end dump × AreTrueEnds setting report ends dumps

-- The run under the log has no more departures than the head allows, comes to the end of the slot of this time with this
-- value of the variable, and takes all that the log names, both within the steps that the head allows.
pub record IsTrueWitness (setting : Setting) (report : Report) (time variable : ℕ) (seen : List ℕ × List (ℕ × ℕ)) : Type 0 where
  pub value : Vector
  pub text_is : seen.0 ≡ binary value
  pub steps : ℕ
  pub run : IsRun (rules_of setting) seen.1 steps
  pub names : NamesBelow seen.1 steps
  pub within : steps ≤ report.steps
  pub at : ℕ
  pub reached : at ≤ steps
  pub shown : ShowsValue setting time variable value seen.1 at
  pub short : length seen.1 ≤ report.depart

-- each value of the race is so seen; its values are different ones (`IsReport`), so any two are a race
abbrev pub IsTrueRace : Setting → Report → Race → Type 0
IsTrueRace setting report race = Each (IsTrueWitness setting report race.time race.variable) race.values

-- The same of the lines that the slot printed.
pub record IsTrueLines (setting : Setting) (report : Report) (time : ℕ) (side : List (List ℕ) × List (ℕ × ℕ)) : Type 0 where
  pub steps : ℕ
  pub run : IsRun (rules_of setting) side.1 steps
  pub names : NamesBelow side.1 steps
  pub within : steps ≤ report.steps
  pub at : ℕ
  pub reached : at ≤ steps
  pub shown : ShowsLines setting time side.0 side.1 at
  pub short : length side.1 ≤ report.depart

-- each side of the race of lines is so seen; its sides are different ones (`IsReport`), so any two are a race
abbrev pub IsTrueLineRace : Setting → Report → LineRace → Type 0
IsTrueLineRace setting report race = Each (IsTrueLines setting report race.time) race.sides

pub record IsTrueReport (setting : Setting) (report : Report) (dumps : List (List ℕ)) : Type 0 where
  pub head : IsTrueHead setting report
  pub ends : AreTrueEnds setting report report.ends dumps
  pub races : Each (IsTrueRace setting report) report.races
  pub line_races : Each (IsTrueLineRace setting report) report.line_races
