-- *product rule*: What a report of an exploration holds (docs/FORMATS.md, "Reports").
use Rattle.std.specs.Prelude.{ℕ, List, Option}
use Rattle.sched_core.specs.declared.end.Cause.{Cause}
use Rattle.sched_core.specs.declared.setting.Grain.{Grain}
use Rattle.sched_core.specs.declared.setting.Departures.{Departures}
use Rattle.sched_core.specs.declared.setting.Looked.{Looked}
use Rattle.report_text.specs.declared.report.Version.{Version}
use Rattle.report_text.specs.declared.report.Outcome.{Outcome}

-- a variable: its name, the names of its scopes before it, joined by dots; and its width in bits
pub record Column : Type 0 where
  pub name : List ℕ
  pub width : ℕ

-- an end that runs come to: when, why, with which values (the line that tells them), under which log, how many bytes the dump
-- of that run has, and where lines are looked at those of its last slot
pub record End : Type 0 where
  pub time : ℕ
  pub cause : Cause
  pub log : List (ℕ × ℕ)
  pub bytes : ℕ
  pub line : List ℕ
  pub printed : Option (List (List ℕ))

-- a race: at the end of the slot of this time the variable of this number has these values, each in the run under its log
pub record Race : Type 0 where
  pub time : ℕ
  pub variable : ℕ
  pub values : List (List ℕ × List (ℕ × ℕ))

-- a race of lines: the slot of this time printed these lines, each in the run under its log
pub record LineRace : Type 0 where
  pub time : ℕ
  pub sides : List (List (List ℕ) × List (ℕ × ℕ))

pub record Report : Type 0 where
  pub version : Version
  pub top : List ℕ
  pub until : ℕ
  pub depart : ℕ
  pub steps : ℕ
  pub grain : Grain
  pub departures : Departures
  pub looked : Looked
  pub outcome : Outcome
  pub variables : List Column
  pub ends : List End
  pub races : List Race
  pub line_races : List LineRace
