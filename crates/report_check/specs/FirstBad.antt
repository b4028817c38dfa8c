-- *product rule*: The first item of a report that isn't true: its head, an end or a race, counted from 0. Races of lines are counted on
-- behind those of variables.
use Rattle.std.specs.Prelude.{◌≡◌, ℕ, ◌-◌, ◌≤◌, ◌⊎◌, List, length, map, take, slice_get, Some}
use Rattle.std.specs.Borrow.{Bor}
use Rattle.vmodel.specs.Run.{Setting}
use Rattle.report_text.specs.Report as reports
use Rattle.report_text.specs.WellFormed.{Each}
use Rattle.vreport.specs.Truth.{AreTrueEnds, IsTrueEndOf, IsTrueHead, IsTrueLineRace, IsTrueRace}
use Rattle.report_check.specs.declared.check.FirstBad.{FirstBad}
use Rattle.report_check.specs.declared.check.FirstBad.TheVariants.{Head, End, Race}

-- the texts that are borrowed
abbrev pub texts_of : List (Bor (List ℕ)) → List (List ℕ)
texts_of = map (λ text. text.now)

-- the first n ends are true, each with its dump
abbrev pub AreFirstEndsTrue : Setting → reports.Report → List (List ℕ) → ℕ → Type 0
AreFirstEndsTrue setting report dumps n = AreTrueEnds setting report (take n report.ends) (take n dumps)

-- the first n races are true: those of variables, and then those of lines
abbrev pub AreFirstRacesTrue : Setting → reports.Report → ℕ → Type 0
AreFirstRacesTrue setting report n =
    Each (IsTrueRace setting report) (take n report.races)
    × Each (IsTrueLineRace setting report) (take (n - length report.races) report.line_races)

-- the end at this place isn't true with its dump
pub record IsFalseEnd (setting : Setting) (report : reports.Report) (dumps : List (List ℕ)) (place : ℕ) : Type 0 where
  pub end : reports.End
  pub dump : List ℕ
  pub at : slice_get report.ends place ≡ Some end
  pub dump_at : slice_get dumps place ≡ Some dump
  pub not_true : ¬ IsTrueEndOf setting report end dump

-- the race at this place isn't true
pub record IsFalseRace (setting : Setting) (report : reports.Report) (place : ℕ) : Type 0 where
  pub race : reports.Race
  pub at : slice_get report.races place ≡ Some race
  pub not_true : ¬ IsTrueRace setting report race

-- the race of lines at this place, counted on behind the others, isn't true
pub record IsFalseLineRace (setting : Setting) (report : reports.Report) (place : ℕ) : Type 0 where
  pub race : reports.LineRace
  pub behind : length report.races ≤ place
  pub at : slice_get report.line_races (place - length report.races) ≡ Some race
  pub not_true : ¬ IsTrueLineRace setting report race

-- it isn't true, and all items before it are
abbrev pub IsFirstBad : Setting → reports.Report → List (List ℕ) → FirstBad → Type 0
IsFirstBad setting report dumps Head = ¬ IsTrueHead setting report
IsFirstBad setting report dumps (End place) =
    IsTrueHead setting report × AreFirstEndsTrue setting report dumps place × IsFalseEnd setting report dumps place
IsFirstBad setting report dumps (Race place) =
    IsTrueHead setting report × AreTrueEnds setting report report.ends dumps × AreFirstRacesTrue setting report place
    × (IsFalseRace setting report place ⊎ IsFalseLineRace setting report place)
