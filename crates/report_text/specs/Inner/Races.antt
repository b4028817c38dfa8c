-- *internal*: Races, as they are read.
use Rattle.std.specs.Prelude.{◌≡◌, ℕ, ◌<◌, ◌≤◌, ◌-◌, ◌^◌, List, ◌∷◌, ◌++◌, length, slice_get, Option, Some, MatchOption, Vec, Result, IfOk, true, codes, decimal}
use Rattle.sched_core.specs.Logs.{IsLog}
use Rattle.sched_core.specs.LogText.{log_text}
use Rattle.report_text.specs.Report.{Column, Race}
use Rattle.report_text.specs.ReportText.{line, joined_by_space, race_text, races_text, value_lines}
use Rattle.report_text.specs.declared.races.RaceLine.{RaceLine}
use Rattle.report_text.specs.Inner.Lists.{Listed}
use Rattle.report_text.specs.Inner.Places.{Place, Stands, Took}
use Rattle.report_text.specs.WellFormed.{IsValue, IsRaceForm, IsRaceBefore, IsTextLess}

-- a value and the log of a run that shows it
abbrev pub Shown : Type 0
Shown = List ℕ × List (ℕ × ℕ)

abbrev pub shown_line : Shown → List ℕ
shown_line shown = line (joined_by_space shown.0 (log_text shown.1))

abbrev pub IsShown : ℕ → Shown → Type 0
IsShown width shown = IsValue width shown.0 × IsLog shown.1

abbrev pub IsShownBefore : Shown → Shown → Type 0
IsShownBefore a b = IsTextLess a.0 b.0

-- the text is the line of a value of this width, and then the rest
abbrev pub IsShownTaken : ℕ → List ℕ → Shown → List ℕ → Type 0
IsShownTaken width text shown rest = IsShown width shown × (text ≡ shown_line shown ++ rest)

-- the value stands behind the last of these
abbrev pub FollowsShown : List Shown → List ℕ → Type 0
FollowsShown values value = (before : Shown) → slice_get values (length values - 1) ≡ Some before → IsTextLess before.0 value

-- the race stands behind the last of these
abbrev pub FollowsRace : List Race → Race → Type 0
FollowsRace races race = (before : Race) → slice_get races (length races - 1) ≡ Some before → IsRaceBefore before race

-- a race of these variables whose values can be counted in 64 bits
abbrev pub IsCounted : List Column → Race → Type 0
IsCounted columns race = IsRaceForm columns race × (length race.values < 2 ^ 64)

-- the text is a race of these variables, and then the rest
abbrev pub IsRaceTaken : List Column → List ℕ → Race → List ℕ → Type 0
IsRaceTaken columns text race rest = IsCounted columns race × (text ≡ race_text columns race ++ rest)

-- the text is the first line of a race of this variable with so many values, and then the rest
pub record IsRaceLine (columns : List Column) (text : List ℕ) (time variable count : ℕ) (column : Column) (rest : List ℕ) : Type 0 where
  pub small : time < 2 ^ 64
  pub listed : slice_get columns variable ≡ Some column
  pub two : 2 ≤ count
  pub few : count < 2 ^ 64
  pub whole : text ≡ codes "race " ++ (decimal time ++ 32 ∷ (column.name ++ 32 ∷ (decimal count ++ 10 ∷ rest)))

-- so many lines of values of this width stood there
abbrev pub HasShown : ℕ → ℕ → Place → Place → List Shown → Type 0
HasShown width count old new values =
    Took old new (λ text rest. Listed (IsShown width) IsShownBefore values × (length values ≡ count) × (text ≡ value_lines values ++ rest))

-- where the reader wasn't lost, whatever lines of values stood there, so many, are what was answered
abbrev pub EachShown : {A E : Type 0} → ℕ → ℕ → Place → Place → Result (Vec Shown A) E → Type 0
EachShown width count old new result = (all : List Shown) (rest : List ℕ) →
    old.ok ≡ true → Listed (IsShown width) IsShownBefore all → length all ≡ count → old.rest ≡ value_lines all ++ rest →
    IfOk result (λ values. (values.items ≡ all) × Stands new rest)

-- the variable of this name stands at this place and has this width
abbrev pub IsFound : List Column → List ℕ → ℕ × ℕ → Type 0
IsFound columns name found = (column : Column) × (slice_get columns found.0 ≡ Some column) × (column.name ≡ name) × (found.1 ≡ column.width)

-- each variable of this name is what was answered
abbrev pub EachFound : List Column → List ℕ → Option (ℕ × ℕ) → Type 0
EachFound columns name result = (variable : ℕ) (column : Column) →
    slice_get columns variable ≡ Some column → column.name ≡ name → MatchOption result ⊥ (λ p. (p.0 ≡ variable) × (p.1 ≡ column.width))

-- the text is the first line of a race of a variable of this width, and then the rest
abbrev pub IsLineOf : List Column → List ℕ → RaceLine → List ℕ → Type 0
IsLineOf columns text line rest =
    (column : Column) × (line.width ≡ column.width) × IsRaceLine columns text line.time line.variable line.count column rest

-- where the reader wasn't lost, whatever first line of a race stood there is what was answered
abbrev pub EachLine : List Column → Place → Place → RaceLine → Type 0
EachLine columns old new line = (time variable count : ℕ) (column : Column) (rest : List ℕ) →
    old.ok ≡ true → IsRaceLine columns old.rest time variable count column rest →
    (line.time ≡ time) × (line.variable ≡ variable) × (line.width ≡ column.width) × (line.count ≡ count) × Stands new rest

-- so many races of these variables stood there
abbrev pub HasRaces : List Column → ℕ → Place → Place → List Race → Type 0
HasRaces columns count old new races =
    Took old new (λ text rest. Listed (IsCounted columns) IsRaceBefore races × (length races ≡ count) × (text ≡ races_text columns races ++ rest))

-- where the reader wasn't lost, whatever races stood there, so many, are what was answered
abbrev pub EachRaces : {A E : Type 0} → List Column → ℕ → Place → Place → Result (Vec Race A) E → Type 0
EachRaces columns count old new result = (all : List Race) (rest : List ℕ) →
    old.ok ≡ true → Listed (IsCounted columns) IsRaceBefore all → length all ≡ count → old.rest ≡ races_text columns all ++ rest →
    IfOk result (λ races. (races.items ≡ all) × Stands new rest)
