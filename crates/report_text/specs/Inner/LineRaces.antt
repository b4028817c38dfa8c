-- *internal*: Races of lines, as they are read.
use Rattle.std.specs.Prelude.{◌≡◌, ℕ, ◌<◌, ◌≤◌, ◌-◌, ◌^◌, List, [], ◌∷◌, ◌++◌, length, slice_get, Some, codes, decimal}
use Rattle.sched_core.specs.Logs.{IsLog}
use Rattle.sched_core.specs.Bags.{AreLinesInOrder, IsBagLess}
use Rattle.sched_core.specs.declared.setting.Looked.{Looked}
use Rattle.sched_core.specs.declared.setting.Looked.TheVariants.{Values}
use Rattle.report_text.specs.Report.{LineRace}
use Rattle.report_text.specs.ReportText.{side_text, side_texts, line_race_text, line_races_text, line_races_part}
use Rattle.report_text.specs.WellFormed.{Each, IsLineRaceForm, IsLineRaceBefore}
use Rattle.report_text.specs.Inner.Lines.{AreCountable}
use Rattle.report_text.specs.Inner.Lists.{Listed}

-- the lines of a slot, and the log of a run that shows them
abbrev pub Side : Type 0
Side = List (List ℕ) × List (ℕ × ℕ)

abbrev pub IsSide : Side → Type 0
IsSide side = AreLinesInOrder side.0 × AreCountable side.0 × IsLog side.1

abbrev pub IsSideBefore : Side → Side → Type 0
IsSideBefore a b = IsBagLess a.0 b.0

-- the text is this side, and then the rest
abbrev pub IsSideTaken : List ℕ → Side → List ℕ → Type 0
IsSideTaken text side rest = IsSide side × (text ≡ side_text side ++ rest)

-- lines stand after the last of these
abbrev pub FollowsSide : List Side → List (List ℕ) → Type 0
FollowsSide sides lines = (before : Side) → slice_get sides (length sides - 1) ≡ Some before → IsBagLess before.0 lines

-- the text is so many sides in order, and then the rest
abbrev pub AreSidesTaken : ℕ → List ℕ → List Side → List ℕ → Type 0
AreSidesTaken count text sides rest = Listed IsSide IsSideBefore sides × (length sides ≡ count) × (text ≡ side_texts sides ++ rest)

-- a race of lines whose sides and lines can be counted in 64 bits
abbrev pub IsCountedLines : LineRace → Type 0
IsCountedLines race = IsLineRaceForm race × (length race.sides < 2 ^ 64) × Each (λ s. AreCountable s.0) race.sides

-- the text is this race of lines, and then the rest
abbrev pub IsLineRaceTaken : List ℕ → LineRace → List ℕ → Type 0
IsLineRaceTaken text race rest = IsCountedLines race × (text ≡ line_race_text race ++ rest)

-- the race stands after the last of these
abbrev pub FollowsLineRace : List LineRace → LineRace → Type 0
FollowsLineRace races race = (before : LineRace) → slice_get races (length races - 1) ≡ Some before → IsLineRaceBefore before race

-- the text is the first line of a race of lines, its time and the count of its sides, and then the rest
pub record IsLineRaceLine (text : List ℕ) (line : ℕ × ℕ) (rest : List ℕ) : Type 0 where
  pub small : line.0 < 2 ^ 64
  pub two : 2 ≤ line.1
  pub few : line.1 < 2 ^ 64
  pub whole : text ≡ codes "line race " ++ (decimal line.0 ++ 32 ∷ (decimal line.1 ++ 10 ∷ rest))

-- the text is so many races of lines in order, and then the rest
abbrev pub AreLineRacesTaken : ℕ → List ℕ → List LineRace → List ℕ → Type 0
AreLineRacesTaken count text races rest = Listed IsCountedLines IsLineRaceBefore races × (length races ≡ count) × (text ≡ line_races_text races ++ rest)

-- races of lines in order, none where values are looked at
abbrev pub AreLast : Looked → List LineRace → Type 0
AreLast looked races = Listed IsCountedLines IsLineRaceBefore races × (length races < 2 ^ 64) × (looked ≡ Values → races ≡ [])

-- the text is the last part of a report with these, and then the rest
abbrev pub AreLastTaken : Looked → List ℕ → List LineRace → List ℕ → Type 0
AreLastTaken looked text races rest = AreLast looked races × (text ≡ line_races_part looked races ++ rest)
