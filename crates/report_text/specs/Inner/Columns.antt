-- *internal*: The lines of variables.
use Rattle.std.specs.Prelude.{◌≡◌, ◌≢◌, ℕ, true, List, ◌++◌, length, map}
use Rattle.report_text.specs.Report.{Column}
use Rattle.report_text.specs.ReportText.{column_line, column_lines}
use Rattle.report_text.specs.WellFormed.{IsColumn}
use Rattle.report_text.specs.Inner.Lists.{Listed}
use Rattle.report_text.specs.Inner.Places.{Place}

abbrev pub column_by : List ℕ → ℕ → Column
column_by name width = record { name = name; width = width }

-- the text is the line of this variable, and then the rest
abbrev pub IsColumnTaken : List ℕ → Column → List ℕ → Type 0
IsColumnTaken text column rest = IsColumn column × (text ≡ column_line column ++ rest)

-- their names differ
abbrev pub Differ : Column → Column → Type 0
Differ a b = a.name ≢ b.name

-- the text is so many lines of variables, whose names are told beside them, and then the rest
abbrev pub AreColumnsTaken : ℕ → List ℕ → List Column × List (List ℕ) → List ℕ → Type 0
AreColumnsTaken count text taken rest =
    Listed IsColumn Differ taken.0 × (length taken.0 ≡ count) × (taken.1 ≡ map (λ c. c.name) taken.0)
    × (text ≡ column_lines taken.0 ++ rest)

-- where the reader wasn't lost, the fact holds of whatever variables stood there, and of the rest
abbrev pub EachColumns : ℕ → Place → (List Column → List ℕ → Type 0) → Type 0
EachColumns count old P = (columns : List Column) (rest : List ℕ) →
    old.ok ≡ true → Listed IsColumn Differ columns → length columns ≡ count → old.rest ≡ column_lines columns ++ rest → P columns rest
