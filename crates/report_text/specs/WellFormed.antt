-- *product rule*: Which reports there are: those whose text is read (docs/FORMATS.md, "Reports").
use Rattle.std.specs.Prelude.{◌≡◌, ◌≢◌, ℕ, ◌<◌, ◌≤◌, ◌^◌, ◌||◌, ◌==◌, ◌⊎◌, Bool, true, List, [], ◌∷◌, length, slice_get, Option, Some, Result, MatchResult}
use Rattle.std.specs.List.{list_all}
use Rattle.std.specs.Ordering.{nat_cmp}
use Rattle.std.specs.Cmp.Lexicographic.{slice_cmp}
use Rattle.std.specs.declared.cmp.Ordering.TheVariants.{Less}
use Rattle.basis.specs.declared.memory.OrMemory.{OrMemory}
use Rattle.basis.specs.Reasons.{Because}
use Rattle.sched_core.specs.Logs.{IsLog}
use Rattle.vwords.specs.Names.{has_letters_of_name, is_path}
use Rattle.sched_core.specs.declared.setting.Grain.TheVariants.{Process}
use Rattle.sched_core.specs.declared.setting.Departures.{Departures}
use Rattle.sched_core.specs.declared.setting.Departures.TheVariants.{Taking, Holding}
use Rattle.sched_core.specs.declared.setting.Looked.{Looked}
use Rattle.sched_core.specs.declared.setting.Looked.TheVariants.{Values, Lines}
use Rattle.sched_core.specs.Bags.{IsBagLess, AreLinesInOrder, HasLines}
use Rattle.report_text.specs.declared.report.Version.{Version}
use Rattle.report_text.specs.declared.report.Version.TheVariants.{One, Two, Three}
use Rattle.report_text.specs.declared.report.Outcome.{Outcome}
use Rattle.report_text.specs.declared.report.Outcome.TheVariants.{CutTime}
use Rattle.report_text.specs.declared.report.ReportFault.{ReportFault}
use Rattle.report_text.specs.Report.{Column, End, Race, LineRace, Report}
use Rattle.report_text.specs.ReportText.{joined_by_space, cause_word, report_text}

-- the fact holds of each thing of the list
abbrev pub Each : {A : Type 0} → (A → Type 0) → List A → Type 0
Each {A} P xs = (i : ℕ) (x : A) → slice_get xs i ≡ Some x → P x

-- and of each two things of it, the earlier one first
abbrev pub EachTwo : {A : Type 0} → (A → A → Type 0) → List A → Type 0
EachTwo {A} P xs = (i j : ℕ) (x y : A) → i < j → slice_get xs i ≡ Some x → slice_get xs j ≡ Some y → P x y

-- one text stands before another in the order of their bytes
abbrev pub IsTextLess : List ℕ → List ℕ → Type 0
IsTextLess a b = slice_cmp nat_cmp a b ≡ Less

-- ---- values

-- 0, 1, x or z
abbrev pub is_digit : ℕ → Bool
is_digit c = (c == 48) || (c == 49) || (c == 120) || (c == 122)

-- the digits of a value of this width, leftmost first
abbrev pub IsValue : ℕ → List ℕ → Type 0
IsValue width text = (length text ≡ width) × (list_all is_digit text ≡ true)

-- a line that tells a value of each of the variables, with one space between
abbrev pub IsLineOf : List Column → List ℕ → Type 0
IsLineOf [] text = text ≡ []
IsLineOf (column ∷ []) text = IsValue column.width text
IsLineOf (column ∷ next ∷ columns) text =
    (value rest : List ℕ) × IsValue column.width value × IsLineOf (next ∷ columns) rest × (text ≡ joined_by_space value rest)

abbrev pub IsColumn : Column → Type 0
IsColumn column = (is_path column.name ≡ true) × (1 ≤ column.width) × (column.width ≤ 64)

-- ---- ends and races

abbrev pub IsPrintedLess : Option (List (List ℕ)) → Option (List (List ℕ)) → Type 0
IsPrintedLess (Some a) (Some b) = IsBagLess a b
IsPrintedLess _ _ = ⊥

-- by time, then by the bytes of the cause, then by those of the values, then by the lines
abbrev pub IsEndBefore : End → End → Type 0
IsEndBefore a b =
    (a.time < b.time)
    ⊎ ((a.time ≡ b.time) × (IsTextLess (cause_word a.cause) (cause_word b.cause)
    ⊎ ((a.cause ≡ b.cause) × (IsTextLess a.line b.line ⊎ ((a.line ≡ b.line) × IsPrintedLess a.printed b.printed)))))

-- by time, then by the number of the variable
abbrev pub IsRaceBefore : Race → Race → Type 0
IsRaceBefore a b = (a.time < b.time) ⊎ ((a.time ≡ b.time) × (a.variable < b.variable))

pub record IsEnd (looked : Looked) (columns : List Column) (end : End) : Type 0 where
  pub time : end.time < 2 ^ 64
  pub log : IsLog end.log
  pub line : IsLineOf columns end.line
  pub lines : HasLines looked end.printed

-- two values or more, each as wide as the variable, in the order of their bytes
pub record IsRaceForm (columns : List Column) (race : Race) : Type 0 where
  pub time : race.time < 2 ^ 64
  pub column : Column
  pub listed : slice_get columns race.variable ≡ Some column
  pub two : 2 ≤ length race.values
  pub values : Each (λ v. IsValue column.width v.0) race.values
  pub logs : Each (λ v. IsLog v.1) race.values
  pub order : EachTwo (λ v w. IsTextLess v.0 w.0) race.values

-- two sides or more, in the order of their lines, under logs
pub record IsLineRaceForm (race : LineRace) : Type 0 where
  pub time : race.time < 2 ^ 64
  pub two : 2 ≤ length race.sides
  pub lines : Each (λ s. AreLinesInOrder s.0) race.sides
  pub logs : Each (λ s. IsLog s.1) race.sides
  pub order : EachTwo (λ s t. IsBagLess s.0 t.0) race.sides

-- by time
abbrev pub IsLineRaceBefore : LineRace → LineRace → Type 0
IsLineRaceBefore a b = a.time < b.time

-- which departures there are, what is looked at, and how the exploration went, as this version tells
abbrev pub HasViews : Version → Departures → Looked → Outcome → Type 0
HasViews One departures looked outcome = (departures ≡ Taking) × (looked ≡ Values) × (outcome ≢ CutTime)
HasViews Two departures looked outcome = (departures ≡ Taking) × (looked ≡ Values) × (outcome ≢ CutTime)
HasViews Three departures looked outcome = (departures ≡ Holding) ⊎ ((looked ≡ Lines) ⊎ (outcome ≡ CutTime))

-- the numbers of the head are within their limits
pub record IsHead (r : Report) : Type 0 where
  pub top : has_letters_of_name r.top ≡ true
  pub until : r.until ≤ 4611686018427387903
  pub depart : r.depart ≤ 4
  pub some_steps : 1 ≤ r.steps
  pub few_steps : r.steps ≤ 1000000
  pub grain : r.version ≡ One → r.grain ≡ Process
  pub views : HasViews r.version r.departures r.looked r.outcome

-- so many bytes as the dump has
abbrev pub HaveBytes : List End → List (List ℕ) → Type 0
HaveBytes [] [] = Unit {0}
HaveBytes [] (dump ∷ dumps) = ⊥
HaveBytes (end ∷ ends) [] = ⊥
HaveBytes (end ∷ ends) (dump ∷ dumps) = (end.bytes ≡ length dump) × HaveBytes ends dumps

pub record IsReport (r : Report) (dumps : List (List ℕ)) : Type 0 where
  pub head : IsHead r
  pub columns : Each IsColumn r.variables
  pub names : EachTwo (λ a b. a.name ≢ b.name) r.variables
  pub ends : Each (IsEnd r.looked r.variables) r.ends
  pub ends_order : EachTwo IsEndBefore r.ends
  pub bytes : HaveBytes r.ends dumps
  pub races : Each (IsRaceForm r.variables) r.races
  pub races_order : EachTwo IsRaceBefore r.races
  pub line_races : Each IsLineRaceForm r.line_races
  pub line_races_order : EachTwo IsLineRaceBefore r.line_races
  pub no_lines : r.looked ≡ Values → r.line_races ≡ []

-- the text is that of no report
abbrev pub IsNoReportText : List ℕ → Type 0
IsNoReportText text = (r : Report) (dumps : List (List ℕ)) → IsReport r dumps → text ≢ report_text r dumps

-- the text is that of this report with these dumps
abbrev pub IsReportText : List ℕ → Report × List (List ℕ) → Type 0
IsReportText text with_dumps = IsReport with_dumps.0 with_dumps.1 × (text ≡ report_text with_dumps.0 with_dumps.1)

-- the text of a report is read as that report with its dumps, unless memory was refused
abbrev pub ReadsEachReport : List ℕ → Result (Report × List (List ℕ)) (OrMemory ReportFault) → Type 0
ReadsEachReport text answer =
    (r : Report) (dumps : List (List ℕ)) → IsReport r dumps → text ≡ report_text r dumps → MatchResult answer (λ with_dumps. (with_dumps.0 ≡ r) × (with_dumps.1 ≡ dumps)) (Because (λ _. ⊥))

-- no two reports, with their dumps, have one text, where its bytes can be counted in 64 bits
abbrev pub OneReportForText : Type 0
OneReportForText = (r s : Report) (dumps others : List (List ℕ)) → IsReport r dumps → IsReport s others → length (report_text r dumps) < 2 ^ 64 → report_text r dumps ≡ report_text s others → (r ≡ s) × (dumps ≡ others)
