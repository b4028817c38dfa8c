-- *product rule*: `ReportText` (docs/FORMATS.md, "Reports"): the text of a report and of the
-- dumps of its ends.
use Rattle.std.specs.Prelude.{ℕ, List, [], ◌∷◌, ◌++◌, length, codes, decimal, slice_get, Option, Some, None}
use Rattle.sched_core.specs.LogText.{log_text}
use Rattle.sched_core.specs.declared.end.Cause.{Cause}
use Rattle.sched_core.specs.declared.end.Cause.TheVariants.{Finish, Stop, Quiet, Limit}
use Rattle.sched_core.specs.declared.setting.Grain.{Grain}
use Rattle.sched_core.specs.declared.setting.Grain.TheVariants.{Process, Statement}
use Rattle.sched_core.specs.declared.setting.Departures.{Departures}
use Rattle.sched_core.specs.declared.setting.Departures.TheVariants.{Taking, Holding}
use Rattle.sched_core.specs.declared.setting.Looked.{Looked}
use Rattle.sched_core.specs.declared.setting.Looked.TheVariants.{Values, Lines}
use Rattle.report_text.specs.declared.report.Version.{Version}
use Rattle.report_text.specs.declared.report.Version.TheVariants.{One, Two, Three}
use Rattle.report_text.specs.declared.report.Outcome.{Outcome}
use Rattle.report_text.specs.declared.report.Outcome.TheVariants.{Exhausted, CutMemory, CutEntries, CutSteps, CutTime}
use Rattle.report_text.specs.Report.{Column, End, Race, LineRace, Report}

abbrev pub line : List ℕ → List ℕ
line text = text ++ 10 ∷ []

-- two words with a space between
abbrev pub joined_by_space : List ℕ → List ℕ → List ℕ
joined_by_space left right = left ++ 32 ∷ right

-- a word, a space and a number
abbrev pub number_line : List ℕ → ℕ → List ℕ
number_line word n = line (joined_by_space word (decimal n))

-- ---- words

abbrev pub version_number : Version → ℕ
version_number One = 1
version_number Two = 2
version_number Three = 3

abbrev pub grain_word : Grain → List ℕ
grain_word Process = codes "process"
grain_word Statement = codes "statement"

abbrev pub departures_word : Departures → List ℕ
departures_word Taking = codes "taking"
departures_word Holding = codes "holding"

abbrev pub looked_word : Looked → List ℕ
looked_word Values = codes "values"
looked_word Lines = codes "lines"

abbrev pub cause_word : Cause → List ℕ
cause_word Finish = codes "finish"
cause_word Stop = codes "stop"
cause_word Quiet = codes "quiet"
cause_word Limit = codes "limit"

abbrev pub outcome_words : Outcome → List ℕ
outcome_words Exhausted = codes "exhausted"
outcome_words CutMemory = codes "cut memory"
outcome_words CutEntries = codes "cut entries"
outcome_words CutSteps = codes "cut steps"
outcome_words CutTime = codes "cut time"

-- ---- the head

-- a report of version 1 has no line for its grain, which is process
abbrev pub grain_lines : Version → Grain → List ℕ
grain_lines One grain = []
grain_lines Two grain = line (joined_by_space (codes "grain") (grain_word grain))
grain_lines Three grain = line (joined_by_space (codes "grain") (grain_word grain))

-- the lines that version 3 alone has
abbrev pub view_lines : Version → Departures → Looked → List ℕ
view_lines One departures looked = []
view_lines Two departures looked = []
view_lines Three departures looked =
    line (joined_by_space (codes "departures") (departures_word departures)) ++ line (joined_by_space (codes "looked") (looked_word looked))

abbrev pub column_line : Column → List ℕ
column_line column = line (joined_by_space column.name (decimal column.width))

abbrev pub column_lines : List Column → List ℕ
column_lines [] = []
column_lines (column ∷ columns) = column_line column ++ column_lines columns

abbrev pub head_text : Report → List ℕ
head_text r =
    number_line (codes "vrace report") (version_number r.version)
    ++ line (joined_by_space (codes "top") r.top)
    ++ number_line (codes "until") r.until
    ++ number_line (codes "depart") r.depart
    ++ number_line (codes "steps") r.steps
    ++ grain_lines r.version r.grain
    ++ view_lines r.version r.departures r.looked
    ++ line (joined_by_space (codes "state") (outcome_words r.outcome))
    ++ number_line (codes "vars") (length r.variables)
    ++ column_lines r.variables

-- ---- ends

-- a text by the count of its bytes; and such texts one after another
abbrev pub counted_text : List ℕ → List ℕ
counted_text text = number_line (codes "line") (length text) ++ text

abbrev pub counted_texts : List (List ℕ) → List ℕ
counted_texts [] = []
counted_texts (text ∷ texts) = counted_text text ++ counted_texts texts

-- the lines of an end, where they are looked at; they stand after its values and before its dump
abbrev pub printed_lines : Option (List (List ℕ)) → List ℕ
printed_lines None = []
printed_lines (Some bag) = number_line (codes "lines") (length bag) ++ counted_texts bag

-- time, cause, log and the count of the dump's bytes; the line of the values; and the printed lines
abbrev pub end_text : End → List ℕ
end_text end =
    line (codes "end " ++ joined_by_space (decimal end.time) (joined_by_space (cause_word end.cause) (joined_by_space (log_text end.log) (decimal end.bytes))))
    ++ line end.line
    ++ printed_lines end.printed

-- each end with its dump after it
abbrev pub ends_text : List End → List (List ℕ) → List ℕ
ends_text [] dumps = []
ends_text (end ∷ ends) [] = end_text end ++ ends_text ends []
ends_text (end ∷ ends) (dump ∷ dumps) = end_text end ++ dump ++ ends_text ends dumps

-- ---- races

abbrev pub value_lines : List (List ℕ × List (ℕ × ℕ)) → List ℕ
value_lines [] = []
value_lines (value ∷ values) = line (joined_by_space value.0 (log_text value.1)) ++ value_lines values

abbrev pub name_at : Option Column → List ℕ
name_at None = []
name_at (Some column) = column.name

abbrev pub race_text : List Column → Race → List ℕ
race_text columns race =
    line (codes "race " ++ joined_by_space (decimal race.time) (joined_by_space (name_at (slice_get columns race.variable)) (decimal (length race.values))))
    ++ value_lines race.values

abbrev pub races_text : List Column → List Race → List ℕ
races_text columns [] = []
races_text columns (race ∷ races) = race_text columns race ++ races_text columns races

-- ---- races of lines

-- the count of the lines and the log; and the lines
abbrev pub side_text : List (List ℕ) × List (ℕ × ℕ) → List ℕ
side_text side = line (codes "lines " ++ joined_by_space (decimal (length side.0)) (log_text side.1)) ++ counted_texts side.0

abbrev pub side_texts : List (List (List ℕ) × List (ℕ × ℕ)) → List ℕ
side_texts [] = []
side_texts (side ∷ sides) = side_text side ++ side_texts sides

abbrev pub line_race_text : LineRace → List ℕ
line_race_text race =
    line (codes "line race " ++ joined_by_space (decimal race.time) (decimal (length race.sides))) ++ side_texts race.sides

abbrev pub line_races_text : List LineRace → List ℕ
line_races_text [] = []
line_races_text (race ∷ races) = line_race_text race ++ line_races_text races

-- the line that counts them, where lines are looked at
abbrev pub line_races_line : Looked → List LineRace → List ℕ
line_races_line Values races = []
line_races_line Lines races = number_line (codes "line races") (length races)

-- the last part of a report, where lines are looked at
abbrev pub line_races_part : Looked → List LineRace → List ℕ
line_races_part Values races = []
line_races_part Lines races = number_line (codes "line races") (length races) ++ line_races_text races

-- ---- the whole

-- the lines that count the ends and the races
abbrev pub ends_line : Report → List ℕ
ends_line r = number_line (codes "ends") (length r.ends)

abbrev pub races_line : Report → List ℕ
races_line r = number_line (codes "races") (length r.races)

abbrev pub report_text : Report → List (List ℕ) → List ℕ
report_text r dumps =
    head_text r
    ++ ends_line r
    ++ ends_text r.ends dumps
    ++ races_line r
    ++ races_text r.variables r.races
    ++ line_races_part r.looked r.line_races
