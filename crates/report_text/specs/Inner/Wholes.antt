-- *internal*: The head of a report with its variables, and its ends and races, as they are read.
use Rattle.std.specs.Prelude.{◌≡◌, ℕ, ◌<◌, ◌^◌, List, ◌++◌, length, codes, decimal, map, flat_map, true, Vec, Result, IfOk}
use Rattle.std.specs.Borrow.{Bor}
use Rattle.sched_core.specs.declared.setting.Looked.{Looked}
use Rattle.report_text.specs.Report.{Column, End, Race}
use Rattle.report_text.specs.ReportText.{column_lines, races_text}
use Rattle.report_text.specs.WellFormed.{IsColumn, IsRaceBefore}
use Rattle.report_text.specs.Inner.Columns.{Differ}
use Rattle.report_text.specs.Inner.Ends.{Ended, ended_text, IsEnded, IsEndedBefore}
use Rattle.report_text.specs.Inner.Headings.{Heading, IsHeading, heading_before, label_line_before}
use Rattle.report_text.specs.Inner.Lists.{Listed}
use Rattle.report_text.specs.Inner.Places.{Place, Stands, Took}
use Rattle.report_text.specs.Inner.Races.{IsCounted}

-- the text is this head with these variables, and then the rest
pub record IsHeadTaken (text : List ℕ) (h : Heading) (columns : List Column) (rest : List ℕ) : Type 0 where
  pub heading : IsHeading h
  pub listed : Listed IsColumn Differ columns
  pub few : length columns < 2 ^ 64
  pub whole : text ≡ heading_before h (label_line_before (codes "vars ") (decimal (length columns)) (column_lines columns ++ rest))

-- the text is these ends with their dumps and these races, and then the rest
pub record IsBodyTaken (looked : Looked) (columns : List Column) (text : List ℕ) (all : List Ended) (races : List Race) (rest : List ℕ) : Type 0 where
  pub ends : Listed (IsEnded looked columns) IsEndedBefore all
  pub few_ends : length all < 2 ^ 64
  pub listed : Listed (IsCounted columns) IsRaceBefore races
  pub few_races : length races < 2 ^ 64
  pub whole : text ≡ label_line_before (codes "ends ") (decimal (length all))
      (flat_map ended_text all ++ label_line_before (codes "races ") (decimal (length races)) (races_text columns races ++ rest))

-- these ends with these dumps and these races stood there
abbrev pub HasBody : Looked → List Column → Place → Place → List End → List (Bor (List ℕ)) → List Race → Type 0
HasBody looked columns old new ends dumps races = Took old new (λ text rest.
    (all : List Ended) × IsBodyTaken looked columns text all races rest × (ends ≡ map (λ e. e.0) all) × (map (λ dump. dump.now) dumps ≡ map (λ e. e.1) all))

-- where the reader wasn't lost, whatever ends and races stood there are what was answered
abbrev pub EachBody : {A D R E : Type 0} → Looked → List Column → Place → Place → Result (Vec End A × Vec (Bor (List ℕ)) D × Vec Race R) E → Type 0
EachBody looked columns old new result = (all : List Ended) (races : List Race) (rest : List ℕ) →
    old.ok ≡ true → IsBodyTaken looked columns old.rest all races rest →
    IfOk result (λ p. (p.0.items ≡ map (λ e. e.0) all) × (map (λ dump. dump.now) p.1.items ≡ map (λ e. e.1) all) × (p.2.items ≡ races) × Stands new rest)
