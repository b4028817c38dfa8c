-- *product rule*: When two reports tell the same ends and the same races, or the one all of the other; the logs and the bytes of the dumps beside them aren't
-- compared.
use Rattle.std.specs.Prelude.{◌≡◌, ℕ, List, slice_get, Option, Some}
use Rattle.statebook.specs.declared.limits.Limits.{Limits}
use Rattle.sched_core.specs.declared.end.Cause.{Cause}
use Rattle.sched_core.specs.declared.setting.Departures.TheVariants.{Taking}
use Rattle.vmodel.specs.Run.{Setting}
use Rattle.plain_steps.specs.RunLaws.{holding, of_values}
use Rattle.report_text.specs.declared.report.Outcome.TheVariants.{Exhausted}
use Rattle.report_text.specs.Report.{End, LineRace, Race, Report}
use Rattle.vreport.specs.Reports.{IsExploration}

-- an end of this time, for this cause, with these values and these printed lines is listed
pub record HasEnd (report : Report) (time : ℕ) (cause : Cause) (line : List ℕ) (printed : Option (List (List ℕ))) : Type 0 where
  pub place : ℕ
  pub end : End
  pub at : slice_get report.ends place ≡ Some end
  pub time_is : end.time ≡ time
  pub cause_is : end.cause ≡ cause
  pub line_is : end.line ≡ line
  pub printed_is : end.printed ≡ printed

-- a race at this time, of this variable, is listed, and among its values this one, by its digits
pub record HasRaced (report : Report) (time variable : ℕ) (digits : List ℕ) : Type 0 where
  pub place : ℕ
  pub race : Race
  pub at : slice_get report.races place ≡ Some race
  pub time_is : race.time ≡ time
  pub variable_is : race.variable ≡ variable
  pub value_place : ℕ
  pub seen : List ℕ × List (ℕ × ℕ)
  pub value_at : slice_get race.values value_place ≡ Some seen
  pub digits_are : seen.0 ≡ digits

-- a race of lines at this time is listed, and among its sides these lines
pub record HasPrinted (report : Report) (time : ℕ) (lines : List (List ℕ)) : Type 0 where
  pub place : ℕ
  pub race : LineRace
  pub at : slice_get report.line_races place ≡ Some race
  pub time_is : race.time ≡ time
  pub side_place : ℕ
  pub side : List (List ℕ) × List (ℕ × ℕ)
  pub side_at : slice_get race.sides side_place ≡ Some side
  pub lines_are : side.0 ≡ lines

-- each end, each raced value and each side of a race of lines of the one is listed in the other
pub record IsPartOf (one other : Report) : Type 0 where
  pub ends : (time : ℕ) (cause : Cause) (line : List ℕ) (printed : Option (List (List ℕ))) →
      HasEnd one time cause line printed → HasEnd other time cause line printed
  pub races : (time variable : ℕ) (digits : List ℕ) → HasRaced one time variable digits → HasRaced other time variable digits
  pub lines : (time : ℕ) (lines : List (List ℕ)) → HasPrinted one time lines → HasPrinted other time lines

-- they tell the same
abbrev pub Agree : Report → Report → Type 0
Agree one other = IsPartOf one other × IsPartOf other one

-- two reports of explorations of one setting, under as many departures, that both say exhausted agree
abbrev pub ExhaustedAgree : Type 0
ExhaustedAgree = (setting : Setting) (limits others : Limits) (one other : Report) →
    IsExploration setting limits one → IsExploration setting others other →
    one.depart ≡ other.depart → one.outcome ≡ Exhausted → other.outcome ≡ Exhausted → Agree one other

-- ---- two settings

-- an exhausted report of a setting where departures may hold back lists each end, race and value of any report where they only take
abbrev pub HoldingListsAll : Type 0
HoldingListsAll = (setting : Setting) (limits others : Limits) (one other : Report) → setting.departures ≡ Taking →
    IsExploration setting limits one → IsExploration (holding setting) others other →
    one.depart ≡ other.depart → other.outcome ≡ Exhausted → IsPartOf one other

-- an end of this time, for this cause, with these values is listed, whatever it printed
abbrev pub HasEndOf : Report → ℕ → Cause → List ℕ → Type 0
HasEndOf report time cause line = (printed : Option (List (List ℕ))) × HasEnd report time cause line printed

-- but for the lines each end and each raced value of the one is listed in the other
pub record IsPartButForLines (one other : Report) : Type 0 where
  pub ends : (time : ℕ) (cause : Cause) (line : List ℕ) → HasEndOf one time cause line → HasEndOf other time cause line
  pub races : (time variable : ℕ) (digits : List ℕ) → HasRaced one time variable digits → HasRaced other time variable digits

-- but for the lines, two exhausted reports of which one looks at lines and one at values alone tell the same
abbrev pub LinesRefine : Type 0
LinesRefine = (setting : Setting) (limits others : Limits) (one other : Report) →
    IsExploration setting limits one → IsExploration (of_values setting) others other →
    one.depart ≡ other.depart → one.outcome ≡ Exhausted → other.outcome ≡ Exhausted →
    IsPartButForLines one other × IsPartButForLines other one
