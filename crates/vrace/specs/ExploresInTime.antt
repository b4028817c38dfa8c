-- *product rule*: What an exploration that goes by time writes, from the bytes of the files to the report.
use Rattle.std.specs.Prelude.{◌≡◌, ℕ, Bool, true, false, List, Option}
use Rattle.statebook.specs.declared.limits.Limits.{Limits}
use Rattle.explore.specs.Found.{HasEntries}
use Rattle.explore.specs.Ranked.{TellsOfStop}
use Rattle.vmodel.specs.Run.{Setting, rules_of}
use Rattle.byte_sinks.specs.Metered.{Grows}
use Rattle.byte_sinks.specs.declared.metered.Metered.{Metered}
use Rattle.report_text.specs.declared.report.Outcome.TheVariants.{CutEntries}
use Rattle.report_text.specs.Report.{Report}
use Rattle.report_text.specs.ReportText.{report_text}
use Rattle.vreport.specs.InTime.{TellsOfClosed, TellsOutcomeInTime, TellsUpTo, outcome_in_time}
use Rattle.vreport.specs.declared.timed.Spent.{Spent}
use Rattle.vreport.specs.declared.timed.TimedReport.{TimedReport}
use Rattle.vrace.specs.Request.{Request}
use Rattle.vrace.specs.Explores.{HasNoRace, HasSomeRace, IsReported, Searched, setting_for}
use Rattle.vrace.specs.declared.in_time.Timed.{Timed}

-- whether a race is listed
abbrev pub SaysWhetherRaced : Report → Bool → Type 0
SaysWhetherRaced report true = HasSomeRace report
SaysWhetherRaced report false = HasNoRace report

-- and how the report says that the exploration went
pub record SaysInShort (report : Report) (timed : Timed) : Type 0 where
  pub raced : SaysWhetherRaced report timed.raced
  pub outcome_is : report.outcome ≡ timed.outcome

-- The text of such a report was written. What is answered says it in short, how the search went, and up to which time every end and
-- every race is listed, and no race of a later time. Where it stopped, this is what its budget lacked; where it says that it was cut for entries, there are so many
-- that it may come to.
pub record ReportsInTime {W : Type 0} (contents : W → Option (List ℕ)) (setting : Setting) (limits : Limits) (lacked : Spent) (timed : Timed) (old new : Metered W) : Type 0 where
  pub report : Report
  pub dumps : List (List ℕ)
  pub is_report : IsReported setting limits report dumps
  pub up_to : TellsUpTo setting limits timed.search.closed report
  pub of_closed : TellsOfClosed timed.search.closed report
  pub says : SaysInShort report timed
  pub outcome_is : timed.outcome ≡ outcome_in_time lacked timed.search.status
  pub entries : timed.outcome ≡ CutEntries → HasEntries (rules_of setting) limits
  pub written : Grows contents old new (report_text report dumps)

-- so it is, whatever it is that was lacked, of a report that says so
abbrev pub ReportsAsTold : {W : Type 0} → (W → Option (List ℕ)) → Setting → Limits → TimedReport → Timed → Metered W → Metered W → Type 0
ReportsAsTold contents setting limits told timed old new =
    (lacked : Spent) → TellsOutcomeInTime lacked told → ReportsInTime contents setting limits lacked timed old new

-- it is told that the search was stopped only where its budget said so
abbrev pub SaysIfStopped : Type 0 → Timed → Type 0
SaysIfStopped IsStopped timed = TellsOfStop IsStopped timed.search

-- The report of the files: the writer grew by just its text.
pub record ExploresInTime {W : Type 0} (contents : W → Option (List ℕ)) (files : List (List ℕ)) (asked : Request) (limits : Limits) (lacked : Spent) (timed : Timed) (old new : Metered W) : Type 0 where
  pub searched : Searched files asked
  pub reports : ReportsInTime contents (setting_for files asked searched) limits lacked timed old new
