-- *product rule*: What an exploration writes, from the bytes of the files to the report; and when it is refused.
use Rattle.std.specs.Prelude.{◌≡◌, ℕ, ◌<◌, ◌≤◌, ◌⊎◌, List, [], Option, length, take}
use Rattle.std.specs.Io.KnownBytes.{Appends}
use Rattle.basis.specs.declared.memory.OrMemory.{OrMemory}
use Rattle.statebook.specs.declared.limits.Limits.{Limits}
use Rattle.statebook.specs.declared.reason.Reason.TheVariants.{Entries}
use Rattle.explore.specs.declared.findings.Status.TheVariants as explored
use Rattle.explore.specs.Found.{HasEntries}
use Rattle.vdesign.specs.Design.{Design}
use Rattle.sched_core.specs.declared.setting.Departures.TheVariants.{Taking, Holding}
use Rattle.sched_core.specs.declared.setting.Looked.TheVariants.{Values}
use Rattle.vmodel.specs.Run.{Setting, rules_of}
use Rattle.byte_sinks.specs.Metered.{Grows, Stops}
use Rattle.byte_sinks.specs.declared.metered.Metered.{Metered}
use Rattle.byte_sinks.specs.declared.fault.WriteFault.{WriteFault}
use Rattle.report_text.specs.declared.report.Outcome.TheVariants.{Exhausted}
use Rattle.report_text.specs.Report.{Report}
use Rattle.report_text.specs.ReportText.{report_text}
use Rattle.report_text.specs.WellFormed.{IsReport}
use Rattle.vreport.specs.Agreement.{Agree, IsPartButForLines, IsPartOf}
use Rattle.vreport.specs.Reports.{HasOutcome, IsExploration}
use Rattle.vreport.specs.Written.{AreDumps}
use Rattle.vrace.specs.Request.{Request}
use Rattle.vrace.specs.Refusals.{IsDesignFault, IsOfMemory, IsOfWriting}
use Rattle.vrace.specs.Replays.{AreRead, IsDesignOfFiles}
use Rattle.vrace.specs.RunDumps.{fault_of}
use Rattle.vrace.specs.declared.exploring.Status.{Status}
use Rattle.vrace.specs.declared.exploring.Status.TheVariants.{NoRace, Raced, Cut}
use Rattle.vrace.specs.declared.fault.Fault.{Fault}
use Rattle.vrace.specs.declared.fault.Fault.TheVariants.{Memory, OutOfLimit, Write}

-- a race is listed, of a variable or of lines
abbrev pub HasSomeRace : Report → Type 0
HasSomeRace report = (0 < length report.races) ⊎ (0 < length report.line_races)

abbrev pub HasNoRace : Report → Type 0
HasNoRace report = (report.races ≡ []) × (report.line_races ≡ [])

-- What a report says in one word: no race was found and nothing was missed; or a race was found, and so the exploration went;
-- or none was found, and for this reason the exploration was cut.
abbrev pub IsStatusOf : Report → Status → Type 0
IsStatusOf report NoRace = HasNoRace report × HasOutcome explored.Exhausted report
IsStatusOf report (Raced how) = HasSomeRace report × HasOutcome how report
IsStatusOf report (Cut reason) = HasNoRace report × HasOutcome (explored.Cut reason) report

-- the status says that the exploration was cut for entries
abbrev pub IsCutForEntries : Status → Type 0
IsCutForEntries NoRace = ⊥
IsCutForEntries (Raced how) = how ≡ explored.Cut Entries
IsCutForEntries (Cut reason) = reason ≡ Entries

-- a report of an exploration of the setting under the limits, and the dumps of its ends; its text is read again
pub record IsReported (setting : Setting) (limits : Limits) (report : Report) (dumps : List (List ℕ)) : Type 0 where
  pub exploration : IsExploration setting limits report
  pub are_dumps : AreDumps setting report.steps report.ends dumps
  pub formed : IsReport report dumps

-- ---- of a setting

-- the text of such a report was written, and its status answered
pub record Reports {W : Type 0} (contents : W → Option (List ℕ)) (setting : Setting) (limits : Limits) (status : Status) (old new : Metered W) : Type 0 where
  pub report : Report
  pub dumps : List (List ℕ)
  pub is_report : IsReported setting limits report dumps
  pub status_is : IsStatusOf report status
  pub written : Grows contents old new (report_text report dumps)

-- where the status says that the exploration was cut for entries, there are so many that it may come to
abbrev pub HasEntriesWhereCut : Setting → Limits → Status → Type 0
HasEntriesWhereCut setting limits status = IsCutForEntries status → HasEntries (rules_of setting) limits

-- the fault came as the report went out
pub record StopsReport {W : Type 0} (contents : W → Option (List ℕ)) (setting : Setting) (limits : Limits) (old new : Metered W) (fault : Fault) : Type 0 where
  pub cause : OrMemory WriteFault
  pub is : fault ≡ fault_of cause
  pub report : Report
  pub dumps : List (List ℕ)
  pub is_report : IsReported setting limits report dumps
  pub stops : Stops contents old new (report_text report dumps) cause

-- no report was begun, for want of memory, or the fault came as it went out
abbrev pub EndsSearch : {W : Type 0} → (W → Option (List ℕ)) → Setting → Limits → Metered W → Metered W → Fault → Type 0
EndsSearch contents setting limits old new fault =
    (IsOfMemory fault × (new ≡ old)) ⊎ StopsReport contents setting limits old new fault

-- ---- of files

-- what is explored: the design of the files, under the time limit, in the grain, with the departures and looked at as is asked for
pub record Searched (files : List (List ℕ)) (asked : Request) : Type 0 where
  pub are_read : AreRead files
  pub design : Design
  pub is_design : IsDesignOfFiles files asked.top design

abbrev pub setting_for : (files : List (List ℕ)) (asked : Request) → Searched files asked → Setting
setting_for files asked searched = record { design = searched.design; until = asked.until; grain = asked.grain; departures = asked.departures; looked = asked.looked }

-- The report of the files: the writer grew by just its text.
pub record Explores {W : Type 0} (contents : W → Option (List ℕ)) (files : List (List ℕ)) (asked : Request) (limits : Limits) (status : Status) (old new : Metered W) : Type 0 where
  pub searched : Searched files asked
  pub reports : Reports contents (setting_for files asked searched) limits status old new

-- this is what is explored of the files
pub record IsSearched (files : List (List ℕ)) (asked : Request) (setting : Setting) : Type 0 where
  pub searched : Searched files asked
  pub setting_is : setting ≡ setting_for files asked searched

abbrev pub FilesHaveEntriesWhereCut : List (List ℕ) → Request → Limits → Status → Type 0
FilesHaveEntriesWhereCut files asked limits status =
    (searched : Searched files asked) × HasEntriesWhereCut (setting_for files asked searched) limits status

-- what a fault of the search or of its report says
abbrev pub IsSearchReason : List (List ℕ) → Request → Limits → Fault → Type 0
IsSearchReason files asked limits (Memory m) = Unit {0}
IsSearchReason files asked limits Write =
    (searched : Searched files asked) × (report : Report) × (dumps : List (List ℕ)) × IsReported (setting_for files asked searched) limits report dumps
IsSearchReason files asked limits other = ⊥

-- why an exploration is refused: for its files or their text, or in the search
abbrev pub IsExploreReason : List (List ℕ) → Request → Limits → Fault → Type 0
IsExploreReason files asked limits fault = IsDesignFault files asked.top fault ⊎ IsSearchReason files asked limits fault

-- so many may work on one book
abbrev pub AreWorkers : ℕ → Type 0
AreWorkers workers = (1 ≤ workers) × (workers ≤ 64)

-- the same where several workers are asked for: or their number is out of its limit
abbrev pub IsSharedReason : List (List ℕ) → Request → Limits → ℕ → Fault → Type 0
IsSharedReason files asked limits workers fault =
    (¬ AreWorkers workers × (fault ≡ OutOfLimit)) ⊎ (AreWorkers workers × IsExploreReason files asked limits fault)

-- a front of a report stands written
pub record IsBegunReport (files : List (List ℕ)) (asked : Request) (limits : Limits) (old new : Option (List ℕ)) : Type 0 where
  pub searched : Searched files asked
  pub report : Report
  pub dumps : List (List ℕ)
  pub is_report : IsReported (setting_for files asked searched) limits report dumps
  pub len : ℕ
  pub front : Appends old new (take len (report_text report dumps))

-- what a refusal leaves: the writer as it was, or a front of a report in it, where memory or the writer failed as it went out
abbrev pub LeavesReport : {W : Type 0} → (W → Option (List ℕ)) → List (List ℕ) → Request → Limits → Fault → Metered W → Metered W → Type 0
LeavesReport contents files asked limits fault old new =
    (new ≡ old) ⊎ (IsOfWriting fault × IsBegunReport files asked limits (contents old.inner) (contents new.inner))

-- ---- two explorations of the same files

-- they ask for the same top, time limit, grain and departures, and to look at the same
pub record AskAlike (one other : Request) : Type 0 where
  pub top_is : one.top ≡ other.top
  pub until_is : one.until ≡ other.until
  pub grain_is : one.grain ≡ other.grain
  pub departures_are : one.departures ≡ other.departures
  pub looked_is : one.looked ≡ other.looked

-- the report is of an exploration of the files, as `Explores` has it
pub record IsReportOf (files : List (List ℕ)) (asked : Request) (limits : Limits) (report : Report) : Type 0 where
  pub searched : Searched files asked
  pub exploration : IsExploration (setting_for files asked searched) limits report

-- two such reports, under as many departures, that both say exhausted list the same ends and the same races
abbrev pub ExploredFilesAgree : Type 0
ExploredFilesAgree = (files : List (List ℕ)) (asked again : Request) (limits others : Limits) (one other : Report) →
    AskAlike asked again → limits.depart ≡ others.depart →
    IsReportOf files asked limits one → IsReportOf files again others other →
    one.outcome ≡ Exhausted → other.outcome ≡ Exhausted → Agree one other

-- they ask for the same, but that departures only take in the one and may hold back in the other
pub record AskToHold (one other : Request) : Type 0 where
  pub top_is : one.top ≡ other.top
  pub until_is : one.until ≡ other.until
  pub grain_is : one.grain ≡ other.grain
  pub looked_is : one.looked ≡ other.looked
  pub takes : one.departures ≡ Taking
  pub holds : other.departures ≡ Holding

-- an exhausted report of the other lists each end, race and value of the one
abbrev pub HoldingFilesListAll : Type 0
HoldingFilesListAll = (files : List (List ℕ)) (asked again : Request) (limits others : Limits) (one other : Report) →
    AskToHold asked again → limits.depart ≡ others.depart →
    IsReportOf files asked limits one → IsReportOf files again others other → other.outcome ≡ Exhausted → IsPartOf one other

-- they ask for the same, but that the other looks at values alone
pub record AskForLines (one other : Request) : Type 0 where
  pub top_is : one.top ≡ other.top
  pub until_is : one.until ≡ other.until
  pub grain_is : one.grain ≡ other.grain
  pub departures_are : one.departures ≡ other.departures
  pub values : other.looked ≡ Values

-- but for the lines, two such reports that both say exhausted list the same
abbrev pub LinesOfFilesRefine : Type 0
LinesOfFilesRefine = (files : List (List ℕ)) (asked again : Request) (limits others : Limits) (one other : Report) →
    AskForLines asked again → limits.depart ≡ others.depart →
    IsReportOf files asked limits one → IsReportOf files again others other →
    one.outcome ≡ Exhausted → other.outcome ≡ Exhausted → IsPartButForLines one other × IsPartButForLines other one
