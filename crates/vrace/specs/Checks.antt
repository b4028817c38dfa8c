-- *product rule*: When the text of a report is true of files; how much its head may ask for; and when a check is refused.
use Rattle.std.specs.Prelude.{◌≡◌, ℕ, ◌<◌, ◌≤◌, ◌⊎◌, List, Some, map}
use Rattle.std.specs.Borrow.{Bor}
use Rattle.report_text.specs.Report.{Report}
use Rattle.report_text.specs.WellFormed.{IsNoReportText, IsReportText}
use Rattle.vreport.specs.Truth.{IsTrueReport}
use Rattle.report_check.specs.FirstBad.{IsFirstBad}
use Rattle.report_check.specs.declared.check.FirstBad.{FirstBad}
use Rattle.report_check.specs.declared.check.FirstBad.TheVariants.{Head, End, Race}
use Rattle.vmodel.specs.Run.{Setting}
use Rattle.vrace.specs.Request.{Request}
use Rattle.vrace.specs.Explores.{Searched, setting_for}
use Rattle.vrace.specs.Refusals.{IsDesignFault}
use Rattle.vrace.specs.declared.fault.Fault.{Fault}
use Rattle.vrace.specs.declared.fault.Fault.TheVariants.{BadReport, FalseEnd, FalseHead, FalseRace, Memory, OutOfLimit}
use Rattle.vrace.specs.declared.allowed.Allowed.{Allowed}

-- what the head of a report asks for
abbrev pub asked_by : Report → Request
asked_by report = record {
  top = Some report.top;
  until = report.until;
  steps = report.steps;
  grain = report.grain;
  departures = report.departures;
  looked = report.looked;
}

-- the text is that of a report with its dumps, and the files have a design by its head
pub record Checked (files : List (List ℕ)) (text : List ℕ) : Type 0 where
  pub report : Report
  pub dumps : List (List ℕ)
  pub is_report_text : IsReportText text (report, dumps)
  pub searched : Searched files (asked_by report)

abbrev pub setting_by : (files : List (List ℕ)) (text : List ℕ) → Checked files text → Setting
setting_by files text checked = setting_for files (asked_by checked.report) checked.searched

-- the machine is that of the files, as the head of the report asks for it
pub record IsMachineOf (files : List (List ℕ)) (report : Report) (machine : Setting) : Type 0 where
  pub searched : Searched files (asked_by report)
  pub machine_is : machine ≡ setting_for files (asked_by report) searched

-- all that it lists is true of the files
pub record IsTrueText (files : List (List ℕ)) (text : List ℕ) : Type 0 where
  pub checked : Checked files text
  pub truth : IsTrueReport (setting_by files text checked) checked.report checked.dumps

-- ---- how much the head may ask for

-- each number is one that the head of some report has
pub record MayBeAllowed (until steps : ℕ) : Type 0 where
  pub not_too_late : until ≤ 4611686018427387903
  pub some_steps : 1 ≤ steps
  pub few_steps : steps ≤ 1000000

-- whatever a head asks for is allowed
abbrev pub all_allowed : Allowed
all_allowed = record { until = 4611686018427387903; steps = 1000000 }

-- the head asks for a later time, or for more steps of a run, than is allowed
abbrev pub AsksMore : Allowed → Report → Type 0
AsksMore allowed report = (allowed.until < report.until) ⊎ (allowed.steps < report.steps)

-- the text is that of a report whose head asks for more than is allowed
pub record AsksTooMuch (allowed : Allowed) (text : List ℕ) : Type 0 where
  pub report : Report
  pub dumps : List (List ℕ)
  pub is_report_text : IsReportText text (report, dumps)
  pub more : AsksMore allowed report

-- ---- refusals

-- this is the first item of the report that isn't true of the files
pub record IsFalseAt (files : List (List ℕ)) (text : List ℕ) (bad : FirstBad) : Type 0 where
  pub checked : Checked files text
  pub first : IsFirstBad (setting_by files text checked) checked.report checked.dumps bad

-- the number of the first item that isn't true
abbrev pub fault_by : FirstBad → Fault
fault_by Head = FalseHead
fault_by (End place) = FalseEnd place
fault_by (Race place) = FalseRace place

-- what a fault of the report says
abbrev pub IsReportReason : List (List ℕ) → List ℕ → Fault → Type 0
IsReportReason files text BadReport = IsNoReportText text
IsReportReason files text (FalseEnd place) = IsFalseAt files text (End place)
IsReportReason files text (FalseRace place) = IsFalseAt files text (Race place)
IsReportReason files text FalseHead = IsFalseAt files text Head
IsReportReason files text (Memory m) = Unit {0}
IsReportReason files text other = ⊥

-- the text is that of a report, and the files have no design by its head
pub record HasNoSetting (files : List (List ℕ)) (text : List ℕ) (fault : Fault) : Type 0 where
  pub report : Report
  pub dumps : List (List ℕ)
  pub is_report_text : IsReportText text (report, dumps)
  pub why : IsDesignFault files (Some report.top) fault

-- why a check is refused: for the report, or for the files
abbrev pub IsCheckReason : List (List ℕ) → List ℕ → Fault → Type 0
IsCheckReason files text fault = IsReportReason files text fault ⊎ HasNoSetting files text fault

-- E404 says that the head asks for more than is allowed
abbrev pub IsLimitReason : Allowed → List ℕ → Fault → Type 0
IsLimitReason allowed text OutOfLimit = AsksTooMuch allowed text
IsLimitReason allowed text other = ⊥

-- why a check that allows so much is refused
abbrev pub IsCheckReasonUnder : Allowed → List (List ℕ) → List ℕ → Fault → Type 0
IsCheckReasonUnder allowed files text fault = IsLimitReason allowed text fault ⊎ IsCheckReason files text fault

-- where the head asks for too much, no other fault comes
abbrev pub IsOfLimit : Fault → Type 0
IsOfLimit OutOfLimit = Unit {0}
IsOfLimit (Memory m) = Unit {0}
IsOfLimit other = ⊥

-- so it is of each text that tells this report with these dumps
abbrev pub OfItsText : Report → List (Bor (List ℕ)) → (List ℕ → Type 0) → Type 0
OfItsText report dumps P = (text : List ℕ) → IsReportText text (report, map (λ dump. dump.now) dumps) → P text
