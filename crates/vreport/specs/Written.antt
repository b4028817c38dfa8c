-- *product rule*: The text of a report on its way to what takes texts. Only `AreDumps` and what it names has to be believed.
use Rattle.std.specs.Prelude.{◌≡◌, ℕ, List, [], ◌∷◌, ◌++◌, length, Option, IfSome}
use Rattle.basis.specs.declared.memory.OrMemory.{OrMemory}
use Rattle.vmodel.specs.Run.{Setting}
use Rattle.byte_sinks.specs.ByteSinks.{Stopped}
use Rattle.report_text.specs.Report.{End, Report}
use Rattle.report_text.specs.ReportText.{end_text, ends_text, report_text}
use Rattle.report_text.specs.WellFormed.{IsReportText}
use Rattle.vreport.specs.Dumps.{IsRunDump}

-- the dump of the end's run; it has as many bytes as the end tells
pub record IsDumpOf (setting : Setting) (steps : ℕ) (end : End) (dump : List ℕ) : Type 0 where
  pub is_dump : IsRunDump setting end.log steps dump
  pub bytes_are : end.bytes ≡ length dump

abbrev pub AreDumps : Setting → ℕ → List End → List (List ℕ) → Type 0
AreDumps setting steps [] [] = Unit {0}
AreDumps setting steps [] (dump ∷ dumps) = ⊥
AreDumps setting steps (end ∷ ends) [] = ⊥
AreDumps setting steps (end ∷ ends) (dump ∷ dumps) = IsDumpOf setting steps end dump × AreDumps setting steps ends dumps

-- where its dump is held, it is that
abbrev pub IsHeld : Setting → ℕ → End → Option (List ℕ) → Type 0
IsHeld setting steps end held = IfSome held (IsDumpOf setting steps end)

-- so it is at each end
abbrev pub AreHeld : Setting → ℕ → List End → List (Option (List ℕ)) → Type 0
AreHeld setting steps [] [] = Unit {0}
AreHeld setting steps [] (one ∷ held) = ⊥
AreHeld setting steps (end ∷ ends) [] = ⊥
AreHeld setting steps (end ∷ ends) (one ∷ held) = IsHeld setting steps end one × AreHeld setting steps ends held

-- ---- one end, and all

abbrev pub TakesEnd : {O : Type 0} → (O → List ℕ → O → Type 0) → Setting → ℕ → End → O → O → Type 0
TakesEnd takes setting steps end old new = (dump : List ℕ) → IsDumpOf setting steps end dump → takes old (end_text end ++ dump) new

abbrev pub StopsEnd : {O F : Type 0} → (O → List ℕ → O → Type 0) → (O → List ℕ → F → O → Type 0) → Setting → ℕ → End → O → OrMemory F → O → Type 0
StopsEnd takes fails setting steps end old fault new = (dump : List ℕ) → IsDumpOf setting steps end dump → Stopped takes fails old (end_text end ++ dump) fault new

abbrev pub TakesEnds : {O : Type 0} → (O → List ℕ → O → Type 0) → Setting → ℕ → List End → O → O → Type 0
TakesEnds takes setting steps ends old new = (dumps : List (List ℕ)) → AreDumps setting steps ends dumps → takes old (ends_text ends dumps) new

abbrev pub StopsEnds : {O F : Type 0} → (O → List ℕ → O → Type 0) → (O → List ℕ → F → O → Type 0) → Setting → ℕ → List End → O → OrMemory F → O → Type 0
StopsEnds takes fails setting steps ends old fault new = (dumps : List (List ℕ)) → AreDumps setting steps ends dumps → Stopped takes fails old (ends_text ends dumps) fault new

-- ---- the report

-- its text was taken, with the dump of each end
pub record TakesReport {O : Type 0} (takes : O → List ℕ → O → Type 0) (setting : Setting) (report : Report) (old new : O) : Type 0 where
  pub dumps : List (List ℕ)
  pub are_dumps : AreDumps setting report.steps report.ends dumps
  pub taken : takes old (report_text report dumps) new

-- the fault came somewhere in it
pub record StopsReport {O F : Type 0} (takes : O → List ℕ → O → Type 0) (fails : O → List ℕ → F → O → Type 0) (setting : Setting) (report : Report) (old : O) (fault : OrMemory F) (new : O) : Type 0 where
  pub dumps : List (List ℕ)
  pub are_dumps : AreDumps setting report.steps report.ends dumps
  pub stopped : Stopped takes fails old (report_text report dumps) fault new

-- ---- written and read

-- what was taken is the text of this report with the dumps of its runs, and such a text is read as these (`read_report`, [accepts])
pub record TakesReadable {O : Type 0} (takes : O → List ℕ → O → Type 0) (setting : Setting) (report : Report) (old new : O) : Type 0 where
  pub text : List ℕ
  pub dumps : List (List ℕ)
  pub are_dumps : AreDumps setting report.steps report.ends dumps
  pub is_read : IsReportText text (report, dumps)
  pub taken : takes old text new

-- each text that is read as this report with the dumps of its runs was taken, byte for byte
abbrev pub TakesWhatWasRead : {O : Type 0} → (O → List ℕ → O → Type 0) → Setting → Report → O → O → Type 0
TakesWhatWasRead takes setting report old new =
    (text : List ℕ) (dumps : List (List ℕ)) → IsReportText text (report, dumps) → AreDumps setting report.steps report.ends dumps → takes old text new
