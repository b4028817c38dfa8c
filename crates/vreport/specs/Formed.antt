-- *internal*: Reports with the dumps of their ends: when such a report can be read again (docs/FORMATS.md, "Reports"), and is true.
use Rattle.std.specs.Prelude.{ℕ, List}
use Rattle.vmodel.specs.Run.{Setting}
use Rattle.report_text.specs.Report.{Report}
use Rattle.report_text.specs.WellFormed.{IsReport}
use Rattle.vreport.specs.Truth.{IsTrueReport}
use Rattle.vreport.specs.Written.{AreDumps}

-- with the dumps of its ends it is one whose text is read
abbrev pub IsFormed : Setting → Report → Type 0
IsFormed setting report = (dumps : List (List ℕ)) → AreDumps setting report.steps report.ends dumps → IsReport report dumps

-- with the dumps of its ends it is true
abbrev pub IsTrueWithDumps : Setting → Report → Type 0
IsTrueWithDumps setting report = (dumps : List (List ℕ)) → AreDumps setting report.steps report.ends dumps → IsTrueReport setting report dumps
