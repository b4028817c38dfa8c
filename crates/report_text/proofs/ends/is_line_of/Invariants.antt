use Rattle.std.proofs.Common.{drop}
use Rattle.report_text.specs.WellFormed.{IsLineOf}
use Rattle.report_text.specs.Inner.Ends.{IsMore}
use Rattle.report_text.proofs.ends.is_line_of.Given as goal

abbrev pub invariant-loop-column : goal.invariant-loop-column
invariant-loop-column l = record {
  there : IsLineOf l.fn.columns l.fn.line → IsMore (drop l.column-index l.more) l.rest;
  back : IsMore (drop l.column-index l.more) l.rest → IsLineOf l.fn.columns l.fn.line;
}
