use Rattle.std.specs.List.{All}
use Rattle.report_check.specs.Claims.{IsTrueAt}
use Rattle.report_check.proofs.shown.note_all_shown.Given as goal

abbrev pub invariant-loop-at : goal.invariant-loop-at
invariant-loop-at l = All (IsTrueAt l.machine l.report) l.shown.items
