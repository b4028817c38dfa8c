use Rattle.std.proofs.Common.{length}
use Rattle.std.specs.List.{All}
use Rattle.report_check.specs.Claims.{IsTrueAt}
use Rattle.report_check.proofs.shown.shown_places.Given as goal

abbrev pub invariant-groups : goal.invariant-groups
invariant-groups l = All (IsTrueAt l.machine l.report) l.shown.items

abbrev pub decreases-groups : goal.decreases-groups
decreases-groups l = length l.rest
