use Rattle.std.proofs.Common.{◌≡◌, ◌++◌, [], drop}
use Rattle.velab_declaration.specs.DriveMarks.{marks_from}
use Rattle.velab_declaration.proofs.drives.no_marks.Given as goal

abbrev pub invariant-loop-variable : goal.invariant-loop-variable
invariant-loop-variable l = l.marks.items ++ marks_from [] l.variable-index (drop l.variable-index l.variables) ≡ marks_from [] 0 l.variables
