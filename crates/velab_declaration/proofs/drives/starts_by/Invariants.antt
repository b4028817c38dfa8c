use Rattle.std.proofs.Common.{◌≡◌, ◌++◌, List, drop}
use Rattle.velab_declaration.specs.Drives.{Place}
use Rattle.velab_declaration.specs.DriveMarks.{AreMarks, starts_from}
use Rattle.velab_declaration.proofs.drives.starts_by.Given as goal

abbrev pub invariant-loop-place : goal.invariant-loop-place
invariant-loop-place l =
    (driven : List Place) → AreMarks driven l.variables l.marks →
    l.starts.items ++ starts_from driven l.place (drop l.place l.variables) ≡ starts_from driven 0 l.variables
