use Rattle.std.proofs.Common.{◌≡◌, List, drop}
use Rattle.vdesign.specs.Design.{Variable}
use Rattle.velab_declaration.specs.ActionFlaws.{blank_environment}
use Rattle.velab_declaration.specs.Drives.{Place}
use Rattle.velab_declaration.specs.DriveMarks.{AreMarks}
use Rattle.velab_declaration.proofs.DriveLemmas.{Seeks}
use Rattle.velab_declaration.proofs.drives.first_again.Given as goal

abbrev pub invariant-loop-place : goal.invariant-loop-place
invariant-loop-place l =
    (driven : List Place) (variables : List Variable) → l.environment ≡ blank_environment variables → AreMarks driven variables l.fn.marks →
    Seeks driven l.environment variables l.actions (drop l.place l.actions) l.words (drop l.place l.words) l.marks
