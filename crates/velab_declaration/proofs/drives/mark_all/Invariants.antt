use Rattle.std.proofs.Common.{◌≡◌, List, drop}
use Rattle.vdesign.specs.Design.{Variable}
use Rattle.velab_declaration.specs.ActionFlaws.{blank_environment}
use Rattle.velab_declaration.specs.Drives.{Place, places_of_all}
use Rattle.velab_declaration.specs.DriveMarks.{AreMarks}
use Rattle.velab_declaration.proofs.DriveLemmas.{Going}
use Rattle.velab_declaration.proofs.drives.mark_all.Given as goal

abbrev pub invariant-loop-target : goal.invariant-loop-target
invariant-loop-target l =
    (driven : List Place) (variables : List Variable) → l.environment ≡ blank_environment variables → AreMarks driven variables l.fn.marks →
    Going driven (places_of_all l.environment l.targets) (places_of_all l.environment (drop l.target-index l.targets)) variables l.marks
