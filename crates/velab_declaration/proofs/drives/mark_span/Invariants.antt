use Rattle.std.proofs.Common.{◌<◌, ℕ, ◌+◌, ◌-◌, List}
use Rattle.vdesign.specs.Design.{Variable}
use Rattle.velab_declaration.specs.Drives.{Place, places_from}
use Rattle.velab_declaration.specs.DriveMarks.{AreMarks, size_in}
use Rattle.velab_declaration.proofs.DriveLemmas.{Going}
use Rattle.velab_declaration.proofs.drives.mark_span.Given as goal

abbrev pub invariant-loop-k : goal.invariant-loop-k
invariant-loop-k l =
    (driven : List Place) (variables : List Variable) →
    ((k : ℕ) → k < l.span.count → l.span.low + k < size_in variables l.variable) → AreMarks driven variables l.fn.marks →
    Going driven (places_from l.variable l.span.low l.span.count) (places_from l.variable (l.span.low + l.k) (l.span.count - l.k)) variables l.marks
