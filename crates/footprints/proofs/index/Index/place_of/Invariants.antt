use Rattle.std.proofs.Common.{◌≡◌, ℕ, ◌≤◌, false, Some, slice_get}
use Rattle.footprints.specs.declared.visit.Visit.{Visit}
use Rattle.footprints.specs.Visits.{same_visit}
use Rattle.footprints.proofs.index.Index.place_of.Given as goal

abbrev pub invariant-loop-left : goal.invariant-loop-left
invariant-loop-left l = (j : ℕ) (w : Visit) → l.left ≤ j → slice_get l.self j ≡ Some w → same_visit l.visit w ≡ false

abbrev pub decreases-loop-left : goal.decreases-loop-left
decreases-loop-left l = l.left
