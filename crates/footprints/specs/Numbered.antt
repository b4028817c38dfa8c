-- *internal*: Visits whose numbers are right, as the program keeps them.
use Rattle.std.specs.Prelude.{◌≡◌, ℕ, List, take, Some, slice_get}
use Rattle.footprints.specs.declared.visit.Visit.{Visit}
use Rattle.footprints.specs.Visits.{visits_by}

-- each visit has as its number how many visits of its actor came before it
abbrev pub AreNumbered : List Visit → Type 0
AreNumbered visits = (k : ℕ) (v : Visit) → slice_get visits k ≡ Some v → v.number ≡ visits_by v.actor (take k visits)
