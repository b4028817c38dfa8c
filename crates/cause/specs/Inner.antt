-- *internal*: Words for the contracts of parts within.
use Rattle.std.specs.Prelude.{List, ◌++◌}
use Rattle.footprints.specs.declared.visit.Visit.{Visit}
use Rattle.cause.specs.declared.slot.Slot.{Slot}

-- the visits of a whole slot
abbrev pub whole : Slot → List Visit
whole slot = slot.earlier.items ++ slot.visits.items
