use Rattle.std.proofs.Common.{◌≡◌, ◌++◌, drop}
use Rattle.footprints.specs.Footprints.{changed_by}
use Rattle.footprints.proofs.footprint.put_changed.Given as goal

abbrev pub invariant-loop-part : goal.invariant-loop-part
invariant-loop-part l = l.things.items ++ changed_by l.before l.after (drop l.part-index l.parts) ≡ l.initial.things.items ++ changed_by l.before l.after l.parts
