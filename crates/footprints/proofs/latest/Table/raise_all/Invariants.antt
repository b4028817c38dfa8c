use Rattle.std.proofs.Common.{◌≡◌, ◌⊎◌, ◌≤◌, true, drop}
use Rattle.footprints.specs.declared.thing.Thing.{Thing}
use Rattle.footprints.specs.Footprints.{is_in}
use Rattle.footprints.specs.Latest.{of_thing, IsBelow}
use Rattle.footprints.proofs.latest.Table.raise_all.Given as goal

abbrev pub invariant-loop-thing : goal.invariant-loop-thing
invariant-loop-thing l = record {
  kept : IsBelow l.initial.self l.self;
  raised : (x : Thing) → is_in x l.things ≡ true → (l.number ≤ of_thing l.self x) ⊎ (is_in x (drop l.thing-index l.things) ≡ true);
}
