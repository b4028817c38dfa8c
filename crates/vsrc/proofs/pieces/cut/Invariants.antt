use Rattle.std.proofs.Common.{◌≤◌, ◌-◌, length, drop}
use Rattle.vsrc.specs.Pieces.{AreUses, Keeps, names_of}
use Rattle.vsrc.proofs.pieces.cut.Given as goal

-- these are the uses in the text before what is left of it
abbrev pub invariant-loop-from : goal.invariant-loop-from
invariant-loop-from l = record {
  within : l.from ≤ length l.text;
  keeps : Keeps l.fn.texts.entries l.texts.entries;
  are : AreUses (names_of l.texts.entries) l.text l.uses.items (drop l.from l.text);
}

abbrev pub decreases-loop-from : goal.decreases-loop-from
decreases-loop-from l = length l.text - l.from
