use Rattle.std.proofs.Common.{◌≤◌, ◌+◌, ◌*◌, ◌-◌, [], length, drop}
use Rattle.vsrc.specs.Macros.{make_use}
use Rattle.vsrc.specs.Pieces.{AreUses, macros_of, names_of, of_text}
use Rattle.vsrc.proofs.MacroText.{Gives}
use Rattle.vsrc.proofs.macros.+uses.Given as goal

abbrev pub decreases-put_macro : goal.decreases-put_macro
decreases-put_macro l = 2 * l.levels

abbrev pub decreases-put_piece : goal.decreases-put_piece
decreases-put_piece l = 2 * l.levels + 1

-- the uses that are left are those in what is left of the text, which gives what the use makes
abbrev pub invariant-put_macro-loop-from : goal.invariant-put_macro-loop-from
invariant-put_macro-loop-from l = record {
  within : l.from ≤ length l.text;
  left : AreUses (names_of l.texts.entries) (drop l.from l.text) (drop l.next l.uses) [];
  gives : Gives (make_use (l.levels - 1) (macros_of l.texts.entries) l.at) l.at l.text l.from l.made (of_text l.levels (macros_of l.texts.entries) l.at l.text l.fn.made);
}

abbrev pub decreases-put_macro-loop-from : goal.decreases-put_macro-loop-from
decreases-put_macro-loop-from l = length l.text - l.from
