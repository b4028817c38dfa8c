use Rattle.std.proofs.Common.{◌≡◌, ℕ, [], ◌++◌, length, map, slice_get, Some}
use Rattle.racebook.specs.LineRaces.{Texts}
use Rattle.racebook.specs.Inner.{IsBestAt, row_of_entry, rows_of_lines, themselves}
use Rattle.racebook.proofs.lines.list_of.Given as goal

abbrev pub invariant-loop-lines : goal.invariant-loop-lines
invariant-loop-lines l = record {
  list : l.sides.items ++ map (row_of_entry [] (rows_of_lines l.slot)) l.lines-iterator ≡ map (row_of_entry [] (rows_of_lines l.slot)) l.fn.best.entries;
  left : (i : ℕ) (e : Texts × ℕ) → slice_get l.lines-iterator i ≡ Some e → IsBestAt themselves (rows_of_lines l.slot) (length (rows_of_lines l.slot)) e.0 e.1;
}
