use Rattle.std.proofs.Common.{◌≡◌, ℕ, ◌++◌, length, map, slice_get, Some}
use Rattle.vbits.specs.declared.bit4.Bit4.TheVariants.{X}
use Rattle.vbits.specs.Vectors.{filled}
use Rattle.racebook.specs.Inner.{IsBestAt, key_of, rows_of, row_of_entry}
use Rattle.racebook.proofs.values.list_of.Given as goal

abbrev pub invariant-loop-key : goal.invariant-loop-key
invariant-loop-key l = record {
  list : l.values.items ++ map (row_of_entry (filled 1 X) (rows_of l.variable l.slot)) l._key-iterator ≡ map (row_of_entry (filled 1 X) (rows_of l.variable l.slot)) l.best.entries;
  left : (i : ℕ) (e : (ℕ × ℕ) × ℕ) → slice_get l._key-iterator i ≡ Some e → IsBestAt key_of (rows_of l.variable l.slot) (length (rows_of l.variable l.slot)) e.0 e.1;
}
