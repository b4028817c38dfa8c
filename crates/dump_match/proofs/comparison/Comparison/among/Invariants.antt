use Rattle.std.proofs.Common.{◌≡◌, length}
use Rattle.vcd_slots.specs.Following.{IsFresh, IsSound}
use Rattle.dump_match.specs.Named.{AreComparedBelow, AreMet, AreNamedSo}
use Rattle.dump_match.proofs.comparison.Comparison.among.Given as goal

abbrev pub invariant-loop-told : goal.invariant-loop-told
invariant-loop-told l = record {
  sound : IsSound l.columns;
  fresh : IsFresh l.columns;
  named : AreNamedSo l.wrapped l.variables l.declared l.columns.watched.items l.comparison.pairs.items;
  len : length l.met.items ≡ length l.variables;
  met : AreMet l.wrapped l.variables l.met.items l.comparison.pairs.items;
  all : AreComparedBelow l.wrapped l.variables l.declared l.told-index l.comparison.pairs.items;
}
