use Rattle.std.proofs.Common.{◌≡◌, ◌++◌, drop}
use Rattle.dump_match.specs.Comparison.{all_told_apart}
use Rattle.dump_match.proofs.reference.all_differing.Given as goal

-- those told and those to come are all
abbrev pub invariant-loop-one : goal.invariant-loop-one
invariant-loop-one g l =
    l.list.items ++ all_told_apart l.slots.columns.told.items l.values (drop l.one-index l.pairs) ≡ all_told_apart l.slots.columns.told.items l.values l.pairs
