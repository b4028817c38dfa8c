use Rattle.std.proofs.Common.{◌≡◌, ◌+◌, ◌≤◌, drop}
use Rattle.dump_match.specs.Comparison.{differing_in}
use Rattle.dump_match.proofs.reference.count_differing.Given as goal

-- those counted and those to come are all
abbrev pub invariant-loop-pair : goal.invariant-loop-pair
invariant-loop-pair g l =
    (l.count + differing_in l.slots.columns.told.items l.values (drop l.pair-index l.pairs) ≡ differing_in l.slots.columns.told.items l.values l.pairs)
    × (l.count ≤ l.pair-index)
