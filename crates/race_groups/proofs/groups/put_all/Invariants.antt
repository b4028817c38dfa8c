use Rattle.std.proofs.Common.{◌≡◌, map}
use Rattle.std.specs.List.{Contains}
use Rattle.race_groups.specs.Inner.{Adds, AreNamedApart, Counts, CountsStill, ExplainsOne, IsNamedIn, group_heads, tracing_of}
use Rattle.race_groups.proofs.groups.put_all.Given as goal

abbrev pub invariant-loop-race : goal.invariant-loop-race
invariant-loop-race g l = (tracing_of l.causes ≡ tracing_of l.fn.causes)
    × Adds (tracing_of l.fn.causes) (Contains (map g.R.SlotRace.difference l.races)) (group_heads l.fn.groups.items) (group_heads l.groups.items)
    × (AreNamedApart g.R.SlotRace.difference l.races →
    Counts l.names (IsNamedIn g.R.SlotRace.difference l.races l.race-index)
    (ExplainsOne (tracing_of l.fn.causes) (Contains (map g.R.SlotRace.difference l.races))) l.fn.groups.items l.groups.items)
    × CountsStill l.names l.fn.groups.items l.groups.items
