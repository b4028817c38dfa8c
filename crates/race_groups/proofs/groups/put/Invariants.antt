use Rattle.std.proofs.Common.{◌≡◌, true, false, Some}
use Rattle.race_groups.specs.Found.{logs_of, name_of}
use Rattle.race_groups.specs.Inner.{Adds, AreDefault, Counts, CountsStill, ExplainsOne, group_heads, tracing_of}
use Rattle.race_groups.proofs.groups.put.Given as goal

abbrev pub invariant-loop-side : goal.invariant-loop-side
invariant-loop-side g l = (tracing_of l.causes ≡ tracing_of l.fn.causes)
    × Adds (tracing_of l.fn.causes) (λ d. d ≡ g.R.SlotRace.difference l.race) (group_heads l.fn.groups.items) (group_heads l.groups.items)
    × CountsStill l.names l.fn.groups.items l.groups.items
    × (l.counted ≡ true → Counts l.names (λ n. name_of (g.R.SlotRace.difference l.race) ≡ Some n)
    (ExplainsOne (tracing_of l.fn.causes) (λ d. d ≡ g.R.SlotRace.difference l.race)) l.fn.groups.items l.groups.items)
    × (l.counted ≡ false → AreDefault (logs_of (g.R.SlotRace.difference l.race)) l.side)
    × (l.counted ≡ false → l.groups.items ≡ l.fn.groups.items)
