use Rattle.std.proofs.Common.{◌≡◌, ◌++◌, drop, replicate}
use Rattle.vflat.specs.Flat.{counter_count}
use Rattle.vflat.proofs.turns.none_left.Given as goal

abbrev pub invariant-loop-counter : goal.invariant-loop-counter
invariant-loop-counter l =
    l.turns.items ++ replicate (counter_count (drop l.counter-index l.counters)) 0 ≡ replicate (counter_count l.counters) 0
