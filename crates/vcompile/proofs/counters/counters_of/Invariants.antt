use Rattle.std.proofs.Common.{◌≡◌, ◌≤◌, ◌++◌, drop}
use Rattle.vcompile.specs.Links.{counters_from}
use Rattle.vcompile.proofs.counters.counters_of.Given as goal

abbrev pub invariant-loop-action : goal.invariant-loop-action
invariant-loop-action l =
    (l.number ≤ l.action-index)
    × (l.counters.items ++ counters_from l.number (drop l.action-index l.actions) ≡ counters_from 0 l.actions)
