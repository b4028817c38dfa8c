use Rattle.std.proofs.Common.{◌≡◌, drop}
use Rattle.vmodel.specs.Waking.{with_awake}
use Rattle.plain_steps.specs.InnerNews.{comes}
use Rattle.plain_steps.proofs.waking.with_awake.Given as goal

abbrev pub invariant-loop-process : goal.invariant-loop-process
invariant-loop-process l =
    (l.number ≡ l.process-index)
    × (with_awake (comes l.actions l.news) l.number (drop l.process-index l.processes) l.active
    ≡ with_awake (comes l.actions l.news) 0 l.processes l.initial.active)
