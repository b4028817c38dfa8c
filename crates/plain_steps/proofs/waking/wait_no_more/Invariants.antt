use Rattle.std.proofs.Common.{◌≡◌}
use Rattle.plain_steps.specs.InnerNews.{comes}
use Rattle.plain_steps.proofs.NewsLemmas.{awake_to}
use Rattle.plain_steps.proofs.waking.wait_no_more.Given as goal

abbrev pub invariant-loop-process : goal.invariant-loop-process
invariant-loop-process l = l.process-items ≡ awake_to (comes l.actions l.news) l.process-index l.initial.process-items
