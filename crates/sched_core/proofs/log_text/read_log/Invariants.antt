use Rattle.std.proofs.Common.{length}
use Rattle.sched_core.proofs.ReadingLemmas.{HasRead}
use Rattle.sched_core.proofs.log_text.read_log.Given as goal

abbrev pub invariant-loop-member : goal.invariant-loop-member
invariant-loop-member l = HasRead l.fn.text l.log l.rest

abbrev pub decreases-loop-member : goal.decreases-loop-member
decreases-loop-member l = length l.rest
