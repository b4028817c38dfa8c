use Rattle.std.proofs.Common.{◌-◌, length, refl}
use Rattle.sched_core.proofs.CutLemmas.{ended_by}
use Rattle.sched_core.proofs.bag.is_ended.Goals as goal

pub returns-in-Some : goal.returns-in-Some
returns-in-Some c = ended_by c.args.line.now (length c.args.line.now - 1) c.in-Some.byte.now refl c.in-Some.ensures.value
