use Rattle.sched_core.proofs.OneLemmas.{one_named_text}
use Rattle.sched_core.proofs.law.log_text_law.Goals as goal

pub returns : goal.returns
returns c = record { one = one_named_text }
