use Rattle.std.proofs.Common.{◌≡◌, ◌++◌, take}
use Rattle.sched_core.specs.LogText.{more_text}
use Rattle.sched_core.proofs.log_text.append_more.Given as goal

abbrev pub invariant-loop-member : goal.invariant-loop-member
invariant-loop-member l = l.text.items ≡ l.initial.text.items ++ more_text (take l.member-index l.more)
