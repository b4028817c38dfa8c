use Rattle.std.proofs.Common.{◌≡◌, ◌++◌}
use Rattle.std.specs.Vec.Iter.{into_iter_items}
use Rattle.sched_core.specs.Bags.{whole_lines}
use Rattle.sched_core.proofs.bag.ended_lines.Given as goal

abbrev pub invariant-loop-line : goal.invariant-loop-line
invariant-loop-line l = l.ended.items ++ whole_lines (into_iter_items l.line-iterator) ≡ whole_lines l.fn.lines.items
