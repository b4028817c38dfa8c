use Rattle.std.proofs.Common.{◌≡◌, ◌++◌, drop}
use Rattle.sched_core.specs.Bags.{lines_of, with_each}
use Rattle.sched_core.specs.Inner.Bags.{HasNoFeed}
use Rattle.sched_core.proofs.bag.Bag.insert_lines.Given as goal

abbrev pub invariant-loop-byte : goal.invariant-loop-byte
invariant-loop-byte l =
    HasNoFeed l.line.items × (with_each (lines_of (l.line.items ++ drop l.byte-index l.text)) l.self ≡ with_each (lines_of l.text) l.initial.self)
