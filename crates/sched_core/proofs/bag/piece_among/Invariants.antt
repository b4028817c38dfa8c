use Rattle.std.proofs.Common.{◌≡◌, ◌++◌, drop}
use Rattle.sched_core.specs.Bags.{piece_of}
use Rattle.sched_core.proofs.bag.piece_among.Given as goal

abbrev pub invariant-loop-line : goal.invariant-loop-line
invariant-loop-line l = l.piece.items ++ piece_of (drop l.line-index l.lines) ≡ piece_of l.lines
