use Rattle.std.proofs.Common.{◌≡◌, ◌++◌}
use Rattle.explore.specs.Ranked.{pairs_of}
use Rattle.explore.proofs.rank_marks.found_marks.Given as goal

abbrev pub invariant-loop-state : goal.invariant-loop-state
invariant-loop-state g l = pairs_of l.found.items ++ l.state-iterator ≡ l.fn.marks.entries
