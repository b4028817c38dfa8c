use Rattle.std.proofs.Common.{◌≡◌, ◌++◌, drop}
use Rattle.footprints.proofs.visit.copy_posted.Given as goal

abbrev pub invariant-loop-post : goal.invariant-loop-post
invariant-loop-post l = l.copied.items ++ drop l.post-index l.posted ≡ l.posted
