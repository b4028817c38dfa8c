use Rattle.std.proofs.Common.{◌≡◌, ◌++◌, drop}
use Rattle.footprints.specs.Keeping.{due_from}
use Rattle.footprints.proofs.visit.due_from.Given as goal

abbrev pub invariant-loop-post : goal.invariant-loop-post
invariant-loop-post l = l.kept.items ++ due_from l.time (drop l.post-index l.posted) ≡ due_from l.time l.posted
