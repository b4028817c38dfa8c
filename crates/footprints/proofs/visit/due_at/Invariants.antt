use Rattle.std.proofs.Common.{◌≡◌, slice_get, drop}
use Rattle.footprints.specs.Visits.{due_at}
use Rattle.footprints.proofs.visit.due_at.Given as goal

abbrev pub invariant-loop-post : goal.invariant-loop-post
invariant-loop-post l = slice_get (due_at l.time (drop l.post-index l.posted)) l.left ≡ slice_get (due_at l.time l.posted) l.others
