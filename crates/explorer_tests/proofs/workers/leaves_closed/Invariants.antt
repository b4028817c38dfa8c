use Rattle.std.proofs.Common.{Some}
use Rattle.explorer_tests.proofs.workers.leaves_closed.Given as goal

abbrev pub ghosts-named_left_closed : goal.ghosts-named_left_closed
ghosts-named_left_closed g a = record { rules = Some (g.P.Space.rules a.space.now); depart = a.limits.now.depart; steps = a.limits.now.steps }
