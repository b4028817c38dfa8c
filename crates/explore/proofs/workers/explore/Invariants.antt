use Rattle.std.proofs.Common.{Some}
use Rattle.explore.proofs.workers.explore.Given as goal

abbrev pub ghosts-over : goal.ghosts-over
ghosts-over g a = record { rules = Some (g.P.Space.rules a.space.now); depart = a.limits.now.depart; steps = a.limits.now.steps }
