use Rattle.std.proofs.Common.{◌≡◌, ◌++◌, drop}
use Rattle.vcompile.specs.Links.{begins_by}
use Rattle.vcompile.proofs.links.begins_of.Given as goal

abbrev pub invariant-loop-places : goal.invariant-loop-places
invariant-loop-places l = l.begins.items ++ begins_by (drop l.places-index l.processes) ≡ begins_by l.processes
