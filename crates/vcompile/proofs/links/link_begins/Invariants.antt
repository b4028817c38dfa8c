use Rattle.std.proofs.Common.{◌≡◌, drop}
use Rattle.vcompile.specs.Links.{with_begins}
use Rattle.vcompile.proofs.links.link_begins.Given as goal

abbrev pub invariant-loop-places : goal.invariant-loop-places
invariant-loop-places l =
    (l.number ≡ l.places-index)
    × (with_begins l.number (drop l.places-index l.processes) l.links ≡ with_begins 0 l.processes l.initial.links)
