use Rattle.std.proofs.Common.{◌≡◌, drop}
use Rattle.vcompile.specs.Whole.{lead_on}
use Rattle.vcompile.proofs.whole.lead_on.Given as goal

abbrev pub invariant-loop-link : goal.invariant-loop-link
invariant-loop-link l =
    (l.place ≡ l.link-index)
    × (lead_on l.links l.place (drop l.link-index l.links) ≡ lead_on l.links 0 l.links)
