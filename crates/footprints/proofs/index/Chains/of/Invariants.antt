use Rattle.footprints.specs.Chains.{AreChains}
use Rattle.footprints.proofs.index.Chains.of.Given as goal

abbrev pub invariant-loop-visit : goal.invariant-loop-visit
invariant-loop-visit l = AreChains l.visits l.visit-index l.found.last.items l.found.before.items
