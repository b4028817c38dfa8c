use Rattle.std.proofs.Common.{◌≡◌, drop}
use Rattle.vmodel.specs.Digest.{digest_of_updates}
use Rattle.plain_steps.proofs.digest.mix_slice.Given as goal

abbrev pub invariant-loop-parts : goal.invariant-loop-parts
invariant-loop-parts l = digest_of_updates l.digest (drop l.parts-index l.updates) ≡ digest_of_updates l.first l.updates
