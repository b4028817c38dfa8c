use Rattle.std.proofs.Common.{◌≡◌, drop}
use Rattle.vmodel.specs.Digest.{digest_of_values}
use Rattle.plain_steps.proofs.digest.mix_values.Given as goal

abbrev pub invariant-loop-value : goal.invariant-loop-value
invariant-loop-value l = digest_of_values l.digest (drop l.value-index l.values) ≡ digest_of_values l.first l.values
