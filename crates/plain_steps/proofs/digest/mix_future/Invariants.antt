use Rattle.std.proofs.Common.{◌≡◌, drop}
use Rattle.vmodel.specs.Digest.{digest_of_future}
use Rattle.plain_steps.proofs.digest.mix_future.Given as goal

abbrev pub invariant-loop-entry : goal.invariant-loop-entry
invariant-loop-entry l = digest_of_future l.digest (drop l.entry-index l.future) ≡ digest_of_future l.first l.future
