use Rattle.std.proofs.Common.{◌≡◌, drop}
use Rattle.vmodel.specs.Digest.{digest_of_parts}
use Rattle.plain_steps.proofs.digest.mix_list.Given as goal

abbrev pub invariant-loop-part : goal.invariant-loop-part
invariant-loop-part l = digest_of_parts l.digest (drop l.part-index l.parts) ≡ digest_of_parts l.first l.parts
