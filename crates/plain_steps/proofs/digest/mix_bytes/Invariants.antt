use Rattle.std.proofs.Common.{◌≡◌, drop}
use Rattle.vmodel.specs.Digest.{digest_of_list}
use Rattle.plain_steps.proofs.digest.mix_bytes.Given as goal

abbrev pub invariant-loop-byte : goal.invariant-loop-byte
invariant-loop-byte l = digest_of_list l.digest (drop l.byte-index l.bytes) ≡ digest_of_list l.initial.digest l.bytes
