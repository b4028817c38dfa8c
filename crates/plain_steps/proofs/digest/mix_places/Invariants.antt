use Rattle.std.proofs.Common.{◌≡◌, drop}
use Rattle.vmodel.specs.Digest.{digest_of_numbers}
use Rattle.plain_steps.proofs.digest.mix_places.Given as goal

abbrev pub invariant-loop-place : goal.invariant-loop-place
invariant-loop-place l = digest_of_numbers l.digest (drop l.place-index l.places) ≡ digest_of_numbers l.first l.places
