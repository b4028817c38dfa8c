use Rattle.std.proofs.Common.{◌≡◌, drop}
use Rattle.vmodel.specs.Digest.{digest_of_lines}
use Rattle.plain_steps.proofs.digest.mix_lines.Given as goal

abbrev pub invariant-loop-line : goal.invariant-loop-line
invariant-loop-line l = digest_of_lines l.digest (drop l.line-index l.lines) ≡ digest_of_lines l.initial.digest l.lines
