use Rattle.std.proofs.Common.{◌≡◌, length}
use Rattle.vcompile.specs.Whole.{is_chain}
use Rattle.vcompile.proofs.whole.is_chain.Given as goal

abbrev pub invariant-loop-place : goal.invariant-loop-place
invariant-loop-place l = is_chain l.links l.owner l.rest l.end ≡ is_chain l.links l.owner l.initial.rest l.end

abbrev pub decreases-loop-place : goal.decreases-loop-place
decreases-loop-place l = length l.rest
