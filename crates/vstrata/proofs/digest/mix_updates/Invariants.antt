use Rattle.std.proofs.Common.{◌≡◌}
use Rattle.std.specs.VecDeque.Iter.{deque_iter_rest}
use Rattle.vmodel.specs.Digest.{digest_of_updates}
use Rattle.vstrata.proofs.digest.mix_updates.Given as goal

abbrev pub invariant-loop-parts : goal.invariant-loop-parts
invariant-loop-parts l = digest_of_updates l.digest (deque_iter_rest l.parts-iterator) ≡ digest_of_updates l.first l.updates.items
