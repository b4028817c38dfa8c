use Rattle.std.proofs.Common.{◌≡◌}
use Rattle.std.specs.VecDeque.Iter.{deque_iter_rest}
use Rattle.vmodel.specs.Digest.{digest_of_future}
use Rattle.vstrata.proofs.digest.mix_future.Given as goal

abbrev pub invariant-loop-entry : goal.invariant-loop-entry
invariant-loop-entry l = digest_of_future l.digest (deque_iter_rest l.entry-iterator) ≡ digest_of_future l.first l.entries.items
