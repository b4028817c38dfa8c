use Rattle.std.proofs.Common.{slice_get}
use Rattle.dump_match.specs.Known.{has_column}
use Rattle.dump_match.proofs.KnownLemmas.{MarkedSo}
use Rattle.dump_match.proofs.known.mark_known.Given as goal

abbrev pub invariant-loop-number : goal.invariant-loop-number
invariant-loop-number g l = MarkedSo l.fn.known.items l.known.items (λ k. has_column l.slots.columns.told.items (slice_get l.pairs k)) l.number
