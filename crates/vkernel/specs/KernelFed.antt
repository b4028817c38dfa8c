-- *internal*: What the hash of a kernel is fed (laws with their proofs): what the queue is, and one number made of the sum of the shares of its
-- values, and of what is held back and printed where that is kept. Equal kernels have the same; no more is asked of it.
use Rattle.std.specs.Prelude.{◌≡◌, ℕ, true, ◌++◌}
use Rattle.std.specs.Hash as fed
use Rattle.std.proofs.Common.{ap}
use Rattle.vmodel.specs.Digest.{digest_of_held, digest_of_printed}
use Rattle.vmodel.specs.Same.{state_same}
use Rattle.vmodel.specs.SameLaws.{states_tell}
use Rattle.vmodel.specs.State.{State}
use Rattle.vstrata.specs.Digests.{queue_digest}
use Rattle.vkernel.specs.Sums.{values_sum}

-- all but the queue
abbrev pub views_digest : State → ℕ
views_digest s = digest_of_printed (digest_of_held (values_sum s.values) s.held_back) s.printed

abbrev pub kernel_fed : State → fed.HashWrites
kernel_fed s = fed.u64 (queue_digest s.queue) ++ fed.u64 (views_digest s)

pub kernels_fed_alike : (s t : State) → state_same s t ≡ true → kernel_fed s ≡ kernel_fed t
kernels_fed_alike s t h = ap kernel_fed ((states_tell s t).0 h)
