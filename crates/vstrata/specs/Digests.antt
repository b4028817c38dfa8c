-- *internal*: What the hash of a queue is fed: one number made of the time, the last process and what the regions and the
-- future hold, without the grain, the limit and `beyond`. Equal queues have the same one.
use Rattle.std.specs.Prelude.{◌≡◌, ℕ, true}
use Rattle.std.specs.Hash as fed
use Rattle.std.proofs.Common.{ap}
use Rattle.vmodel.specs.Queue.{Queue}
use Rattle.vmodel.specs.Digest.{digest_with, digest_of_queue}
use Rattle.vmodel.specs.Same.{queue_same}
use Rattle.vmodel.specs.SameLaws.{queues_tell}

abbrev pub queue_digest : Queue → ℕ
queue_digest q = digest_of_queue (digest_with 0 q.time) q

pub fed_alike : (q r : Queue) → queue_same q r ≡ true → fed.u64 (queue_digest q) ≡ fed.u64 (queue_digest r)
fed_alike q r h = ap (λ (s : Queue). fed.u64 (queue_digest s)) ((queues_tell q r).0 h)
