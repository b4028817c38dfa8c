-- What is mixed of a queue, part by part.
use Rattle.std.proofs.Common.{◌≡◌, ℕ, List, ap, ◌∙◌}
use Rattle.vmodel.specs.Queue.{Later, Queue}
use Rattle.vmodel.specs.Digest.{digest_with, digest_of_future, digest_of_events, digest_of_processes_ready}
use Rattle.vstrata.specs.Digests.{queue_digest}

pub parts_mixed : (q : Queue) (time first processes events result : ℕ) (future : List (ℕ × Later)) → time ≡ q.time → future ≡ q.future →
    first ≡ digest_with 0 time → processes ≡ digest_of_processes_ready first q → events ≡ digest_of_events processes q →
    result ≡ digest_of_future events future → result ≡ queue_digest q
parts_mixed q time first processes events result future time_is future_is first_is processes_are events_are result_is =
    result_is ∙ (λ i. digest_of_future (all i) (future_is i))
  where
    all : events ≡ digest_of_events (digest_of_processes_ready (digest_with 0 q.time) q) q
    all =
        events_are
        ∙ ap (λ (d : ℕ). digest_of_events d q)
        (processes_are ∙ ap (λ (d : ℕ). digest_of_processes_ready d q) (first_is ∙ ap (digest_with 0) time_is))
