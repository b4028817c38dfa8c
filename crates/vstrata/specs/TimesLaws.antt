-- *internal*: The test of equality of times decides whether two are equal (laws with their proofs).
use Rattle.std.specs.Prelude.{◌≡◌}
use Rattle.std.proofs.Common.{ap}
use Rattle.std.specs.Cmp.{IsEquivalence, decided, unsigned_Decides}
use Rattle.std.proofs.lemmas.Bool.Decides.{Decides-and, Decides-like}
use Rattle.sched_core.specs.Tests.{Tells, list_tells}
use Rattle.vmodel.specs.Same.{slot_same}
use Rattle.vmodel.specs.SameLaws.{slots_tell}
use Rattle.vstrata.specs.Times.{Times, times_same}

pub times_tell : Tells times_same
times_tell s t = Decides-like (times_same s t)
    (λ (h : (s.time ≡ t.time) × (s.future ≡ t.future)). λ i. record { time = h.0 i; future = h.1 i })
    (λ h. (ap (λ (u : Times). u.time) h, ap (λ (u : Times). u.future) h))
    (Decides-and _ _ (unsigned_Decides s.time t.time) (list_tells slot_same slots_tell s.future t.future))

pub times_equivalent : IsEquivalence times_same
times_equivalent = decided times_same times_tell
