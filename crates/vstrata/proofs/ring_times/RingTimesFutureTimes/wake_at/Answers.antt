use Rattle.std.proofs.Common.{ap, arith}
use Rattle.vmodel.specs.Queue.{slot_with_sleeper}
use Rattle.vstrata.specs.Times.{Times}
use Rattle.vstrata.proofs.MarkLemmas.{ring_with}
use Rattle.vstrata.proofs.ring_times.RingTimesFutureTimes.wake_at.Goals as goal

pub invariant_of-self-2 : goal.invariant_of-self-2
invariant_of-self-2 c =
    ring_with c.args.time (slot_with_sleeper c.args.sleeper) c.self.inside.time c.self.inside.near c.with_mark-self-inside.result
    c.self.inside.entries.items c.wake_at_place.new.entries.items c.self.invariant
    (omega (arith, c.requires.after, ap (λ (t : Times). t.time) c.self.view_is)) c.in_ok-wake_at_place.ensures.ok
    c.with_mark-self-inside.ensures.this c.with_mark-self-inside.ensures.others
