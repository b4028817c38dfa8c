use Rattle.std.proofs.Common.{◌≡◌, ◌+◌, drop}
use Rattle.vmodel.specs.Inner.{place_of_time}
use Rattle.plain_steps.proofs.future.place_among.Given as goal

abbrev pub invariant-loop-entry : goal.invariant-loop-entry
invariant-loop-entry l =
    (l.place ≡ l.entry-index)
    × (l.place + place_of_time l.time (drop l.entry-index l.future) ≡ place_of_time l.time l.future)
