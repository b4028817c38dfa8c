use Rattle.std.proofs.Common.{◌≡◌, ◌≤◌, ◌++◌, drop, length}
use Rattle.vmodel.specs.Step.{strobe_items}
use Rattle.plain_steps.proofs.shown.put_strobes.Given as goal

abbrev pub invariant-loop-place : goal.invariant-loop-place
invariant-loop-place l =
    (l.items.items ++ strobe_items l.design l.state (drop l.place-index l.places) ≡ l.initial.items.items ++ strobe_items l.design l.state l.places)
    × (length l.initial.items.items ≤ length l.items.items)
