use Rattle.std.proofs.Common.{◌≡◌, ◌++◌, ◌-◌, ◌≤◌, length, replicate}
use Rattle.value_text.proofs.places.put_filled.Given as goal

abbrev pub invariant-loop-taken : goal.invariant-loop-taken
invariant-loop-taken l =
    (length l.shown ≤ l.taken)
    × (l.text.items ++ replicate (l.places - l.taken) l.letter ≡ l.initial.text.items ++ replicate (l.places - length l.shown) l.letter)

abbrev pub decreases-loop-taken : goal.decreases-loop-taken
decreases-loop-taken l = l.places - l.taken
