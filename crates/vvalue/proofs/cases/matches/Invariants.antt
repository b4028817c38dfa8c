use Rattle.std.proofs.Common.{◌-◌, ◌≡◌, drop}
use Rattle.vvalue.specs.Cases.{all_pass}
use Rattle.vvalue.proofs.cases.matches.Given as goal

abbrev pub invariant-loop-i : goal.invariant-loop-i
invariant-loop-i l =
    all_pass l.kind (drop l.i l.value.letters) (drop l.i l.item.letters) ≡ all_pass l.fn.kind l.fn.value.letters l.fn.item.letters

abbrev pub decreases-loop-i : goal.decreases-loop-i
decreases-loop-i l = l.len - l.i
