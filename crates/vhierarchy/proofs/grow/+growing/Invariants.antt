use Rattle.std.proofs.Common.{◌≡◌, ◌+◌, ◌*◌, drop}
use Rattle.vhierarchy.specs.Inner.{instances_below}
use Rattle.vhierarchy.proofs.grow.+growing.Given as goal

abbrev pub decreases-put_unit : goal.decreases-put_unit
decreases-put_unit l = 3 * l.levels

abbrev pub decreases-put_each : goal.decreases-put_each
decreases-put_each l = 3 * l.levels + 2

abbrev pub decreases-put_child : goal.decreases-put_child
decreases-put_child l = 3 * l.levels + 1

abbrev pub invariant-put_each-loop-one : goal.invariant-put_each-loop-one
invariant-put_each-loop-one l =
    instances_below l.modules l.levels l.context l.scope l.part (drop l.one-index l.list) ≡ instances_below l.modules l.levels l.context l.scope l.initial.part l.list
