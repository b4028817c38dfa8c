use Rattle.std.proofs.Common.{◌≡◌, ◌+◌, ◌*◌, ◌++◌, drop, map}
use Rattle.std.specs.List.{flat_map}
use Rattle.std.specs.Prelude.{Some}
use Rattle.vast.specs.NumberedTrees.{instance_tree, item_tree, module_tree}
use Rattle.vmodules.specs.Inner.{units_tree}
use Rattle.action_origins.specs.Origins.{instances_origins, module_origins, origins_below}
use Rattle.action_origins.proofs.units.+units.Given as goal

abbrev pub decreases-put_module : goal.decreases-put_module
decreases-put_module l = 4 * l.levels

abbrev pub decreases-put_below : goal.decreases-put_below
decreases-put_below l = 4 * l.levels + 3

abbrev pub decreases-put_below_item : goal.decreases-put_below_item
decreases-put_below_item l = 4 * l.levels + 2

abbrev pub decreases-put_instances : goal.decreases-put_instances
decreases-put_instances l = 4 * l.levels + 1

abbrev pub invariant-put_below-loop-one : goal.invariant-put_below-loop-one
invariant-put_below-loop-one l =
    l.into.items
    ++ flat_map (origins_below (module_origins l.modules.words l.levels (units_tree l.modules)) (units_tree l.modules)) (map (item_tree l.modules.words) (drop l.one-index l.items))
    ≡ l.initial.into.items
    ++ flat_map (origins_below (module_origins l.modules.words l.levels (units_tree l.modules)) (units_tree l.modules)) (map (item_tree l.modules.words) l.items)

abbrev pub invariant-put_instances-loop-one : goal.invariant-put_instances-loop-one
invariant-put_instances-loop-one l =
    l.into.items
    ++ instances_origins (module_origins l.modules.words l.levels (units_tree l.modules)) (Some (module_tree l.modules.words l.child)) (map (instance_tree l.modules.words) (drop l.one-index l.list))
    ≡ l.initial.into.items
    ++ instances_origins (module_origins l.modules.words l.levels (units_tree l.modules)) (Some (module_tree l.modules.words l.child)) (map (instance_tree l.modules.words) l.list)
