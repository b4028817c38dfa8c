use Rattle.std.proofs.Common.{◌≡◌, ◌<◌, ◌+◌, ◌^◌, drop, length}
use Rattle.velab_expr.specs.Answers.{behind}
use Rattle.velab_expr.specs.Inner.{symbols_in}
use Rattle.vhierarchy.specs.Inner.{instantiation_trees, instances_in}
use Rattle.vhierarchy.proofs.instantiation.instantiations_in.Given as goal

abbrev pub invariant-loop-item : goal.invariant-loop-item
invariant-loop-item l = record {
  same : behind (instantiation_trees l.modules.words l.list.items) (instances_in l.modules (length l.list.items) l.before (drop l.item-index l.items))
      ≡ instances_in l.modules 0 l.known l.items;
  small : l.before + length (symbols_in l.modules.words (drop l.item-index l.items)) < 2 ^ 64;
}
