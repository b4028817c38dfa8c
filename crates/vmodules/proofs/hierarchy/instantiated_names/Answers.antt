use Rattle.std.proofs.Common.{◌++◌, ◌+◌, List, drop, map, ap, subst, arith}
use Rattle.std.specs.List.{flat_map}
use Rattle.std.proofs.lemmas.List.{drop_all}
use Rattle.vast.specs.NumberedTrees.{item_tree, module_tree}
use Rattle.vast.specs.declared.module.ModuleItem.{ModuleItem}
use Rattle.vast.specs.declared.module.ModuleTree.{ModuleTree}
use Rattle.vexpr_parse.specs.Texts.{words_of}
use Rattle.vmodules.specs.Hierarchy.{instantiated_by, instantiated_names}
use Rattle.vmodules.specs.Inner.{HoldSame}
use Rattle.vmodules.proofs.ListLemmas.{drop_at}
use Rattle.vmodules.proofs.HierarchyLemmas.{holds_step, holds_all}
use Rattle.vmodules.proofs.hierarchy.instantiated_names.Goals as goal

pub loop-unit-preserved : goal.loop-unit-preserved
loop-unit-preserved c =
    let words = words_of c.args.tokens.now in
    holds_step c.loop-unit.names c.add_items.new.into (flat_map instantiated_by (map (item_tree words) c.unit-item.result.items.items))
    (instantiated_names (map (module_tree words) (drop (c.loop-unit.unit-index + 1) c.args.list.now))) _ _
    (ap (λ (l : List ModuleTree). instantiated_names (map (module_tree words) l)) (drop_at c.args.list.now c.loop-unit.unit-index c.unit-item.result c.loop-unit-test.true c.unit-item.is))
    (subst (λ (items : List ModuleItem). HoldSame c.add_items.new.into (c.loop-unit.names ++ flat_map instantiated_by (map (item_tree words) items))) c.deref.ensures.value c.in_ok-add_items.ensures)
    c.loop-unit.invariant

pub returns : goal.returns
returns c =
    let words = words_of c.args.tokens.now in
    holds_all c.loop-unit.names (instantiated_names (map (module_tree words) (drop c.loop-unit.unit-index c.args.list.now))) _
    (ap (λ (l : List ModuleTree). instantiated_names (map (module_tree words) l)) (drop_all c.loop-unit.unit-index c.args.list.now (omega (arith, c.loop-unit-test.false))))
    c.loop-unit.invariant
