use Rattle.std.proofs.Common.{◌+◌, ◌∷◌, [], List, drop, sym, ap, ◌∙◌}
use Rattle.std.specs.Prelude.{option_map}
use Rattle.std.proofs.lemmas.List.{map-append}
use Rattle.vast.specs.NumberedTrees.{connections_tree, instance_tree, module_tree}
use Rattle.vast.specs.declared.module.Instance.{Instance}
use Rattle.vexpr_parse.specs.Texts.{words_of}
use Rattle.velab_expr.specs.Answers.{behind}
use Rattle.velab_expr.proofs.ListLemmas.{drop_at}
use Rattle.vhierarchy.specs.Instances.{lower_instance}
use Rattle.vhierarchy.specs.Inner.{instances_listed, instantiation_tree, instantiation_trees}
use Rattle.vhierarchy.proofs.InstantiationLemmas.{instance_put}
use Rattle.vhierarchy.proofs.instantiation.put_each.Goals as goal

pub loop-one-preserved : goal.loop-one-preserved
loop-one-preserved c =
    let words = words_of c.args.tokens.now in
    let child = c.args.offered.now.child.now in
    let overrides = option_map (connections_tree words) c.args.overrides.now in
    let found = c.in_ok-instantiation.instantiation in
    instance_put (instantiation_trees words c.loop-one.into.items)
    (lower_instance (module_tree words child) c.args.known overrides (instance_tree words c.one-item.result))
    (instances_listed words child c.args.known c.args.overrides.now (drop (c.loop-one.one-index + 1) c.args.list.now))
    (instantiation_tree words found) (instantiation_trees words c.push.new.self.items) c.in_ok-instantiation.ensures
    (ap (instantiation_trees words) c.in_ok-push.ensures.items ∙ map-append (instantiation_tree words) c.loop-one.into.items (found ∷ []))
    ∙ ap (λ (l : List Instance). behind (instantiation_trees words c.loop-one.into.items) (instances_listed words child c.args.known c.args.overrides.now l))
    (sym (drop_at c.args.list.now c.loop-one.one-index c.one-item.result c.loop-one-test.true c.one-item.is))
    ∙ c.loop-one.invariant
