use Rattle.std.proofs.Common.{◌≡◌, Option, Some, None, Err, ap, sym, subst, ◌∙◌}
use Rattle.basis.specs.declared.memory.OrMemory.{OrMemory}
use Rattle.vwords.specs.Words.{Text}
use Rattle.vast.specs.NumberedModules.{ModuleTree, SourceTree}
use Rattle.vast.specs.NumberedTrees.{module_tree}
use Rattle.vmodules.specs.Hierarchy.{top_of}
use Rattle.vmodules.specs.Inner.{unit_tree, units_tree, named_text}
use Rattle.velab_expr.specs.declared.fault.ElabFault.{ElabFault}
use Rattle.velab_expr.specs.Answers.{Refuses}
use Rattle.velab_expr.specs.declared.fault.Rule.TheVariants.{Top}
use Rattle.vhierarchy.specs.Instances.{as_design, top_whole}
use Rattle.vhierarchy.proofs.StepLemmas.{same_given}
use Rattle.vhierarchy.proofs.DesignLemmas.{top_missing, top_found}
use Rattle.vhierarchy.proofs.design.top_design.Goals as goal

pub returns-in-Some : goal.returns-in-Some
returns-in-Some c =
    let tree : SourceTree = units_tree c.args.modules.now in
    let top : Option Text = named_text c.args.top in
    let m : ModuleTree = module_tree c.args.modules.now.words c.in-Some.unit.now in
    let is_top : top_of tree top ≡ Some m = sym c.in_ok-unit.ensures ∙ ap (unit_tree c.args.modules.now.words) c.in-Some.is in
    same_given c.design_of.result _ _ (sym (top_found tree top c.args.scale m is_top)) c.design_of.ensures

pub returns-in_ok-at-in-None : goal.returns-in_ok-at-in-None
returns-in_ok-at-in-None c =
    let tree : SourceTree = units_tree c.args.modules.now in
    let top : Option Text = named_text c.args.top in
    let is_top : top_of tree top ≡ None = sym c.in_ok-unit.ensures ∙ ap (unit_tree c.args.modules.now.words) c.in-None.is in
    subst (λ (e : OrMemory ElabFault). Refuses e (as_design c.args.scale (top_whole tree top))) (sym c.refusal.ensures)
    (top_missing tree top c.args.scale is_top ∙ ap (λ at. Err (record { rule = Top; at = at })) (sym c.in_ok-at-in-None.ensures))
