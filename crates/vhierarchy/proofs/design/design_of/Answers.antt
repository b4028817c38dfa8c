use Rattle.std.proofs.Common.{List, ap, sym, ◌∙◌}
use Rattle.vwords.specs.Words.{Text}
use Rattle.vast.specs.NumberedModules.{ModuleTree}
use Rattle.vast.specs.NumberedTrees.{module_tree}
use Rattle.vmodules.specs.Inner.{units_tree}
use Rattle.vhierarchy.specs.Instances.{as_design, check, nothing}
use Rattle.vhierarchy.proofs.StepLemmas.{hands_over, same_given}
use Rattle.vhierarchy.proofs.DesignLemmas.{top_wrong, top_sound}
use Rattle.vhierarchy.proofs.design.design_of.Goals as goal

pub returns-in_err-part : goal.returns-in_err-part
returns-in_err-part c =
    let m : ModuleTree = module_tree c.args.modules.now.words c.args.unit.now in
    hands_over c.from_residual.result c.in_err-part.field-0.0 _ c.from_residual.ensures.1
    (top_wrong c.args.scale m nothing (units_tree c.args.modules.now) c.in_err-part.field-0.0 c.in_err-part.ensures)

pub returns : goal.returns
returns c =
    let m : ModuleTree = module_tree c.args.modules.now.words c.args.unit.now in
    same_given c.checked_design.result _ _
    (ap (λ (words : List Text). as_design c.args.scale (check (module_tree words c.args.unit.now) c.in_ok-part.part)) c.tokens.ensures
    ∙ sym (top_sound c.args.scale m c.in_ok-part.part (units_tree c.args.modules.now) c.in_ok-part.ensures))
    c.checked_design.ensures
