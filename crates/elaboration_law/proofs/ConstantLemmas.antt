-- E307: in a text that has a design no constant uses a variable or the time, and in one that is refused under the rule one does.
use Rattle.std.proofs.Common.{◌≡◌, not, Option, refl, sym, ◌∙◌, ap}
use Rattle.vwords.specs.Words.{Text}
use Rattle.vast.specs.NumberedModules.{SourceTree}
use Rattle.velab_expr.specs.declared.fault.Rule.TheVariants.{Constant}
use Rattle.velab_expr.specs.declared.fault.ElabFault.{ElabFault}
use Rattle.vhierarchy.specs.Instances.{broken_design}
use Rattle.elaboration_law.specs.Laws.{IsMeant}
use Rattle.elaboration_law.specs.Constants.{HasUnfixed}
use Rattle.elaboration_law.proofs.ToldLemmas.{untold_fault}
use Rattle.elaboration_law.proofs.DesignRules.{design_tells}
use Rattle.elaboration_law.proofs.HierarchyLemmas.{Told, in_modules, in_ports, is_of_ports, of_ports, in_top, in_hierarchy, in_design, fault_told}
use Rattle.elaboration_law.proofs.ConstantUses.{is_constant, unfixed_told, unfixed_never}

constants_told : (modules : SourceTree) (top : Option Text) (fault : ElabFault) → fault.rule ≡ Constant → Told modules top fault → HasUnfixed modules top
constants_told modules top fault rule (in_modules w again other) = absurd cc
constants_told modules top fault rule (in_ports m is other) = absurd (let no = sym (of_ports m fault.rule other) ∙ ap is_of_ports rule in cc)
constants_told modules top fault rule (in_top missing other) = absurd cc
constants_told modules top fault rule (in_hierarchy unit is_top err) = unfixed_told modules top fault unit rule is_top err
constants_told modules top fault rule (in_design unit part is_top ok broken) =
    absurd (untold_fault (λ r. not (is_constant r)) (broken_design unit.name part) fault Constant (design_tells (λ r. not (is_constant r)) refl refl refl refl unit.name part refl refl) refl broken rule)

pub constants_meant : IsMeant Constant HasUnfixed
constants_meant = record {
  never = λ modules top scale design is. unfixed_never modules top scale design is;
  told = λ modules top scale fault is rule. constants_told modules top fault rule (fault_told modules top scale fault is);
}
