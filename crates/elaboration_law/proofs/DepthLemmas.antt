-- E308: a text that has a design isn't too deep, and one that is refused under the rule is.
use Rattle.std.proofs.Common.{◌≡◌, Option, Some, Ok, refl, subst, arith, sym, ◌∙◌, ap}
use Rattle.basis.specs.declared.timescale.Timescale.{Timescale}
use Rattle.vwords.specs.Words.{Text}
use Rattle.vast.specs.NumberedModules.{ModuleTree, SourceTree}
use Rattle.vdesign.specs.Design.{Design}
use Rattle.vmodules.specs.Hierarchy.{top_of}
use Rattle.vmodules.specs.Ports.{ports_of}
use Rattle.velab_expr.specs.declared.fault.Rule.TheVariants.{Depth}
use Rattle.velab_expr.specs.declared.fault.ElabFault.{ElabFault}
use Rattle.vhierarchy.specs.Instances.{PartialDesign, Context, lower_names, lower_instances, lower_own, broken_design, elaborated}
use Rattle.elaboration_law.specs.Hierarchy.{StandsBelow, top_instance}
use Rattle.elaboration_law.specs.Laws.{IsMeant}
use Rattle.elaboration_law.specs.Depths.{IsTooDeep}
use Rattle.elaboration_law.proofs.ToldLemmas.{untold, untold_fault}
use Rattle.elaboration_law.proofs.ModuleRules.{is_of_names, is_of_instances, is_of_own, names_tell, instances_tell, own_tells}
use Rattle.elaboration_law.proofs.DesignRules.{is_of_design, design_tells}
use Rattle.elaboration_law.proofs.HierarchyLemmas.{OwnFault, in_names, in_instances, in_own, ToldBelow, too_deep, by_own, Told, in_modules, in_ports, is_of_ports, of_ports, in_top, in_hierarchy, in_design, all_elaborated, fault_told, top_elaborated, top_told_below}

-- the top of a text is one module
pub one_top : (modules : SourceTree) (top : Option Text) (m other : ModuleTree) → top_of modules top ≡ Some m → top_of modules top ≡ Some other → m ≡ other
one_top modules top m other is also = cc

-- no step of an instance's own tells this rule
own_is_no_depth : (modules : SourceTree) (part : PartialDesign) (context : Context) (fault : ElabFault) → OwnFault modules part context fault → fault.rule ≡ Depth → ⊥
own_is_no_depth modules part context fault (in_names err) = untold is_of_names (lower_names part context) fault Depth (names_tell part context) refl err
own_is_no_depth modules part context fault (in_instances scope names err) =
    untold is_of_instances (lower_instances modules 0 scope.known context.unit.items) fault Depth (instances_tell modules 0 scope.known context.unit.items) refl err
own_is_no_depth modules part context fault (in_own scope children names wanted err) =
    untold is_of_own (lower_own context (ports_of context.unit) scope part) fault Depth (own_tells context (ports_of context.unit) scope part) refl err

module _ (modules : SourceTree) (top : Option Text) where
  below_told : (fault : ElabFault) (unit : ModuleTree) → top_of modules top ≡ Some unit → fault.rule ≡ Depth → ToldBelow modules 16 (top_instance unit) fault → IsTooDeep modules top
  below_told fault unit is_top rule (too_deep one same stands) = (one, (unit, is_top, stands))
  below_told fault unit is_top rule (by_own depth part context stands own) = absurd (own_is_no_depth modules part context fault own rule)

  depth_told : (fault : ElabFault) → fault.rule ≡ Depth → Told modules top fault → IsTooDeep modules top
  depth_told fault rule (in_modules w again other) = absurd cc
  depth_told fault rule (in_ports m is other) = absurd (let no = sym (of_ports m fault.rule other) ∙ ap is_of_ports rule in cc)
  depth_told fault rule (in_top missing other) = absurd cc
  depth_told fault rule (in_hierarchy unit is_top err) = below_told fault unit is_top rule (top_told_below modules unit fault err)
  depth_told fault rule (in_design unit part is_top ok broken) =
      absurd (untold_fault is_of_design (broken_design unit.name part) fault Depth (design_tells is_of_design refl refl refl refl unit.name part refl refl) refl broken rule)

  depth_never : (scale : Timescale) (design : Design) → elaborated modules top scale ≡ Ok design → ¬ IsTooDeep modules top
  depth_never scale design is (one, (m, is_top, stands)) =
      let all = all_elaborated modules top scale design is in
      let same = one_top modules top m all.unit is_top all.is_top in
      let found = top_elaborated modules all.unit all.part 16 one all.is_part (subst (λ (u : ModuleTree). StandsBelow modules 16 (top_instance u) one) same stands) in
      omega (arith, found.1)

pub depth_meant : IsMeant Depth IsTooDeep
depth_meant = record {
  never = depth_never;
  told = λ modules top scale fault is rule. depth_told modules top fault rule (fault_told modules top scale fault is);
}
