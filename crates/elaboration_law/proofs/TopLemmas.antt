-- E301: in a text that has a design each module that is named is there, and in one that is refused under the rule one isn't.
use Rattle.std.proofs.Common.{◌≡◌, ℕ, ◌+◌, nat_le, true, false, List, length, Option, Some, None, Ok, Err, refl, sym, subst, ◌⊎◌, inl, inr, ◌∙◌, ap}
use Rattle.std.specs.List.{Contains}
use Rattle.basis.specs.declared.timescale.Timescale.{Timescale}
use Rattle.vwords.specs.Words.{Text}
use Rattle.vast.specs.NumberedWords.{Word}
use Rattle.vast.specs.NumberedModules.{ConnectionsTree, InstanceTree, ItemTree, instances, ModuleTree, SourceTree}
use Rattle.vdesign.specs.Design.{Design}
use Rattle.vmodules.specs.Hierarchy.{module_of, top_of}
use Rattle.vmodules.specs.Ports.{ports_of}
use Rattle.velab_expr.specs.declared.fault.Rule.TheVariants.{Top, Doubled, TooMany}
use Rattle.velab_expr.specs.declared.fault.ElabFault.{ElabFault}
use Rattle.vhierarchy.specs.Instances.{unless_word, Instantiation, lower_list, named_again, lower_instances_of, lower_instances, lower_own, lower_names, PartialDesign, Context, broken_design, elaborated}
use Rattle.elaboration_law.specs.Hierarchy.{Instance, StandsBelow, top_instance}
use Rattle.elaboration_law.specs.Laws.{IsMeant}
use Rattle.elaboration_law.specs.Tops.{LacksModule, no_top, no_module}
use Rattle.elaboration_law.proofs.ToldLemmas.{is_of_connections, untold, untold_fault}
use Rattle.elaboration_law.proofs.ModuleRules.{is_of_names, is_of_own, names_tell, list_tells, own_tells}
use Rattle.elaboration_law.proofs.DesignRules.{is_of_design, design_tells}
use Rattle.elaboration_law.proofs.StepLemmas.{provided_err, barring_err}
use Rattle.elaboration_law.proofs.ItemLemmas.{item_answered, item_told}
use Rattle.elaboration_law.proofs.HierarchyLemmas.{instance_at, OwnFault, in_names, in_instances, in_own, ToldBelow, too_deep, by_own, Told, in_modules, in_ports, is_of_ports, of_ports, in_top, in_hierarchy, in_design, all_elaborated, fault_told, top_told_below}
use Rattle.elaboration_law.proofs.NameLemmas.{was_elaborated}

module _ (modules : SourceTree) where
  of_there : (name : Word) (before known : ℕ) (found : Option ModuleTree) (overrides : Option ConnectionsTree) (list : List InstanceTree) (children : List Instantiation) →
      lower_instances_of name before known found overrides list ≡ Ok children → found ≡ None → ⊥
  of_there name before known None overrides list children is none = cc
  of_there name before known (Some m) overrides list children is none = cc

  all_there : (before known : ℕ) (items : List ItemTree) (children : List Instantiation) (name : Word) (overrides : Option ConnectionsTree) (list : List InstanceTree) →
      lower_instances modules before known items ≡ Ok children → Contains items (instances name overrides list) → module_of modules name.letters ≡ None → ⊥
  all_there before known items children name overrides list is inside none =
      let it = item_answered modules before known items children name overrides list is inside in
      of_there name it.before it.known (module_of modules name.letters) overrides list it.children it.is none

  module _ (fault : ElabFault) (rule : fault.rule ≡ Top) where
    of_missing : (name : Word) (before known : ℕ) (found : Option ModuleTree) (overrides : Option ConnectionsTree) (list : List InstanceTree) →
        lower_instances_of name before known found overrides list ≡ Err fault → found ≡ None
    of_missing name before known None overrides list is = refl
    of_missing name before known (Some m) overrides list is =
        absurd (by (provided_err (nat_le (before + length list) 1024) TooMany (Some name) (unless_word (named_again m) Doubled (lower_list m known overrides list)) fault is))
      where
        again : ((w : Word) × (named_again m ≡ Some w) × (fault.rule ≡ Doubled)) ⊎ ((named_again m ≡ None) × (lower_list m known overrides list ≡ Err fault)) → ⊥
        again (inl (w, is, other)) = cc
        again (inr (none, err)) = untold is_of_connections (lower_list m known overrides list) fault Top (list_tells m known overrides list) refl err rule

        by : ((nat_le (before + length list) 1024 ≡ false) × (fault.rule ≡ TooMany)) ⊎ ((nat_le (before + length list) 1024 ≡ true) × (unless_word (named_again m) Doubled (lower_list m known overrides list) ≡ Err fault)) → ⊥
        by (inl (many, other)) = cc
        by (inr (few, err)) = again (barring_err (named_again m) Doubled (lower_list m known overrides list) fault err)

module _ (modules : SourceTree) (top : Option Text) where
  own_told : (fault : ElabFault) (unit : ModuleTree) (depth : ℕ) (part : PartialDesign) (context : Context) → top_of modules top ≡ Some unit → fault.rule ≡ Top → StandsBelow modules depth (top_instance unit) (instance_at context) →
      OwnFault modules part context fault → LacksModule modules top
  own_told fault unit depth part context is_top rule stands (in_names err) = absurd (untold is_of_names (lower_names part context) fault Top (names_tell part context) refl err rule)
  own_told fault unit depth part context is_top rule stands (in_instances scope names err) =
      let it = item_told modules fault 0 scope.known context.unit.items err in
      no_module depth (instance_at context) it.name it.overrides it.list (unit, is_top, stands) it.inside
      (of_missing modules fault rule it.name it.before it.known (module_of modules it.name.letters) it.overrides it.list it.is)
  own_told fault unit depth part context is_top rule stands (in_own scope children names wanted err) =
      absurd (untold is_of_own (lower_own context (ports_of context.unit) scope part) fault Top (own_tells context (ports_of context.unit) scope part) refl err rule)

  below_told : (fault : ElabFault) (unit : ModuleTree) → top_of modules top ≡ Some unit → fault.rule ≡ Top → ToldBelow modules 16 (top_instance unit) fault → LacksModule modules top
  below_told fault unit is_top rule (too_deep one other stands) = absurd cc
  below_told fault unit is_top rule (by_own depth part context stands own) = own_told fault unit depth part context is_top rule stands own

  tops_told : (fault : ElabFault) → fault.rule ≡ Top → Told modules top fault → LacksModule modules top
  tops_told fault rule (in_modules w again other) = absurd cc
  tops_told fault rule (in_ports m is other) = absurd (let no = sym (of_ports m fault.rule other) ∙ ap is_of_ports rule in cc)
  tops_told fault rule (in_top missing other) = no_top missing
  tops_told fault rule (in_hierarchy unit is_top err) = below_told fault unit is_top rule (top_told_below modules unit fault err)
  tops_told fault rule (in_design unit part is_top ok broken) =
      absurd (untold_fault is_of_design (broken_design unit.name part) fault Top (design_tells is_of_design refl refl refl refl unit.name part refl refl) refl broken rule)

  tops_never : (scale : Timescale) (design : Design) → elaborated modules top scale ≡ Ok design → ¬ LacksModule modules top
  tops_never scale design is (no_top none) = let there = (all_elaborated modules top scale design is).is_top in cc
  tops_never scale design is (no_module levels one name overrides list stands inside none) =
      let found = (was_elaborated modules top scale design is levels one stands).1 in
      let listed = subst (λ (i : Instance). Contains i.unit.items (instances name overrides list)) (sym found.at) inside in
      all_there modules 0 found.own.scope.known found.context.unit.items found.own.children name overrides list found.own.instances_are listed none

pub tops_meant : IsMeant Top LacksModule
tops_meant = record {
  never = tops_never;
  told = λ modules top scale fault is rule. tops_told modules top fault rule (fault_told modules top scale fault is);
}
