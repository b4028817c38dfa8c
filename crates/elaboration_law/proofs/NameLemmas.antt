-- E302: in a text that has a design no name is declared twice, and in one that is refused under the rule one is.
use Rattle.std.proofs.Common.{◌≡◌, ℕ, true, false, Bool, List, [], ◌∷◌, ◌++◌, Option, Some, None, Ok, refl, sym, ap, subst, ◌∙◌, ◌⊎◌, inl, inr, true≢false, append_assoc}
use Rattle.std.specs.List.{Contains, flat_map}
use Rattle.std.specs.Option.{option_or}
use Rattle.std.proofs.lemmas.List.{map-append, append-nil}
use Rattle.std.proofs.lemmas.List.Concat.{flat_map-append}
use Rattle.basis.specs.declared.timescale.Timescale.{Timescale}
use Rattle.vwords.specs.Words.{Text}
use Rattle.vast.specs.NumberedWords.{Word}
use Rattle.vast.specs.NumberedModules.{instances, ModuleTree, SourceTree}
use Rattle.vdesign.specs.Design.{Design, Variable, Scope as Room}
use Rattle.vmodules.specs.Names.{has_double}
use Rattle.vmodules.specs.Hierarchy.{module_names, top_of}
use Rattle.vmodules.specs.Ports.{ports_of}
use Rattle.velab_expr.specs.declared.fault.Rule.{Rule}
use Rattle.velab_expr.specs.declared.fault.Rule.TheVariants.{Doubled}
use Rattle.velab_expr.specs.declared.fault.ElabFault.{ElabFault}
use Rattle.velab_expr.specs.Rules.{broken_if}
use Rattle.velab_declaration.specs.ActionFlaws.{table_fault}
use Rattle.vhierarchy.specs.Instances.{lower_own, PartialDesign, Context, scope_of, variable_paths, scope_paths, broken_selection, broken_paths, broken_table, broken_design, elaborate_top, elaborated}
use Rattle.elaboration_law.specs.Hierarchy.{Instance, StandsBelow, StandsAt, top_instance, instances_from}
use Rattle.elaboration_law.specs.Laws.{IsMeant}
use Rattle.elaboration_law.specs.Doubles.{names_in_module, variable_paths_in, path_in, IsDeclaredTwice, module_twice, port_twice, block_twice, name_twice, head_twice, variable_twice, path_twice}
use Rattle.elaboration_law.proofs.ToldLemmas.{is_local, untold, untold_fault}
use Rattle.elaboration_law.proofs.ModuleRules.{is_of_own, own_tells}
use Rattle.elaboration_law.proofs.DesignRules.{is_of_table, table_tells, selection_broken, broken_table_tells}
use Rattle.elaboration_law.proofs.DoubleLemmas.{none_twice, one_twice}
use Rattle.vmodules.specs.declared.misdeclared.PortFlaw.{PortFlaw}
use Rattle.vmodules.specs.declared.misdeclared.PortFlaw.TheVariants as flaw
use Rattle.elaboration_law.proofs.PortLemmas.{IsWrong, port_doubled, block_doubled, port_alone, variable_input, valued_net, one_wrong, all_untold, no_port_twice, no_block_twice}
use Rattle.elaboration_law.proofs.HierarchyLemmas.{instance_at, OwnFault, in_names, in_instances, in_own, ToldBelow, too_deep, by_own, Told, in_modules, in_ports, doubled_port, in_top, in_hierarchy, in_design, WasElaborated, all_elaborated, fault_told, top_elaborated, top_told_below}
use Rattle.elaboration_law.proofs.OwnLemmas.{own_steps, own_named}
use Rattle.elaboration_law.proofs.GatherLemmas.{Gathers, top_gathered}
use Rattle.elaboration_law.proofs.NameRules.{names_once, names_twice, heads_once, heads_twice}
use Rattle.elaboration_law.proofs.DepthLemmas.{one_top}

-- ---- names in the hierarchy

module _ (f : Instance → List Text) where
  pub listed_both : (x : List Text) (xs ys : List Instance) → (x ++ flat_map f xs) ++ flat_map f ys ≡ x ++ flat_map f (xs ++ ys)
  listed_both x xs ys = append_assoc x (flat_map f xs) (flat_map f ys) ∙ sym (ap (λ (l : List Text). x ++ l) (flat_map-append f xs ys))

module _ (top : Text) (modules : SourceTree) where
  variables_gather : Gathers top modules (λ (a b : List Text). a ++ b) variable_paths (flat_map variable_paths_in)
  variables_gather = record {
    none = λ x. append-nil x;
    both = listed_both variable_paths_in;
    own = λ part context named own.
        let s = own_steps modules part context own in
        sym (ap variable_paths s.whole_is)
        ∙ map-append (λ (v : Variable). v.name) part.variables s.variables_made
        ∙ ap (λ (l : List Text). variable_paths part ++ l) (own_named modules part context own ∙ sym (append-nil (variable_paths_in (instance_at context))));
  }

  paths_gather : Gathers top modules (λ (a b : List Text). a ++ b) scope_paths (flat_map path_in)
  paths_gather = record {
    none = λ x. append-nil x;
    both = listed_both path_in;
    own = λ part context named own.
        let s = own_steps modules part context own in
        sym (ap scope_paths s.whole_is) ∙ map-append (λ (r : Room). r.path) part.scopes (scope_of context own.scope.variables ∷ []);
  }

-- ---- a finished design

pub or_none : {A : Type 0} (a b : Option A) → option_or a b ≡ None → (a ≡ None) × (b ≡ None)
or_none None b is = (refl, is)
or_none (Some x) b is = absurd cc

pub or_some : {A : Type 0} (a b : Option A) (x : A) → option_or a b ≡ Some x → (a ≡ Some x) ⊎ (b ≡ Some x)
or_some None b x is = inr is
or_some (Some y) b x is = inl is

if_none : (holds : Bool) (rule : Rule) (word : Option Word) → broken_if holds rule word ≡ None → holds ≡ false
if_none true rule word is = absurd cc
if_none false rule word is = refl

if_some : (holds : Bool) (rule : Rule) (word : Option Word) (fault : ElabFault) → broken_if holds rule word ≡ Some fault → holds ≡ true
if_some true rule word fault is = refl
if_some false rule word fault is = absurd cc

module _ (modules : SourceTree) (top : Option Text) where
  -- its paths are those of the text
  module _ (unit : ModuleTree) (part : PartialDesign) (ok : elaborate_top modules unit ≡ Ok part) where
    pub variables_are : variable_paths part ≡ flat_map variable_paths_in (instances_from 16 modules (top_instance unit))
    variables_are = top_gathered unit.name.letters modules (λ (a b : List Text). a ++ b) variable_paths (flat_map variable_paths_in) (variables_gather unit.name.letters modules) unit part refl ok

    pub paths_are : scope_paths part ≡ flat_map path_in (instances_from 16 modules (top_instance unit))
    paths_are = top_gathered unit.name.letters modules (λ (a b : List Text). a ++ b) scope_paths (flat_map path_in) (paths_gather unit.name.letters modules) unit part refl ok

    design_twice : (fault : ElabFault) → top_of modules top ≡ Some unit → fault.rule ≡ Doubled → broken_design unit.name part ≡ Some fault → IsDeclaredTwice modules top
    design_twice fault is_top rule broken = whole (or_some (broken_paths unit.name part) (broken_table unit.name part) fault broken)
      where
        scopes : (broken_if (has_double (scope_paths part)) Doubled (Some unit.name) ≡ Some fault) ⊎ (table_fault (broken_selection (scope_paths part) (variable_paths part)) part.table.actions part.table.words ≡ Some fault) →
            IsDeclaredTwice modules top
        scopes (inl is) = path_twice unit is_top (sym (ap has_double paths_are) ∙ if_some (has_double (scope_paths part)) Doubled (Some unit.name) fault is)
        scopes (inr is) = absurd (untold_fault is_local (table_fault (broken_selection (scope_paths part) (variable_paths part)) part.table.actions part.table.words) fault Doubled
            (table_tells is_local (broken_selection (scope_paths part) (variable_paths part)) (selection_broken is_local refl refl (scope_paths part) (variable_paths part)) part.table.actions part.table.words) refl is rule)

        paths : (broken_if (has_double (variable_paths part)) Doubled (Some unit.name) ≡ Some fault)
            ⊎ (option_or (broken_if (has_double (scope_paths part)) Doubled (Some unit.name)) (table_fault (broken_selection (scope_paths part) (variable_paths part)) part.table.actions part.table.words) ≡ Some fault) →
            IsDeclaredTwice modules top
        paths (inl is) = variable_twice unit is_top (sym (ap has_double variables_are) ∙ if_some (has_double (variable_paths part)) Doubled (Some unit.name) fault is)
        paths (inr is) = scopes (or_some (broken_if (has_double (scope_paths part)) Doubled (Some unit.name)) (table_fault (broken_selection (scope_paths part) (variable_paths part)) part.table.actions part.table.words) fault is)

        whole : (broken_paths unit.name part ≡ Some fault) ⊎ (broken_table unit.name part ≡ Some fault) → IsDeclaredTwice modules top
        whole (inl is) = paths (or_some (broken_if (has_double (variable_paths part)) Doubled (Some unit.name))
            (option_or (broken_if (has_double (scope_paths part)) Doubled (Some unit.name)) (table_fault (broken_selection (scope_paths part) (variable_paths part)) part.table.actions part.table.words)) fault is)
        whole (inr is) = absurd (untold_fault is_of_table (broken_table unit.name part) fault Doubled (broken_table_tells is_of_table refl refl refl unit.name part refl) refl is rule)

    design_once : broken_design unit.name part ≡ None →
        (has_double (flat_map variable_paths_in (instances_from 16 modules (top_instance unit))) ≡ false) × (has_double (flat_map path_in (instances_from 16 modules (top_instance unit))) ≡ false)
    design_once right =
        let rest = table_fault (broken_selection (scope_paths part) (variable_paths part)) part.table.actions part.table.words in
        let scoped = broken_if (has_double (scope_paths part)) Doubled (Some unit.name) in
        let named = broken_if (has_double (variable_paths part)) Doubled (Some unit.name) in
        let outer = or_none named (option_or scoped rest) (or_none (option_or named (option_or scoped rest)) (broken_table unit.name part) right).0 in
        let inner = or_none scoped rest outer.1 in (
          sym (ap has_double variables_are) ∙ if_none (has_double (variable_paths part)) Doubled (Some unit.name) outer.0,
          sym (ap has_double paths_are) ∙ if_none (has_double (scope_paths part)) Doubled (Some unit.name) inner.0,
        )

  -- ---- the law

  own_told : (fault : ElabFault) (unit : ModuleTree) (depth : ℕ) (part : PartialDesign) (context : Context) → top_of modules top ≡ Some unit → fault.rule ≡ Doubled → StandsBelow modules depth (top_instance unit) (instance_at context) →
      OwnFault modules part context fault → IsDeclaredTwice modules top
  own_told fault unit depth part context is_top rule stands (in_names err) = name_twice depth (instance_at context) (unit, is_top, stands) (names_twice part context fault rule err)
  own_told fault unit depth part context is_top rule stands (in_instances scope names err) =
      let h = heads_twice modules fault rule 0 scope.known context.unit.items err in
      head_twice depth (instance_at context) h.name h.overrides h.list h.child (unit, is_top, stands) h.inside h.there h.twice
  own_told fault unit depth part context is_top rule stands (in_own scope children names wanted err) =
      absurd (untold is_of_own (lower_own context (ports_of context.unit) scope part) fault Doubled (own_tells context (ports_of context.unit) scope part) refl err rule)

  below_told : (fault : ElabFault) (unit : ModuleTree) → top_of modules top ≡ Some unit → fault.rule ≡ Doubled → ToldBelow modules 16 (top_instance unit) fault → IsDeclaredTwice modules top
  below_told fault unit is_top rule (too_deep one other stands) = absurd cc
  below_told fault unit is_top rule (by_own depth part context stands own) = own_told fault unit depth part context is_top rule stands own

  port_told : (f : PortFlaw) → f ≡ flaw.Doubled → (m : ModuleTree) → Contains modules m → IsWrong m f → IsDeclaredTwice modules top
  port_told f doubled m inside (port_doubled e twice) = port_twice m inside twice
  port_told f doubled m inside (block_doubled e twice) = block_twice m inside twice
  port_told f doubled m inside (port_alone e alone) = absurd cc
  port_told f doubled m inside (variable_input e one) = absurd cc
  port_told f doubled m inside (valued_net e one) = absurd cc

  names_told : (fault : ElabFault) → fault.rule ≡ Doubled → Told modules top fault → IsDeclaredTwice modules top
  names_told fault rule (in_modules w again other) = module_twice (one_twice (module_names modules) w again)
  names_told fault rule (in_ports wrong is other) =
      let one = one_wrong modules wrong is in
      port_told wrong.flaw (doubled_port wrong.flaw (other ∙ rule)) one.0 one.1 one.2
  names_told fault rule (in_top missing other) = absurd cc
  names_told fault rule (in_hierarchy unit is_top err) = below_told fault unit is_top rule (top_told_below modules unit fault err)
  names_told fault rule (in_design unit part is_top ok broken) = design_twice unit part ok fault is_top rule broken

  module _ (scale : Timescale) (design : Design) (is : elaborated modules top scale ≡ Ok design) where
    -- each instance of the hierarchy was elaborated
    pub was_elaborated : (levels : ℕ) (one : Instance) → StandsAt modules top levels one → (left : ℕ) × WasElaborated modules left one
    was_elaborated levels one (m, is_top, stands) =
        let all = all_elaborated modules top scale design is in
        let same = one_top modules top m all.unit is_top all.is_top in
        let found = top_elaborated modules all.unit all.part levels one all.is_part (subst (λ (u : ModuleTree). StandsBelow modules levels (top_instance u) one) same stands) in
        (found.0, found.2)

    names_never : ¬ IsDeclaredTwice modules top
    names_never (module_twice twice) = let all = all_elaborated modules top scale design is in true≢false (sym twice ∙ none_twice (module_names modules) all.modules_differ)
    names_never (port_twice m inside twice) = no_port_twice m (all_untold modules (all_elaborated modules top scale design is).ports_right m inside) twice
    names_never (block_twice m inside twice) = no_block_twice m (all_untold modules (all_elaborated modules top scale design is).ports_right m inside) twice
    names_never (name_twice levels one stands twice) =
        let found = (was_elaborated levels one stands).1 in
        true≢false (sym twice ∙ sym (ap (λ (i : Instance). has_double (names_in_module i.unit)) found.at) ∙ names_once found.part found.context found.own.scope found.own.names_are)
    names_never (head_twice levels one name overrides list child stands inside there twice) =
        let found = (was_elaborated levels one stands).1 in
        let listed = subst (λ (i : Instance). Contains i.unit.items (instances name overrides list)) (sym found.at) inside in
        true≢false (sym twice ∙ heads_once modules 0 found.own.scope.known found.context.unit.items found.own.children name overrides list child found.own.instances_are listed there)
    names_never (variable_twice m is_top twice) =
        let all = all_elaborated modules top scale design is in
        let same = one_top modules top m all.unit is_top all.is_top in
        true≢false (sym twice ∙ ap (λ (u : ModuleTree). has_double (flat_map variable_paths_in (instances_from 16 modules (top_instance u)))) same ∙ (design_once all.unit all.part all.is_part all.is_right).0)
    names_never (path_twice m is_top twice) =
        let all = all_elaborated modules top scale design is in
        let same = one_top modules top m all.unit is_top all.is_top in
        true≢false (sym twice ∙ ap (λ (u : ModuleTree). has_double (flat_map path_in (instances_from 16 modules (top_instance u)))) same ∙ (design_once all.unit all.part all.is_part all.is_right).1)

pub names_meant : IsMeant Doubled IsDeclaredTwice
names_meant = record {
  never = names_never;
  told = λ modules top scale fault is rule. names_told modules top fault rule (fault_told modules top scale fault is);
}
