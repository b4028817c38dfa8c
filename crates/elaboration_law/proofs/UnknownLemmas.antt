-- E303: in a text that has a design each name is known where it is used and each path leads to something; and in one that is refused under
-- the rule one isn't, or doesn't.
use Rattle.std.proofs.Common.{◌≡◌, true, false, Bool, not, true≢false, List, ◌++◌, Option, Some, None, Ok, refl, sym, ap, subst, ◌∙◌, ◌⊎◌, inl, inr}
use Rattle.std.specs.List.{Contains, flat_map, list_all}
use Rattle.std.specs.Option.{option_or}
use Rattle.std.proofs.lemmas.List.{append-nil}
use Rattle.basis.specs.declared.timescale.Timescale.{Timescale}
use Rattle.vwords.specs.Words.{Text}
use Rattle.vast.specs.NumberedModules.{ModuleTree, SourceTree}
use Rattle.vdesign.specs.Design.{Design}
use Rattle.vmodules.specs.Names.{has_double}
use Rattle.vmodules.specs.Ports.{ports_of}
use Rattle.vmodules.specs.Placed.{placed_items}
use Rattle.velab_expr.specs.declared.fault.Rule.TheVariants.{Doubled, Unknown}
use Rattle.velab_expr.specs.declared.fault.ElabFault.{ElabFault}
use Rattle.velab_expr.specs.Rules.{broken_if}
use Rattle.velab_expr.specs.Scopes.{Scope}
use Rattle.velab_declaration.specs.ActionFlaws.{table_fault}
use Rattle.vhierarchy.specs.Instances.{base_of, PartialDesign, variable_paths, scope_paths, broken_selection, broken_paths, broken_table, broken_design, elaborate_top, elaborated}
use Rattle.elaboration_law.specs.Laws.{IsMeant}
use Rattle.elaboration_law.specs.Selected.{paths_by_item, paths_in_instance}
use Rattle.elaboration_law.specs.Unknowns.{all_below, is_all_there, HasUnknown, of_name, of_port, of_path}
use Rattle.elaboration_law.proofs.ToldLemmas.{untold_fault}
use Rattle.elaboration_law.proofs.DesignRules.{broken_tells, broken_table_tells}
use Rattle.vmodules.specs.declared.misdeclared.PortFlaw.{PortFlaw}
use Rattle.vmodules.specs.declared.misdeclared.PortFlaw.TheVariants as flaw
use Rattle.elaboration_law.proofs.PortLemmas.{IsWrong, port_doubled, block_doubled, port_alone, variable_input, valued_net, one_wrong, all_untold, no_port_alone}
use Rattle.elaboration_law.proofs.HierarchyLemmas.{instance_at, Told, in_modules, in_ports, unknown_port, in_top, in_hierarchy, in_design, all_elaborated, fault_told}
use Rattle.elaboration_law.proofs.OwnLemmas.{own_steps}
use Rattle.elaboration_law.proofs.GatherLemmas.{Gathers, top_gathered}
use Rattle.elaboration_law.proofs.NameLemmas.{listed_both, variables_are, paths_are, or_none, or_some}
use Rattle.elaboration_law.proofs.DepthLemmas.{one_top}
use Rattle.elaboration_law.proofs.PlaceLemmas.{item_scope_of, scope_keeps}
use Rattle.elaboration_law.proofs.KnownUses.{is_unknown, unknown_told, unknown_never}
use Rattle.elaboration_law.proofs.DumpUses.{dumped, own_dumps}
use Rattle.elaboration_law.proofs.PathUses.{JudgesIf, is_something, path_judged, table_judged}

-- ---- the paths of a design

dumped_of : PartialDesign → List Text
dumped_of part = dumped part.table

dumps_gather : (top : Text) (modules : SourceTree) → Gathers top modules (λ (a b : List Text). a ++ b) dumped_of (flat_map (paths_in_instance top))
unfolding dumped_of
dumps_gather top modules = record {
  none = λ x. append-nil x;
  both = listed_both (paths_in_instance top);
  own = λ part context named own.
      let s = own_steps modules part context own in
      let same = scope_keeps (λ (x : Scope). x.top) (λ x one meaning. refl) (λ x known. refl) (base_of part context) context.unit own.scope (item_scope_of part context own.scope own.names_are) ∙ named in
      sym (ap dumped_of s.whole_is)
      ∙ own_dumps context (ports_of context.unit) own.scope part.table s.processes s.processes_made
      ∙ ap (λ (t : Text). dumped part.table ++ flat_map (paths_by_item t) (placed_items context.path context.unit)) same
      ∙ ap (λ (l : List Text). dumped part.table ++ l) (sym (append-nil (paths_in_instance top (instance_at context))));
}

module _ (modules : SourceTree) (top : Option Text) where
  module _ (unit : ModuleTree) (part : PartialDesign) (ok : elaborate_top modules unit ≡ Ok part) where
    pub dumped_are : dumped part.table ≡ flat_map (paths_in_instance unit.name.letters) (all_below modules unit)
    unfolding dumped_of
    dumped_are = top_gathered unit.name.letters modules (λ (a b : List Text). a ++ b) dumped_of (flat_map (paths_in_instance unit.name.letters)) (dumps_gather unit.name.letters modules) unit part refl ok

    -- all of them are something in the design where all are there in the text
    there_alike : list_all (is_something (scope_paths part) (variable_paths part)) (dumped part.table) ≡ is_all_there unit.name.letters (all_below modules unit)
    there_alike = λ i. list_all (is_something (paths_are modules top unit part ok i) (variables_are modules top unit part ok i)) (dumped_are i)

    abbrev selections : Option ElabFault
    selections = table_fault (broken_selection (scope_paths part) (variable_paths part)) part.table.actions part.table.words

    selections_judged : JudgesIf (λ (f : ElabFault). is_unknown f.rule) (is_all_there unit.name.letters (all_below modules unit)) selections
    selections_judged = subst (λ (b : Bool). JudgesIf (λ (f : ElabFault). is_unknown f.rule) b selections) there_alike (table_judged is_unknown (scope_paths part) (variable_paths part) (is_something (scope_paths part) (variable_paths part)) (path_judged (scope_paths part) (variable_paths part)) part.table.actions part.table.words)

    abbrev named : Option ElabFault
    named = broken_if (has_double (variable_paths part)) Doubled (Some unit.name)

    abbrev scoped : Option ElabFault
    scoped = broken_if (has_double (scope_paths part)) Doubled (Some unit.name)

    -- where the design is right all is there
    design_there : broken_design unit.name part ≡ None → is_all_there unit.name.letters (all_below modules unit) ≡ true
    design_there right =
        let outer = or_none named (option_or scoped selections) (or_none (option_or named (option_or scoped selections)) (broken_table unit.name part) right).0 in
        subst (JudgesIf (λ (f : ElabFault). is_unknown f.rule) (is_all_there unit.name.letters (all_below modules unit))) (or_none scoped selections outer.1).1 selections_judged

    -- and where the rule is told of it something isn't
    design_lacks : (fault : ElabFault) → fault.rule ≡ Unknown → broken_design unit.name part ≡ Some fault → is_all_there unit.name.letters (all_below modules unit) ≡ false
    design_lacks fault rule broken = whole (or_some (broken_paths unit.name part) (broken_table unit.name part) fault broken)
      where
        not_doubled : (holds : Bool) → broken_if holds Doubled (Some unit.name) ≡ Some fault → ⊥
        not_doubled holds is = untold_fault (λ r. not (is_unknown r)) (broken_if holds Doubled (Some unit.name)) fault Unknown (broken_tells (λ r. not (is_unknown r)) holds Doubled (Some unit.name) refl) refl is rule

        scopes : (scoped ≡ Some fault) ⊎ (selections ≡ Some fault) → is_all_there unit.name.letters (all_below modules unit) ≡ false
        scopes (inl is) = absurd (not_doubled (has_double (scope_paths part)) is)
        scopes (inr is) = subst (JudgesIf (λ (f : ElabFault). is_unknown f.rule) (is_all_there unit.name.letters (all_below modules unit))) is selections_judged (ap is_unknown rule)

        paths : (named ≡ Some fault) ⊎ (option_or scoped selections ≡ Some fault) → is_all_there unit.name.letters (all_below modules unit) ≡ false
        paths (inl is) = absurd (not_doubled (has_double (variable_paths part)) is)
        paths (inr is) = scopes (or_some scoped selections fault is)

        whole : (broken_paths unit.name part ≡ Some fault) ⊎ (broken_table unit.name part ≡ Some fault) → is_all_there unit.name.letters (all_below modules unit) ≡ false
        whole (inl is) = paths (or_some named (option_or scoped selections) fault is)
        whole (inr is) =
            absurd (untold_fault (λ r. not (is_unknown r)) (broken_table unit.name part) fault Unknown (broken_table_tells (λ r. not (is_unknown r)) refl refl refl unit.name part refl) refl is rule)

  -- ---- the law

  port_told : (f : PortFlaw) → f ≡ flaw.Undeclared → (m : ModuleTree) → Contains modules m → IsWrong m f → HasUnknown modules top
  port_told f undeclared m inside (port_doubled e twice) = absurd cc
  port_told f undeclared m inside (block_doubled e twice) = absurd cc
  port_told f undeclared m inside (port_alone e alone) = of_port m inside alone
  port_told f undeclared m inside (variable_input e one) = absurd cc
  port_told f undeclared m inside (valued_net e one) = absurd cc

  names_unknown : (fault : ElabFault) → fault.rule ≡ Unknown → Told modules top fault → HasUnknown modules top
  names_unknown fault rule (in_modules w again other) = absurd cc
  names_unknown fault rule (in_ports wrong is other) =
      let one = one_wrong modules wrong is in
      port_told wrong.flaw (unknown_port wrong.flaw (other ∙ rule)) one.0 one.1 one.2
  names_unknown fault rule (in_top missing other) = absurd cc
  names_unknown fault rule (in_hierarchy unit is_top err) = of_name (unknown_told modules top fault unit rule is_top err)
  names_unknown fault rule (in_design unit part is_top ok broken) = of_path unit is_top (design_lacks unit part ok fault rule broken)

  names_known : (scale : Timescale) (design : Design) → elaborated modules top scale ≡ Ok design → ¬ HasUnknown modules top
  names_known scale design is (of_name misuse) = unknown_never modules top scale design is misuse
  names_known scale design is (of_port m inside alone) = no_port_alone m (all_untold modules (all_elaborated modules top scale design is).ports_right m inside) alone
  names_known scale design is (of_path m is_top lacks) =
      let all = all_elaborated modules top scale design is in
      let same = one_top modules top m all.unit is_top all.is_top in
      true≢false (sym (design_there all.unit all.part all.is_part all.is_right) ∙ sym (ap (λ (u : ModuleTree). is_all_there u.name.letters (all_below modules u)) same) ∙ lacks)

pub unknown_meant : IsMeant Unknown HasUnknown
unknown_meant = record {
  never = names_known;
  told = λ modules top scale fault is rule. names_unknown modules top fault rule (fault_told modules top scale fault is);
}
