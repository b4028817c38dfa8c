-- E310: in a text that has a design each use suits what is used, and no path is a variable's; and in one that is refused under the rule some
-- use doesn't, or some path is.
use Rattle.std.proofs.Common.{◌≡◌, Bool, true, false, true≢false, not, ◌&&◌, ◌||◌, List, [], ◌∷◌, Option, Some, None, Ok, refl, sym, ap, subst, ◌∙◌, ◌⊎◌, inl, inr, if◌then◌else◌, nat_le, length}
use Rattle.std.specs.List.{Contains, list_all}
use Rattle.std.specs.Prelude.{is_some}
use Rattle.std.specs.Option.{option_or}
use Rattle.basis.proofs.Bools.{and_both}
use Rattle.basis.specs.declared.timescale.Timescale.{Timescale}
use Rattle.vwords.specs.Words.{Text}
use Rattle.vast.specs.NumberedModules.{ModuleTree, SourceTree}
use Rattle.vdesign.specs.Design.{Design, Variable}
use Rattle.vdesign.specs.declared.action.Action.{Action}
use Rattle.vmodules.specs.Names.{is_declared, has_double}
use Rattle.velab_expr.specs.declared.fault.Rule.TheVariants.{Doubled, Unknown, TooMany, Kind}
use Rattle.velab_expr.specs.declared.fault.ElabFault.{ElabFault}
use Rattle.velab_expr.specs.Rules.{unless, broken_if}
use Rattle.velab_declaration.specs.Right.{writes_rightly, kind_rule}
use Rattle.velab_declaration.specs.ActionFlaws.{blank_environment, flaw_rule, table_fault}
use Rattle.velab_declaration.specs.Drives.{drivers_fault}
use Rattle.vhierarchy.specs.Instances.{PartialDesign, variable_paths, scope_paths, broken_path, broken_selection, broken_paths, broken_table, broken_design, elaborate_top, elaborated}
use Rattle.elaboration_law.specs.Laws.{IsMeant}
use Rattle.elaboration_law.specs.Uses.{Way, Read, ReadIn, Written, WrittenIn, Driven, DrivenIn, Triggered, Awaited, Use, use_of, use_of_time, use_of_formats, use_of_levels}
use Rattle.elaboration_law.specs.Places.{Thing, a_variable, a_parameter, an_event, an_instance, Place, no_place, thing_of, UseAt, all_fit, used_in_instance, HasMisuse, of_top, of_instance}
use Rattle.elaboration_law.specs.Kinds.{variable_suits, parameter_suits, event_suits, suits, is_suited, formats_fit, selects_no_variable, HasMiskind, of_use, of_input, of_value, of_variable_path}
use Rattle.elaboration_law.specs.Unknowns.{all_below}
use Rattle.velab_declaration.specs.Variables.{Declaration}
use Rattle.velab_expr.specs.Selections.{levels_in}
use Rattle.elaboration_law.proofs.UseLemmas.{first_false, second_false}
use Rattle.elaboration_law.proofs.MisuseLemmas.{used_by_listed}
use Rattle.elaboration_law.proofs.ToldLemmas.{untold_fault}
use Rattle.elaboration_law.proofs.DesignRules.{broken_tells, drivers_tell, unless_tells}
use Rattle.vmodules.specs.declared.misdeclared.PortFlaw.{PortFlaw}
use Rattle.vmodules.specs.declared.misdeclared.PortFlaw.TheVariants as flaw
use Rattle.elaboration_law.proofs.PortLemmas.{IsWrong, port_doubled, block_doubled, port_alone, variable_input, valued_net, one_wrong, all_untold, no_variable_input, no_valued_net}
use Rattle.elaboration_law.proofs.HierarchyLemmas.{Told, in_modules, in_ports, kind_port, in_top, in_hierarchy, in_design, all_elaborated, fault_told}
use Rattle.elaboration_law.proofs.NameLemmas.{variables_are, paths_are, or_none, or_some}
use Rattle.elaboration_law.proofs.DepthLemmas.{one_top}
use Rattle.elaboration_law.proofs.DumpUses.{dumped}
use Rattle.elaboration_law.proofs.PathUses.{JudgesIf, table_judged}
use Rattle.elaboration_law.proofs.UnknownLemmas.{dumped_are}
use Rattle.elaboration_law.proofs.KindUses.{is_kind, any_variable_suits, suits_first, is_suited_first, unsuited_told, unsuited_never}
use Rattle.elaboration_law.proofs.RightLemmas.{all_of_both, action_bits, is_right, writes_told, bits_told}
use Rattle.elaboration_law.proofs.RightUses.{and_true, variable_suits_later, suits_later, is_suited_later}
use Rattle.elaboration_law.proofs.RightInstances.{all_right}
use Rattle.elaboration_law.proofs.RightHierarchy.{wrong_told, right_never}

-- ---- a use suits where it does first, and later

ways_both : (way : Way) (d : Declaration) → variable_suits way d ≡ (any_variable_suits way && variable_suits_later way d)
ways_both Read d = refl
ways_both ReadIn d = refl
ways_both Written d = refl
ways_both WrittenIn d = refl
ways_both Driven d = refl
ways_both DrivenIn d = refl
ways_both Triggered d = refl
ways_both (Awaited edge) d = refl

suits_both : (constant : Bool) (way : Way) (thing : Option Thing) → suits constant way thing ≡ (suits_first constant way thing && suits_later constant way thing)
suits_both constant way None = refl
suits_both true way (Some (a_variable d)) = refl
suits_both false way (Some (a_variable d)) = ways_both way d
suits_both constant way (Some a_parameter) = and_true (parameter_suits way)
suits_both constant way (Some an_event) = and_true (event_suits way)
suits_both constant way (Some an_instance) = refl

use_both : (place : Place) (one : Use) → is_suited place one ≡ (is_suited_first place one && is_suited_later place one)
use_both place (use_of way constant name) = suits_both constant way (thing_of place name)
use_both place (use_of_time constant) = refl
use_both place (use_of_formats arguments) = and_true (formats_fit [] arguments)
use_both place (use_of_levels levels) = and_true (is_some (levels_in levels))

all_both : (list : List UseAt) → all_fit is_suited list ≡ (all_fit is_suited_first list && all_fit is_suited_later list)
all_both list = each list ∙ all_of_both (λ it. is_suited_first it.place it.one) (λ it. is_suited_later it.place it.one) list
  where
    each : (uses : List UseAt) → all_fit is_suited uses ≡ list_all (λ it. is_suited_first it.place it.one && is_suited_later it.place it.one) uses
    each [] = refl
    each (one ∷ more) = λ i. use_both one.place one.one i && each more i

one_false : (a b : Bool) → (a && b) ≡ false → (a ≡ false) ⊎ (b ≡ false)
one_false false b e = inl refl
one_false true b e = inr e

case : {A B C : Type 0} → (A → C) → (B → C) → A ⊎ B → C
case f g (inl a) = f a
case f g (inr b) = g b

module _ (list : List UseAt) where
  first_fails : all_fit is_suited_first list ≡ false → all_fit is_suited list ≡ false
  first_fails e = all_both list ∙ first_false (all_fit is_suited_first list) (all_fit is_suited_later list) e

  later_fails : all_fit is_suited_later list ≡ false → all_fit is_suited list ≡ false
  later_fails e = all_both list ∙ second_false (all_fit is_suited_first list) (all_fit is_suited_later list) e

  one_fails : all_fit is_suited list ≡ false → (all_fit is_suited_first list ≡ false) ⊎ (all_fit is_suited_later list ≡ false)
  one_fails e = one_false (all_fit is_suited_first list) (all_fit is_suited_later list) (sym (all_both list) ∙ e)

module _ (modules : SourceTree) (top : Option Text) where
  misuse_first : HasMisuse is_suited_first modules top → HasMisuse is_suited modules top
  misuse_first (of_top m is_top e) = of_top m is_top (first_fails (used_in_instance m no_place [] [] m.name.letters) e)
  misuse_first (of_instance levels one before name overrides list after child made stands inside there listed e) =
      of_instance levels one before name overrides list after child made stands inside there listed (first_fails (used_by_listed one before overrides child made) e)

  misuse_later : HasMisuse is_suited_later modules top → HasMisuse is_suited modules top
  misuse_later (of_top m is_top e) = of_top m is_top (later_fails (used_in_instance m no_place [] [] m.name.letters) e)
  misuse_later (of_instance levels one before name overrides list after child made stands inside there listed e) =
      of_instance levels one before name overrides list after child made stands inside there listed (later_fails (used_by_listed one before overrides child made) e)

  misuse_either : HasMisuse is_suited modules top → HasMisuse is_suited_first modules top ⊎ HasMisuse is_suited_later modules top
  misuse_either (of_top m is_top e) = case (λ f. inl (of_top m is_top f)) (λ f. inr (of_top m is_top f)) (one_fails (used_in_instance m no_place [] [] m.name.letters) e)
  misuse_either (of_instance levels one before name overrides list after child made stands inside there listed e) =
      case (λ f. inl (of_instance levels one before name overrides list after child made stands inside there listed f)) (λ f. inr (of_instance levels one before name overrides list after child made stands inside there listed f))
      (one_fails (used_by_listed one before overrides child made) e)

-- ---- paths

module _ (scopes variables : List Text) where
  abbrev no_variable : Text → Bool
  no_variable path = is_declared scopes path || not (is_declared variables path)

  path_kind : (path : Text) → JudgesIf is_kind (no_variable path) (broken_path scopes variables path)
  path_kind path = by (is_declared scopes path) (is_declared variables path)
    where
      by : (s v : Bool) → JudgesIf is_kind (s || not v) (if s then None else Some (if v then Kind else Unknown))
      by true v = refl
      by false true = λ e. refl
      by false false = λ e. absurd cc

-- ---- a finished design

both_all : (vs : List Variable) (actions : List Action) → list_all (is_right vs) actions ≡ (list_all (writes_rightly vs) actions && list_all (action_bits vs) actions)
both_all vs actions = all_of_both (writes_rightly vs) (action_bits vs) actions

abbrev of_kind : ElabFault → Bool
of_kind f = is_kind f.rule

module _ (modules : SourceTree) (top : Option Text) (unit : ModuleTree) (part : PartialDesign) (ok : elaborate_top modules unit ≡ Ok part) where
  there_alike : list_all (no_variable (scope_paths part) (variable_paths part)) (dumped part.table) ≡ selects_no_variable unit.name.letters (all_below modules unit)
  there_alike = λ i. list_all (no_variable (paths_are modules top unit part ok i) (variables_are modules top unit part ok i)) (dumped_are modules top unit part ok i)

  abbrev selections : Option ElabFault
  selections = table_fault (broken_selection (scope_paths part) (variable_paths part)) part.table.actions part.table.words

  selections_judged : JudgesIf of_kind (selects_no_variable unit.name.letters (all_below modules unit)) selections
  selections_judged =
      subst (λ (b : Bool). JudgesIf of_kind b selections) there_alike
      (table_judged is_kind (scope_paths part) (variable_paths part) (no_variable (scope_paths part) (variable_paths part)) (path_kind (scope_paths part) (variable_paths part)) part.table.actions part.table.words)

  abbrev named : Option ElabFault
  named = broken_if (has_double (variable_paths part)) Doubled (Some unit.name)

  abbrev scoped : Option ElabFault
  scoped = broken_if (has_double (scope_paths part)) Doubled (Some unit.name)

  abbrev writes : Option ElabFault
  writes = table_fault (kind_rule part.variables) part.table.actions part.table.words

  abbrev bits : Option ElabFault
  bits = table_fault (flaw_rule (blank_environment part.variables)) part.table.actions part.table.words

  abbrev driven : Option ElabFault
  driven = drivers_fault (blank_environment part.variables) [] part.table.actions part.table.words

  abbrev few : Option ElabFault
  few = unless (nat_le (length part.begins) 256) TooMany (Some unit.name)

  -- where it is right
  design_is_right : broken_design unit.name part ≡ None → (selects_no_variable unit.name.letters (all_below modules unit) ≡ true) × (all_right part.variables part.table ≡ true)
  design_is_right right =
      let whole = or_none (broken_paths unit.name part) (broken_table unit.name part) right in
      let outer = or_none named (option_or scoped selections) whole.0 in
      let table = or_none few (option_or writes (option_or bits driven)) whole.1 in
      let both = or_none writes (option_or bits driven) table.1 in (
        subst (JudgesIf of_kind (selects_no_variable unit.name.letters (all_below modules unit))) (or_none scoped selections outer.1).1 selections_judged,
        both_all part.variables part.table.actions
            ∙ and_both (list_all (writes_rightly part.variables) part.table.actions) (list_all (action_bits part.variables) part.table.actions)
            (subst (JudgesIf of_kind (list_all (writes_rightly part.variables) part.table.actions)) both.0 (writes_told part.variables part.table.actions part.table.words))
            (subst (JudgesIf of_kind (list_all (action_bits part.variables) part.table.actions)) (or_none bits driven both.1).0 (bits_told part.variables part.table.actions part.table.words)),
      )

  -- and where the rule is told of it
  design_is_wrong : (fault : ElabFault) → fault.rule ≡ Kind → broken_design unit.name part ≡ Some fault →
      (selects_no_variable unit.name.letters (all_below modules unit) ≡ false) ⊎ (all_right part.variables part.table ≡ false)
  design_is_wrong fault rule broken = whole (or_some (broken_paths unit.name part) (broken_table unit.name part) fault broken)
    where
      not_doubled : (holds : Bool) → broken_if holds Doubled (Some unit.name) ≡ Some fault → ⊥
      not_doubled holds is = untold_fault (λ r. not (is_kind r)) (broken_if holds Doubled (Some unit.name)) fault Kind (broken_tells (λ r. not (is_kind r)) holds Doubled (Some unit.name) refl) refl is rule

      scopes : (scoped ≡ Some fault) ⊎ (selections ≡ Some fault) → selects_no_variable unit.name.letters (all_below modules unit) ≡ false
      scopes (inl is) = absurd (not_doubled (has_double (scope_paths part)) is)
      scopes (inr is) = subst (JudgesIf of_kind (selects_no_variable unit.name.letters (all_below modules unit))) is selections_judged (ap is_kind rule)

      paths : (named ≡ Some fault) ⊎ (option_or scoped selections ≡ Some fault) → selects_no_variable unit.name.letters (all_below modules unit) ≡ false
      paths (inl is) = absurd (not_doubled (has_double (variable_paths part)) is)
      paths (inr is) = scopes (or_some scoped selections fault is)

      sized : (bits ≡ Some fault) ⊎ (driven ≡ Some fault) → all_right part.variables part.table ≡ false
      sized (inl is) =
          both_all part.variables part.table.actions
          ∙ second_false (list_all (writes_rightly part.variables) part.table.actions) (list_all (action_bits part.variables) part.table.actions) (subst (JudgesIf of_kind (list_all (action_bits part.variables) part.table.actions)) is (bits_told part.variables part.table.actions part.table.words) (ap is_kind rule))
      sized (inr is) =
          absurd (untold_fault (λ r. not (is_kind r)) driven fault Kind (drivers_tell (λ r. not (is_kind r)) refl (blank_environment part.variables) [] part.table.actions part.table.words) refl is rule)

      both : (writes ≡ Some fault) ⊎ (option_or bits driven ≡ Some fault) → all_right part.variables part.table ≡ false
      both (inl is) =
          both_all part.variables part.table.actions
          ∙ first_false (list_all (writes_rightly part.variables) part.table.actions) (list_all (action_bits part.variables) part.table.actions) (subst (JudgesIf of_kind (list_all (writes_rightly part.variables) part.table.actions)) is (writes_told part.variables part.table.actions part.table.words) (ap is_kind rule))
      both (inr is) = sized (or_some bits driven fault is)

      table : (few ≡ Some fault) ⊎ (option_or writes (option_or bits driven) ≡ Some fault) → all_right part.variables part.table ≡ false
      table (inl is) =
          absurd (untold_fault (λ r. not (is_kind r)) few fault Kind (unless_tells (λ r. not (is_kind r)) (nat_le (length part.begins) 256) TooMany (Some unit.name) refl) refl is rule)
      table (inr is) = both (or_some writes (option_or bits driven) fault is)

      whole : (broken_paths unit.name part ≡ Some fault) ⊎ (broken_table unit.name part ≡ Some fault) →
          (selects_no_variable unit.name.letters (all_below modules unit) ≡ false) ⊎ (all_right part.variables part.table ≡ false)
      whole (inl is) = inl (paths (or_some named (option_or scoped selections) fault is))
      whole (inr is) = inr (table (or_some few (option_or writes (option_or bits driven)) fault is))

-- ---- the law

module _ (modules : SourceTree) (top : Option Text) where
  port_told : (f : PortFlaw) → (f ≡ flaw.Input) ⊎ (f ≡ flaw.Valued) → (m : ModuleTree) → Contains modules m → IsWrong m f → HasMiskind modules top
  port_told f (inl input) m inside (port_doubled e twice) = absurd cc
  port_told f (inr value) m inside (port_doubled e twice) = absurd cc
  port_told f (inl input) m inside (block_doubled e twice) = absurd cc
  port_told f (inr value) m inside (block_doubled e twice) = absurd cc
  port_told f (inl input) m inside (port_alone e alone) = absurd cc
  port_told f (inr value) m inside (port_alone e alone) = absurd cc
  port_told f kind m inside (variable_input e one) = of_input m inside one
  port_told f kind m inside (valued_net e one) = of_value m inside one

  kinds_told : (fault : ElabFault) → fault.rule ≡ Kind → Told modules top fault → HasMiskind modules top
  kinds_told fault rule (in_modules w again other) = absurd cc
  kinds_told fault rule (in_ports wrong is other) =
      let one = one_wrong modules wrong is in
      port_told wrong.flaw (kind_port wrong.flaw (other ∙ rule)) one.0 one.1 one.2
  kinds_told fault rule (in_top missing other) = absurd cc
  kinds_told fault rule (in_hierarchy unit is_top err) = of_use (misuse_first modules top (unsuited_told modules top fault unit rule is_top err))
  kinds_told fault rule (in_design unit part is_top ok broken) = by (design_is_wrong modules top unit part ok fault rule broken)
    where
      by : (selects_no_variable unit.name.letters (all_below modules unit) ≡ false) ⊎ (all_right part.variables part.table ≡ false) → HasMiskind modules top
      by (inl e) = of_variable_path unit is_top e
      by (inr e) = of_use (misuse_later modules top (wrong_told modules top unit part is_top ok e))

  kinds_never : (scale : Timescale) (design : Design) → elaborated modules top scale ≡ Ok design → ¬ HasMiskind modules top
  kinds_never scale design is (of_use misuse) = by (misuse_either modules top misuse)
    where
      by : HasMisuse is_suited_first modules top ⊎ HasMisuse is_suited_later modules top → ⊥
      by (inl first) = unsuited_never modules top scale design is first
      by (inr later) =
          let all = all_elaborated modules top scale design is in
          right_never modules top all.unit all.part all.is_top all.is_part (design_is_right modules top all.unit all.part all.is_part all.is_right).1 later
  kinds_never scale design is (of_input m inside one) = no_variable_input m (all_untold modules (all_elaborated modules top scale design is).ports_right m inside) one
  kinds_never scale design is (of_value m inside one) = no_valued_net m (all_untold modules (all_elaborated modules top scale design is).ports_right m inside) one
  kinds_never scale design is (of_variable_path m is_top lacks) =
      let all = all_elaborated modules top scale design is in
      let same = one_top modules top m all.unit is_top all.is_top in
      true≢false (sym (design_is_right modules top all.unit all.part all.is_part all.is_right).0 ∙ sym (ap (λ (u : ModuleTree). selects_no_variable u.name.letters (all_below modules u)) same) ∙ lacks)

pub kinds_meant : IsMeant Kind HasMiskind
kinds_meant = record {
  never = kinds_never;
  told = λ modules top scale fault is rule. kinds_told modules top fault rule (fault_told modules top scale fault is);
}
