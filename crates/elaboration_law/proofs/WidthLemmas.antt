-- E306: in a text that has a design all sizes are right, and in one that is refused under the rule one isn't.
use Rattle.std.proofs.Common.{◌≡◌, ℕ, zero, suc, ◌+◌, nat_le, Bool, true, false, true≢false, not, ◌&&◌, if◌then◌else◌, List, [], ◌∷◌, ◌++◌, map, length, slice_get, unwrap_or, Option, None, Some, Result, Ok, Err, refl, sym, ap, ◌∙◌, ◌⊎◌, inl, inr, subst, append_assoc}
use Rattle.std.specs.Prelude.{option_map, drop}
use Rattle.std.specs.List.{list_all, flat_map}
use Rattle.std.specs.Option.{option_or}
use Rattle.std.proofs.lemmas.List.{map-append, append-nil}
use Rattle.std.proofs.lemmas.List.Folds.{list_all-append}
use Rattle.basis.proofs.Bools.{and_assoc}
use Rattle.basis.specs.declared.timescale.Timescale.{Timescale}
use Rattle.vwords.specs.Words.{Text}
use Rattle.vast.specs.NumberedWords.{Word}
use Rattle.vast.specs.NumberedModules.{ConnectionsTree, InstanceTree, ItemTree, parameters, declaration, events, assignments, initial, always, instances, ModuleTree, SourceTree}
use Rattle.vmodules.specs.Names.{letters_of}
use Rattle.vmodules.specs.Hierarchy.{module_of}
use Rattle.vmodules.specs.Ports.{ports_of}
use Rattle.vmodules.specs.Connected.{open_names, misfit, misfit_if}
use Rattle.vdesign.specs.Design.{Design, Variable}
use Rattle.vdesign.specs.declared.action.Action.{Action}
use Rattle.vvalue.specs.Value.{Environment}
use Rattle.vvalue.specs.declared.flaw.Flaw.{Flaw}
use Rattle.vvalue.specs.declared.flaw.Flaw.TheVariants.{NoBits, Size}
use Rattle.velab_expr.specs.declared.fault.Rule.{Rule}
use Rattle.velab_expr.specs.declared.fault.Rule.TheVariants.{Doubled, Ports, TooMany, Kind, Width}
use Rattle.velab_expr.specs.declared.fault.ElabFault.{ElabFault}
use Rattle.velab_expr.specs.Answers.{◌>>=◌, require}
use Rattle.velab_expr.specs.Rules.{rule_of, unless}
use Rattle.velab_expr.specs.Scopes.{Scope}
use Rattle.velab_expr.specs.Symbols.{symbols_by}
use Rattle.velab_declaration.specs.Right.{writes_rightly, kind_rule}
use Rattle.velab_declaration.specs.ActionFlaws.{blank_environment, first_flaw, action_flaw, flaw_rule, table_fault}
use Rattle.velab_declaration.specs.Variables.{port_names}
use Rattle.velab_declaration.specs.Drives.{drivers_fault}
use Rattle.vhierarchy.specs.Instances.{Instantiation, instantiation_by, lower_instance, lower_list, named_again, lower_instances_of, lower_instances_by, lower_instances, PartialDesign, Context, lower_own_variables, lower_own_processes, with_own, few_enough, child_context, each, elaborate_instance, nothing, no_scope, top_context, elaborate_top, broken_paths, broken_table, broken_design, elaborated}
use Rattle.elaboration_law.specs.Laws.{IsMeant}
use Rattle.elaboration_law.specs.Widths.{Worth}
use Rattle.elaboration_law.specs.Worths.{nothing_known, are_set_in, are_ranged}
use Rattle.elaboration_law.specs.WrongWidths.{Instantiated, constants_in, worth_in, has_right_widths, top_instantiated, instantiated_as, instantiated_of, instantiated_by, instantiated_below, HasWrongWidth}
use Rattle.elaboration_law.proofs.StepLemmas.{same_value, then_ok, barring_ok, provided_ok, required_ok}
use Rattle.elaboration_law.proofs.UseLemmas.{Judges, first_false, second_false}
use Rattle.elaboration_law.proofs.ToldLemmas.{TellsFault, TellsRule}
use Rattle.elaboration_law.proofs.DesignRules.{table_tells, drivers_tell, unless_tells, broken_paths_tell}
use Rattle.elaboration_law.proofs.HierarchyLemmas.{Told, in_modules, in_ports, is_of_ports, of_ports, in_top, in_hierarchy, in_design, Own, OwnFault, in_names, in_instances, in_own, below, opened_ok, opened_err, all_elaborated, fault_told}
use Rattle.velab_process.specs.Processes.{Processes}
use Rattle.elaboration_law.proofs.DepthLemmas.{one_top}
use Rattle.elaboration_law.proofs.PathUses.{JudgesIf, or_judged}
use Rattle.elaboration_law.proofs.SizeLemmas.{none_sized}
use Rattle.elaboration_law.proofs.RightUses.{and_true}
use Rattle.elaboration_law.proofs.ExpressionWidths.{is_width, Says}
use Rattle.elaboration_law.proofs.StatementWidths as widths
use Rattle.elaboration_law.proofs.StatementWidths.{table_flaw, of_processes}
use Rattle.elaboration_law.proofs.InstanceTold.{instances_quiet, IsRound, round_more, Carries, carried, instantiated, connected, processed, names_judged, round_here, processes_told, right_is, own_wrong}

-- ---- the instances in a module

module _ (named : Text → Worth) where
  abbrev made_as : Instantiation → Instantiated
  made_as c = record { unit = c.child; outside = named; values = c.values; connections = c.connections }

  list_is : (child : ModuleTree) (known : ℕ) (overrides : Option ConnectionsTree) (list : List InstanceTree) (children : List Instantiation) →
      lower_list child known overrides list ≡ Ok children → map made_as children ≡ map (instantiated_as named overrides child) list
  list_is child known overrides [] children is = sym (ap (map made_as) (same_value [] children is))
  list_is child known overrides (one ∷ more) children is =
      let front = then_ok (lower_instance child known overrides one) (λ front. lower_list child known overrides more >>= λ others. Ok (front ∷ others)) children is in
      let others = then_ok (lower_list child known overrides more) (λ others. Ok (front.0 ∷ others)) children front.2 in
      let fits = barring_ok (misfit_if one.name (letters_of (open_names child)) overrides) Ports _ front.0 front.1 in
      let joined = barring_ok (misfit one.name (letters_of (port_names child)) one.connections) Ports _ front.0 fits.1 in
      let same = same_value (instantiation_by child known overrides one) front.0 joined.1 in
      sym (ap (map made_as) (same_value (front.0 ∷ others.0) children others.2))
      ∙ λ i. made_as (sym same i) ∷ list_is child known overrides more others.0 others.1 i

  of_is : (name : Word) (before known : ℕ) (child : Option ModuleTree) (overrides : Option ConnectionsTree) (list : List InstanceTree) (children : List Instantiation) →
      lower_instances_of name before known child overrides list ≡ Ok children → map made_as children ≡ instantiated_of named overrides child list
  of_is name before known None overrides list children is = absurd cc
  of_is name before known (Some child) overrides list children is =
      list_is child known overrides list children (barring_ok (named_again child) Doubled _ children (provided_ok _ TooMany (Some name) _ children is).1).1

  module _ (modules : SourceTree) where
    by_is : (before known : ℕ) (item : ItemTree) (children : List Instantiation) → lower_instances_by modules before known item ≡ Ok children →
        map made_as children ≡ instantiated_by modules named item
    by_is before known (parameters local type settings) children is = sym (ap (map made_as) (same_value [] children is))
    by_is before known (declaration kind list) children is = sym (ap (map made_as) (same_value [] children is))
    by_is before known (events names) children is = sym (ap (map made_as) (same_value [] children is))
    by_is before known (assignments settings) children is = sym (ap (map made_as) (same_value [] children is))
    by_is before known (initial statement) children is = sym (ap (map made_as) (same_value [] children is))
    by_is before known (always statement) children is = sym (ap (map made_as) (same_value [] children is))
    by_is before known (instances name overrides list) children is = of_is name before known (module_of modules name.letters) overrides list children is

    children_are : (before known : ℕ) (items : List ItemTree) (children : List Instantiation) → lower_instances modules before known items ≡ Ok children →
        map made_as children ≡ flat_map (instantiated_by modules named) items
    children_are before known [] children is = sym (ap (map made_as) (same_value [] children is))
    children_are before known (item ∷ more) children is =
        let front = then_ok (lower_instances_by modules before known item)
        (λ front. lower_instances modules (before + length front) (known + length (symbols_by item)) more >>= λ others. Ok (front ++ others)) children is in
        let others = then_ok (lower_instances modules (before + length front.0) (known + length (symbols_by item)) more) (λ others. Ok (front.0 ++ others)) children front.2 in
        sym (ap (map made_as) (same_value (front.0 ++ others.0) children others.2))
        ∙ map-append made_as front.0 others.0
        ∙ (λ i. by_is before known item front.0 front.1 i ++ children_are (before + length front.0) (known + length (symbols_by item)) more others.0 others.1 i)

-- ---- the hierarchy

-- what was added to a part: it has no flaw only where this holds, and where a size is told it doesn't
abbrev Grows : PartialDesign → Bool → Result PartialDesign ElabFault → Type 0
Grows part holds (Ok all) = (more : List Variable) × (part.variables ++ more ≡ all.variables) × Carries all holds
Grows part holds (Err fault) = is_width fault.rule ≡ true → holds ≡ false

module _ (modules : SourceTree) where
  abbrev right_below : ℕ → Instantiated → Bool
  right_below levels one = list_all has_right_widths (instantiated_below levels modules one)

  -- of each instance
  abbrev AllGrow : ℕ → Type 0
  AllGrow levels = (part : PartialDesign) (context : Context) (outside : Text → Worth) (t : Bool) → IsRound part.variables context.overrides.scope outside → Carries part t →
      Grows part (t && right_below levels (instantiated outside context)) (elaborate_instance levels modules part context)

  module _ (levels : ℕ) (rest : AllGrow levels) (scope : Scope) (context : Context) (named : Text → Worth) where
    abbrev step : PartialDesign → Instantiation → Result PartialDesign ElabFault
    step so_far c = elaborate_instance levels modules so_far (child_context scope context c)

    abbrev all_below : List Instantiation → Bool
    all_below list = list_all has_right_widths (flat_map (instantiated_below levels modules) (map (made_as named) list))

    further : (part next : PartialDesign) (holds : Bool) (a : Result PartialDesign ElabFault) → (more : List Variable) → part.variables ++ more ≡ next.variables → Grows next holds a → Grows part holds a
    further part next holds (Ok all) more is h =
        (more ++ h.0, sym (append_assoc part.variables more h.0) ∙ ap (λ (l : List Variable). l ++ h.0) is ∙ h.1, h.2)
    further part next holds (Err fault) more is h = h

    each_grow : (list : List Instantiation) (part : PartialDesign) (t : Bool) → IsRound part.variables scope named → Carries part t → Grows part (t && all_below list) (each step part list)
    each_grow [] part true round h = ([], append-nil part.variables, h)
    each_grow [] part false round h = ([], append-nil part.variables, h)
    each_grow (c ∷ more) part t round h =
        by (step part c) (rest part (child_context scope context c) named t (record { vectors = round.vectors; agrees = λ others. let it = round.agrees others in record { of_parameter = it.of_parameter; of_variable = it.of_variable } }) h)
        (λ next r k. each_grow more next (t && here) r k)
      where
        here : Bool
        here = right_below levels (made_as named c)

        whole : (t && all_below (c ∷ more)) ≡ ((t && here) && all_below more)
        whole =
            ap (λ (b : Bool). t && b) (list_all-append has_right_widths (instantiated_below levels modules (made_as named c)) (flat_map (instantiated_below levels modules) (map (made_as named) more)))
            ∙ sym (and_assoc t here (all_below more))

        by : (a : Result PartialDesign ElabFault) → Grows part (t && here) a → ((next : PartialDesign) → IsRound next.variables scope named → Carries next (t && here) →
            Grows next ((t && here) && all_below more) (each step next more)) →
            Grows part (t && all_below (c ∷ more)) (a >>= λ next. each step next more)
        by (Ok next) g others =
            subst (λ (b : Bool). Grows part b (each step next more)) (sym whole)
            (further part next ((t && here) && all_below more) (each step next more) g.0 g.1
            (others next (subst (λ (l : List Variable). IsRound l scope named) g.1 (round_more part.variables g.0 scope named round)) g.2))
        by (Err fault) g others = λ e. whole ∙ first_false (t && here) (all_below more) (g e)

  -- an instance, where it holds of those in it
  module _ (levels : ℕ) (rest : AllGrow levels) (part : PartialDesign) (context : Context) (outside : Text → Worth) (t : Bool) (round : IsRound part.variables context.overrides.scope outside) (h : Carries part t) where
    abbrev one : Instantiated
    one = instantiated outside context

    abbrev inside : Bool
    inside = list_all has_right_widths (flat_map (instantiated_below levels modules) (flat_map (instantiated_by modules (worth_in one)) context.unit.items))

    abbrev all : Bool
    all = t && (has_right_widths one && inside)

    own_false : (t && has_right_widths one) ≡ false → all ≡ false
    own_false e = sym (and_assoc t (has_right_widths one) inside) ∙ first_false (t && has_right_widths one) inside e

    -- behind its own steps
    behind : (own : Own modules part context) → Grows part all (below modules levels part context own.scope own.children own.whole)
    behind own =
        subst (λ (p : PartialDesign). Grows part all (below modules levels part context own.scope own.children p)) enough.1
        (subst (λ (b : Bool). Grows part b (below modules levels part context own.scope own.children whole)) same
        (further levels rest own.scope context (worth_in one) part whole ((t && has_right_widths one) && all_below levels rest own.scope context (worth_in one) own.children) (below modules levels part context own.scope own.children whole) made.0 refl
        (each_grow levels rest own.scope context (worth_in one) own.children whole (t && has_right_widths one) (round_here part context outside round own.scope own.names_are made.0 made.1) carries)))
      where
        made : (vs : List Variable) × (lower_own_variables context (ports_of context.unit) own.scope ≡ Ok vs)
            × ((lower_own_processes context (ports_of context.unit) own.scope part.table >>= λ ps. few_enough context.name (with_own context own.scope part vs ps)) ≡ Ok own.whole)
        made = then_ok (lower_own_variables context (ports_of context.unit) own.scope)
            (λ vs. lower_own_processes context (ports_of context.unit) own.scope part.table >>= λ ps. few_enough context.name (with_own context own.scope part vs ps)) own.whole own.own_is

        processes : (ps : Processes) × (lower_own_processes context (ports_of context.unit) own.scope part.table ≡ Ok ps) × (few_enough context.name (with_own context own.scope part made.0 ps) ≡ Ok own.whole)
        processes = then_ok (lower_own_processes context (ports_of context.unit) own.scope part.table) (λ ps. few_enough context.name (with_own context own.scope part made.0 ps)) own.whole made.2

        whole : PartialDesign
        whole = with_own context own.scope part made.0 processes.0

        enough : (nat_le (length whole.scopes) 1025 ≡ true) × (whole ≡ own.whole)
        enough =
            required_ok (nat_le (length whole.scopes) 1025) TooMany (Some context.name) whole own.whole
            (provided_ok (nat_le (length whole.begins) 256) TooMany (Some context.name) (require (nat_le (length whole.scopes) 1025) TooMany (Some context.name) whole) own.whole processes.2).1

        carries : Carries whole (t && has_right_widths one)
        carries others =
            subst (λ (b : Bool). Says (table_flaw (blank_environment (whole.variables ++ others)) whole.table) (t && b)) (sym (right_is part context outside round own.scope own.names_are made.0 made.1))
            (subst (widths.Told (of_processes (blank_environment (whole.variables ++ others))) (t && (connected part context outside round && processed part context outside round))) processes.1
            (processes_told part context outside round own.scope own.names_are made.0 made.1 others part.table t (carried part made.0 t h others)))

        same : ((t && has_right_widths one) && all_below levels rest own.scope context (worth_in one) own.children) ≡ all
        same =
            and_assoc t (has_right_widths one) (all_below levels rest own.scope context (worth_in one) own.children)
            ∙ ap (λ (l : List Instantiated). t && (has_right_widths one && list_all has_right_widths (flat_map (instantiated_below levels modules) l)))
            (children_are (worth_in one) modules 0 own.scope.known context.unit.items own.children own.instances_are)

    of_own : (fault : ElabFault) → is_width fault.rule ≡ true → OwnFault modules part context fault → all ≡ false
    of_own fault width (in_names err) =
        let set = are_set_in outside context.overrides.values context.unit in
        let others = are_ranged (constants_in one) context.unit && (connected part context outside round && processed part context outside round) in
        own_false (second_false t (has_right_widths one) (first_false set others (subst (Judges is_width set) err (names_judged part context outside round) width)))
    of_own fault width (in_instances scope names err) =
        absurd (true≢false (sym width ∙ subst widths.Quiet err (instances_quiet modules 0 scope.known context.unit.items)))
    of_own fault width (in_own scope children names wanted err) = own_false (own_wrong part context outside round scope names t h fault width err)

    grows : (a : Result PartialDesign ElabFault) → elaborate_instance (suc levels) modules part context ≡ a → Grows part all a
    grows (Ok p) is = let opened = opened_ok modules levels part context p is in subst (Grows part all) opened.1 (behind opened.0)
    grows (Err fault) is = λ e. told e (opened_err modules levels part context fault is)
      where
        told : is_width fault.rule ≡ true → OwnFault modules part context fault ⊎ ((own : Own modules part context) × (below modules levels part context own.scope own.children own.whole ≡ Err fault)) → all ≡ false
        told e (inl own) = of_own fault e own
        told e (inr (own, err)) = subst (Grows part all) err (behind own) e

  all_grow : (levels : ℕ) → AllGrow levels
  all_grow zero part context outside t round h = λ e. absurd cc
  all_grow (suc levels) part context outside t round h =
      grows levels (λ p c o b r k. all_grow levels p c o b r k) part context outside t round h (elaborate_instance (suc levels) modules part context) refl

-- ---- a finished design

abbrev of_width : ElabFault → Bool
of_width f = is_width f.rule

abbrev none_of_width : Rule → Bool
none_of_width rule = not (is_width rule)

table_judged : (now : Environment) (actions : List Action) (words : List (Option ℕ)) (holds : Bool) → Says (first_flaw (action_flaw now) actions) holds →
    JudgesIf of_width holds (table_fault (flaw_rule now) actions words)
table_judged now [] words holds h = h
table_judged now (action ∷ more) words holds h = by (action_flaw now action) h (λ k. table_judged now more (drop 1 words) holds k)
  where
    by : (flaw : Option Flaw) → Says (option_or flaw (first_flaw (action_flaw now) more)) holds →
        (Says (first_flaw (action_flaw now) more) holds → JudgesIf of_width holds (table_fault (flaw_rule now) more (drop 1 words))) →
        JudgesIf of_width holds (option_or (option_map (λ r. record { rule = r; at = unwrap_or (slice_get words 0) None }) (option_map rule_of flaw)) (table_fault (flaw_rule now) more (drop 1 words)))
    by None h rest = rest h
    by (Some NoBits) h rest = λ e. absurd cc
    by (Some Size) h rest = λ e. h

not_of_width : (fault : Option ElabFault) → TellsFault none_of_width fault → JudgesIf of_width true fault
not_of_width None h = refl
not_of_width (Some f) h = by (is_width f.rule) h
  where
    by : (b : Bool) → not b ≡ true → b ≡ true → true ≡ false
    by true h e = sym h
    by false h e = sym e

module _ (top : Word) (part : PartialDesign) (holds : Bool) (carries : Carries part holds) where
  design_judged : JudgesIf of_width holds (broken_design top part)
  design_judged =
      or_judged of_width true holds (broken_paths top part) (broken_table top part) (not_of_width (broken_paths top part) (broken_paths_tell none_of_width refl refl top part refl))
      (or_judged of_width true holds few (option_or writes (option_or flaws driven)) (not_of_width few (unless_tells none_of_width (nat_le (length part.begins) 256) TooMany (Some top) refl))
      (or_judged of_width true holds writes (option_or flaws driven) (not_of_width writes (table_tells none_of_width (kind_rule part.variables) kind_tells part.table.actions part.table.words))
      (subst (λ (b : Bool). JudgesIf of_width b (option_or flaws driven)) (sym (and_true holds))
      (or_judged of_width holds true flaws driven
      (table_judged (blank_environment part.variables) part.table.actions part.table.words holds
      (subst (λ (l : List Variable). Says (table_flaw (blank_environment l) part.table) holds) (append-nil part.variables) (carries [])))
      (not_of_width driven (drivers_tell none_of_width refl (blank_environment part.variables) [] part.table.actions part.table.words))))))
    where
      few : Option ElabFault
      few = unless (nat_le (length part.begins) 256) TooMany (Some top)

      writes : Option ElabFault
      writes = table_fault (kind_rule part.variables) part.table.actions part.table.words

      flaws : Option ElabFault
      flaws = table_fault (flaw_rule (blank_environment part.variables)) part.table.actions part.table.words

      driven : Option ElabFault
      driven = drivers_fault (blank_environment part.variables) [] part.table.actions part.table.words

      kind_tells : (action : Action) → TellsRule none_of_width (kind_rule part.variables action)
      kind_tells action = by (writes_rightly part.variables action)
        where
          by : (right : Bool) → TellsRule none_of_width (if right then None else Some Kind)
          by true = tt
          by false = refl

-- ---- the law

abbrev all_right : SourceTree → ModuleTree → Bool
all_right modules m = list_all has_right_widths (instantiated_below 16 modules (top_instantiated m))

nowhere_round : IsRound [] no_scope nothing_known
nowhere_round = record {
  vectors = λ letters. none_sized;
  agrees = λ rest. record { of_parameter = λ name value bounds before is. absurd cc; of_variable = λ name number fixed is. absurd cc };
}

top_grows : (modules : SourceTree) (m : ModuleTree) → Grows nothing (all_right modules m) (elaborate_top modules m)
unfolding elaborate_top
top_grows modules m = all_grow modules 16 nothing (top_context m) nothing_known true nowhere_round (λ rest. refl)

module _ (modules : SourceTree) (top : Option Text) where
  design_right : (unit : ModuleTree) (part : PartialDesign) → elaborate_top modules unit ≡ Ok part → JudgesIf of_width (all_right modules unit) (broken_design unit.name part)
  design_right unit part ok =
      design_judged unit.name part (all_right modules unit) (subst (Grows nothing (all_right modules unit)) ok (top_grows modules unit)).2

  widths_told : (fault : ElabFault) → fault.rule ≡ Width → Told modules top fault → HasWrongWidth modules top
  widths_told fault rule (in_modules w again other) = absurd cc
  widths_told fault rule (in_ports m is other) = absurd (let no = sym (of_ports m fault.rule other) ∙ ap is_of_ports rule in cc)
  widths_told fault rule (in_top missing other) = absurd cc
  widths_told fault rule (in_hierarchy unit is_top err) =
      record { unit = unit; is_top = is_top; wrong = subst (Grows nothing (all_right modules unit)) err (top_grows modules unit) (ap is_width rule) }
  widths_told fault rule (in_design unit part is_top ok broken) =
      record { unit = unit; is_top = is_top; wrong = subst (JudgesIf of_width (all_right modules unit)) broken (design_right unit part ok) (ap is_width rule) }

  widths_never : (scale : Timescale) (design : Design) → elaborated modules top scale ≡ Ok design → ¬ HasWrongWidth modules top
  widths_never scale design is w =
      let all = all_elaborated modules top scale design is in
      let same = one_top modules top w.unit all.unit w.is_top all.is_top in
      let right = subst (JudgesIf of_width (all_right modules all.unit)) all.is_right (design_right all.unit all.part all.is_part) in
      true≢false (sym right ∙ sym (ap (all_right modules) same) ∙ w.wrong)

pub widths_meant : IsMeant Width HasWrongWidth
widths_meant = record {
  never = widths_never;
  told = λ modules top scale fault is rule. widths_told modules top fault rule (fault_told modules top scale fault is);
}
