-- The own steps of an instance: what they add to a design has no flaw only where its sizes are right; and where a size is told, they aren't.
use Rattle.std.proofs.Common.{◌≡◌, ℕ, ◌+◌, nat_le, Bool, true, false, ◌&&◌, List, [], ◌∷◌, ◌++◌, map, length, slice_get, Option, None, Some, Result, Ok, Err, refl, sym, ap, ◌∙◌, ◌⊎◌, inl, inr, if◌then◌else◌, subst, arith, append_assoc}
use Rattle.std.specs.List.{list_all}
use Rattle.std.specs.Option.{option_or}
use Rattle.std.proofs.lemmas.Bool.Decides.{nat_tests}
use Rattle.basis.proofs.Bools.{and_assoc}
use Rattle.vwords.specs.Words.{Text}
use Rattle.vast.specs.NumberedWords.{Word}
use Rattle.vast.specs.NumberedExpressions as text
use Rattle.vast.specs.NumberedStatements.{TargetTree, whole}
use Rattle.vast.specs.NumberedModules.{ConnectionsTree, InstanceTree, ItemTree, parameters, declaration, events, assignments, initial, always, instances, ModuleTree, SourceTree}
use Rattle.vmodules.specs.Names.{is_declared, letters_of, first_again}
use Rattle.vmodules.specs.Hierarchy.{module_of}
use Rattle.vmodules.specs.Ports.{Port, plain_names, is_plain_list, own_items, ports_of, process_items}
use Rattle.vmodules.specs.Placed.{placed_items}
use Rattle.elaboration_law.proofs.PlacedWidths.{items_sized}
use Rattle.vmodules.specs.Connected.{NamedConnection, open_names, misfit, misfit_if, value_for}
use Rattle.vdesign.specs.Design.{Variable}
use Rattle.vvalue.specs.Value.{Environment}
use Rattle.vvalue.specs.Flaws.{flaw_of, targets_flaw}
use Rattle.velab_expr.specs.declared.fault.Rule.TheVariants.{Doubled, Ports, TooMany}
use Rattle.velab_expr.specs.declared.fault.ElabFault.{ElabFault}
use Rattle.velab_expr.specs.Answers.{◌>>=◌, answer_if}
use Rattle.velab_expr.specs.Constants.{nothing}
use Rattle.velab_expr.specs.Resolved.{lower_expression}
use Rattle.velab_expr.specs.Scopes.{Scope, at}
use Rattle.velab_expr.specs.Written.{lower_net_target, target_of}
use Rattle.velab_expr.specs.Symbols.{symbols_by}
use Rattle.velab_declaration.specs.ActionFlaws.{action_flaw, blank_environment}
use Rattle.velab_declaration.specs.Parameters.{item_scope}
use Rattle.velab_declaration.specs.Variables.{port_declaration, declarations, port_names, declared_names, port_scope, lower_ports, lower_variables}
use Rattle.velab_process.specs.Statements.{Table}
use Rattle.velab_process.specs.Processes.{Processes, with_begins_before, lower_items}
use Rattle.velab_process.specs.Connections.{lower_input, lower_output, lower_connection, lower_join, lower_joins}
use Rattle.vhierarchy.specs.Instances.{unless_word, lower_instance, lower_list, named_again, lower_instances_of, lower_instances_by, lower_instances, PartialDesign, Context, base_of, has_room, lower_names, lower_own, lower_own_variables, lower_own_processes, with_own, few_enough}
use Rattle.elaboration_law.specs.Widths.{Worth, is_sized, is_target}
use Rattle.elaboration_law.specs.Worths.{are_set_in, are_ranged, is_port_ranged, is_item_ranged}
use Rattle.elaboration_law.specs.WrongWidths.{is_sized_output, is_sized_at, is_sized_connection, Instantiated, constants_in, worth_in, is_connected, is_sized_item, has_right_widths}
use Rattle.elaboration_law.proofs.StepLemmas.{then_err, few_err}
use Rattle.elaboration_law.proofs.UseLemmas.{Judges, first_false, second_false, two_judge, last_judges, barring_judges, provided_judges}
use Rattle.elaboration_law.proofs.RightUses.{and_true}
use Rattle.elaboration_law.proofs.PlaceLemmas.{got_in_front, got_behind, got_mapped, item_scope_of, names_stand, scope_keeps}
use Rattle.elaboration_law.proofs.SizeLemmas.{IsSize, AreVectors}
use Rattle.elaboration_law.proofs.ExpressionWidths.{is_width, Says, both_say, AreWorth, worth_of_constants}
use Rattle.elaboration_law.proofs.ParameterWidths.{IsWorth, AllAdded}
use Rattle.elaboration_law.proofs.InstanceWidths.{scope_sizes, ports_judged, items_judged}
use Rattle.elaboration_law.proofs.VariableWidths.{variable_by, AreDeclared, both_declared, ports_declared, items_declared}
use Rattle.elaboration_law.proofs.InstanceWorths.{all_in, names_sized, worth_here}
use Rattle.elaboration_law.proofs.StatementWidths.{Told, Quiet, goes_on, quiet_then, table_flaw, of_processes, acted, begun, expression_told, target_told, with_true, items_told}

-- ---- the instances that it wants: no size is told of them

ports_quiet : {A : Type 0} (word : Option Word) (a : Result A ElabFault) → Quiet a → Quiet (unless_word word Ports a)
ports_quiet None a h = h
ports_quiet (Some word) a h = refl

doubled_quiet : {A : Type 0} (word : Option Word) (a : Result A ElabFault) → Quiet a → Quiet (unless_word word Doubled a)
doubled_quiet None a h = h
doubled_quiet (Some word) a h = refl

few_quiet : {A : Type 0} (holds : Bool) (word : Option Word) (a : Result A ElabFault) → Quiet a → Quiet (answer_if holds TooMany word a)
few_quiet true word a h = h
few_quiet false word a h = refl

list_quiet : (child : ModuleTree) (known : ℕ) (overrides : Option ConnectionsTree) (list : List InstanceTree) → Quiet (lower_list child known overrides list)
list_quiet child known overrides [] = tt
list_quiet child known overrides (one ∷ more) =
    quiet_then (lower_instance child known overrides one) _
    (ports_quiet (misfit_if one.name (letters_of (open_names child)) overrides) _ (ports_quiet (misfit one.name (letters_of (port_names child)) one.connections) _ tt)) (λ front.
    quiet_then (lower_list child known overrides more) _ (list_quiet child known overrides more) (λ others. tt))

of_quiet : (name : Word) (before known : ℕ) (child : Option ModuleTree) (overrides : Option ConnectionsTree) (list : List InstanceTree) → Quiet (lower_instances_of name before known child overrides list)
of_quiet name before known None overrides list = refl
of_quiet name before known (Some child) overrides list =
    few_quiet (nat_le (before + length list) 1024) (Some name) _ (doubled_quiet (named_again child) _ (list_quiet child known overrides list))

by_quiet : (modules : SourceTree) (before known : ℕ) (item : ItemTree) → Quiet (lower_instances_by modules before known item)
by_quiet modules before known (parameters local type settings) = tt
by_quiet modules before known (declaration kind list) = tt
by_quiet modules before known (events names) = tt
by_quiet modules before known (assignments settings) = tt
by_quiet modules before known (initial statement) = tt
by_quiet modules before known (always statement) = tt
by_quiet modules before known (instances name overrides list) = of_quiet name before known (module_of modules name.letters) overrides list

pub instances_quiet : (modules : SourceTree) (before known : ℕ) (items : List ItemTree) → Quiet (lower_instances modules before known items)
instances_quiet modules before known [] = tt
instances_quiet modules before known (item ∷ more) =
    quiet_then (lower_instances_by modules before known item) _ (by_quiet modules before known item) (λ front.
    quiet_then (lower_instances modules (before + length front) (known + length (symbols_by item)) more) _
    (instances_quiet modules (before + length front) (known + length (symbols_by item)) more) (λ others. tt))

-- ---- connections

-- the whole of a variable is written
whole_few : (n : ℕ) → IsSize n → (true && nat_le n 64) ≡ true
whole_few n h = let few = h.few in grind (arith, nat_tests)

module _ (now : Environment) (outer : Scope) (outside : Text → Worth) (outer_vectors : AreVectors outside) (outer_agrees : AreWorth false now outer outside)
    (inner : Scope) (named : Text → Worth) (vectors : AreVectors named) (agrees : AreWorth false now inner named) where
  -- a port is written whole
  port_told : (port : Word) → Told (targets_flaw now) true (lower_net_target inner (whole port))
  port_told port =
      subst (λ (b : Bool). Told (targets_flaw now) b (lower_net_target inner (whole port))) (whole_few (length (named port.letters).value.letters) (vectors port.letters))
      (target_told inner named vectors now agrees true (whole port))

  input_told : (port : Word) (value : text.ExpressionTree) → Told (action_flaw now) (is_sized outside value) (lower_input outer inner port value)
  input_told port value =
      goes_on (targets_flaw now) (action_flaw now) true (is_sized outside value) (lower_net_target inner (whole port)) _ (λ no. absurd cc) (port_told port) (λ targets h.
      goes_on (flaw_of now) (action_flaw now) (is_sized outside value) (is_sized outside value) (lower_expression outer value) _
      (λ e. e) (expression_told outer outside outer_vectors now outer_agrees value) (λ e k. both_say (targets_flaw now targets) (flaw_of now e) true (is_sized outside value) h k))

  output_told : (whose port : Word) (target : Option TargetTree) → Told (action_flaw now) (is_sized_output outside target) (lower_output whose outer inner port target)
  output_told whose port None = λ e. absurd cc
  output_told whose port (Some target) =
      goes_on (targets_flaw now) (action_flaw now) (is_target outside target) (is_target outside target) (lower_net_target outer target) _ (λ e. e)
      (target_told outer outside outer_vectors now outer_agrees true target) (λ targets h.
      goes_on (flaw_of now) (action_flaw now) true (is_target outside target) (lower_expression inner (text.name port)) _ (λ no. absurd cc) (expression_told inner named vectors now agrees (text.name port)) (λ e k.
      subst (Says (option_or (targets_flaw now targets) (flaw_of now e))) (sym (and_true (is_target outside target)))
      (both_say (targets_flaw now targets) (flaw_of now e) (is_target outside target) true h k)))

  connection_told : (whose : Word) (p : Port) (value : text.ExpressionTree) → Told (action_flaw now) (is_sized_at outside p.output value) (lower_connection whose outer inner p value)
  connection_told whose p value = by p.output
    where
      by : (out : Bool) → Told (action_flaw now) (is_sized_at outside out value) (if out then lower_output whose outer inner p.name (target_of value) else lower_input outer inner p.name value)
      by true = output_told whose p.name (target_of value)
      by false = input_told p.name value

  join_told : (whose : Word) (table : Table) (t : Bool) → Says (table_flaw now table) t → (p : Port) (value : Option text.ExpressionTree) →
      Told (of_processes now) (t && is_sized_connection outside p value) (lower_join whose outer inner table p value)
  join_told whose table t s p None = with_true t (table_flaw now table) s
  join_told whose table t s p (Some value) =
      let b = is_sized_at outside p.output value in
      goes_on (action_flaw now) (of_processes now) b (t && b) (lower_connection whose outer inner p value) _ (second_false t b)
      (connection_told whose p value) (λ action h. acted now table t b action s h)

  joins_told : (connections : List NamedConnection) (whose : Word) (table : Table) (t : Bool) → Says (table_flaw now table) t → (ports : List Port) →
      Told (of_processes now) (t && list_all (λ (p : Port). is_sized_connection outside p (value_for connections p.name.letters)) ports) (lower_joins whose outer inner connections table ports)
  joins_told connections whose table t s [] = with_true t (table_flaw now table) s
  joins_told connections whose table t s (p ∷ more) =
      let first = is_sized_connection outside p (value_for connections p.name.letters) in
      let others = list_all (λ (p : Port). is_sized_connection outside p (value_for connections p.name.letters)) more in
      goes_on (of_processes now) (of_processes now) (t && first) (t && (first && others)) (lower_join whose outer inner table p (value_for connections p.name.letters)) _
      (λ e. sym (and_assoc t first others) ∙ first_false (t && first) others e)
      (join_told whose table t s p (value_for connections p.name.letters)) (λ front k.
      subst (λ (x : Bool). Told (of_processes now) x (with_begins_before front.begins (lower_joins whose outer inner connections front.table more))) (and_assoc t first others)
      (begun now ((t && first) && others) front.begins (lower_joins whose outer inner connections front.table more) (joins_told connections whose front.table (t && first) k more)))

-- ---- what names are worth in designs that begin with these variables

pub record IsRound (vs : List Variable) (scope : Scope) (named : Text → Worth) : Type 0 where
  pub vectors : AreVectors named
  pub agrees : (rest : List Variable) → AreWorth false (blank_environment (vs ++ rest)) scope named

pub round_more : (vs more : List Variable) (scope : Scope) (named : Text → Worth) → IsRound vs scope named → IsRound (vs ++ more) scope named
round_more vs more scope named h = record {
  vectors = h.vectors;
  agrees = λ rest. subst (λ (l : List Variable). AreWorth false (blank_environment l) scope named) (sym (append_assoc vs more rest)) (h.agrees (more ++ rest));
}

-- what a part of a design has has no flaw only where this holds, whatever variables are still to come
abbrev pub Carries : PartialDesign → Bool → Type 0
Carries part t = (rest : List Variable) → Says (table_flaw (blank_environment (part.variables ++ rest)) part.table) t

pub carried : (part : PartialDesign) (more : List Variable) (t : Bool) → Carries part t → (rest : List Variable) → Says (table_flaw (blank_environment ((part.variables ++ more) ++ rest)) part.table) t
carried part more t h rest = subst (λ (l : List Variable). Says (table_flaw (blank_environment l) part.table) t) (sym (append_assoc part.variables more rest)) (h (more ++ rest))

-- ---- an instance's own steps

abbrev pub instantiated : (Text → Worth) → Context → Instantiated
instantiated outside context = record { unit = context.unit; outside = outside; values = context.overrides.values; connections = context.connections }

module _ (part : PartialDesign) (context : Context) (outside : Text → Worth) (round : IsRound part.variables context.overrides.scope outside) where
  abbrev pub one : Instantiated
  one = instantiated outside context

  abbrev constants : Text → Worth
  constants = constants_in one

  abbrev outer : AreWorth true nothing context.overrides.scope outside
  outer = worth_of_constants false (blank_environment (part.variables ++ [])) context.overrides.scope outside (round.agrees [])

  abbrev set : Bool
  set = are_set_in outside context.overrides.values context.unit

  abbrev is_ranged : Bool
  is_ranged = are_ranged constants context.unit

  abbrev pub connected : Bool
  connected = list_all (is_connected one) (ports_of context.unit)

  abbrev pub processed : Bool
  processed = list_all (is_sized_item (worth_in one)) (process_items context.unit)

  -- its names

  pub names_judged : Judges is_width set (lower_names part context)
  names_judged =
      barring_judges is_width set (first_again (declared_names context.unit)) Doubled _ refl
      (provided_judges is_width set (nat_le (length part.variables + length (declared_names context.unit)) 1024) TooMany (Some context.name) _ refl
      (provided_judges is_width set (has_room part context) TooMany (Some context.name) _ refl
      (by (item_scope (base_of part context) context.unit) (scope_sizes (base_of part context) context.unit outside round.vectors outer))))
    where
      by : (a : Result Scope ElabFault) → AllAdded context.overrides outside round.vectors outer constants set a → Judges is_width set a
      by (Ok scope) h = h.1
      by (Err fault) h = h

  module _ (scope : Scope) (names_are : lower_names part context ≡ Ok scope) where
    all_added : IsWorth context.overrides outside round.vectors outer scope constants × (set ≡ true)
    all_added = subst (AllAdded context.overrides outside round.vectors outer constants set) (item_scope_of part context scope names_are) (scope_sizes (base_of part context) context.unit outside round.vectors outer)

    abbrev worth : IsWorth context.overrides outside round.vectors outer scope constants
    worth = all_added.0

    -- its variables

    abbrev path : Text
    path = context.path

    abbrev at_ports : Scope
    at_ports = port_scope context.unit scope

    worth_there : AreWorth true nothing at_ports constants
    worth_there = by (is_plain_list context.unit.ports)
      where
        by : (b : Bool) → AreWorth true nothing (if b then at scope (length scope.others) else scope) constants
        by true = record { of_parameter = worth.agrees.of_parameter; of_variable = worth.agrees.of_variable }
        by false = worth.agrees

    variables_judged : Judges is_width is_ranged (lower_own_variables context (ports_of context.unit) scope)
    variables_judged =
        two_judge is_width (list_all (is_port_ranged constants) (ports_of context.unit)) (list_all (is_item_ranged constants) context.unit.items) (lower_ports path at_ports (ports_of context.unit)) _
        (ports_judged constants worth.vectors path at_ports worth_there (ports_of context.unit)) (λ front.
        last_judges is_width (list_all (is_item_ranged constants) context.unit.items) (lower_variables path scope (own_items context.unit)) _
        (items_judged constants worth.vectors path (is_declared (letters_of (plain_names context.unit.ports))) scope worth.agrees context.unit.items) (λ others. refl))

    all_declared : AreDeclared constants path (all_in context.unit) (lower_own_variables context (ports_of context.unit) scope)
    all_declared =
        both_declared constants path (map port_declaration (ports_of context.unit)) (declarations context.unit) (lower_ports path at_ports (ports_of context.unit)) (lower_variables path scope (own_items context.unit))
        (ports_declared constants path worth.vectors at_ports worth_there (ports_of context.unit)) (items_declared constants path worth.vectors scope worth.agrees (own_items context.unit))

    module _ (vs : List Variable) (variables_are : lower_own_variables context (ports_of context.unit) scope ≡ Ok vs) where
      ranges_hold : is_ranged ≡ true
      ranges_hold = subst (Judges is_width is_ranged) variables_are variables_judged

      made_are : vs ≡ map (variable_by constants path) (all_in context.unit)
      made_are = subst (AreDeclared constants path (all_in context.unit)) variables_are all_declared

      pub round_here : IsRound (part.variables ++ vs) scope (worth_in one)
      round_here = record {
        vectors = names_sized constants context.unit ranges_hold worth.vectors;
        agrees = λ rest. worth_here constants path context.unit scope worth.agrees (names_stand part context scope names_are).of ((part.variables ++ vs) ++ rest) (λ k d is.
            let first = scope_keeps (λ (x : Scope). x.first) (λ x symbol meaning. refl) (λ x known. refl) (base_of part context) context.unit scope (item_scope_of part context scope names_are) in
            got_in_front (part.variables ++ vs) rest (scope.first + k) (variable_by constants path d)
            (got_behind part.variables vs k (scope.first + k) (omega (arith, first))
            ∙ ap (λ (l : List Variable). slice_get l k) made_are ∙ got_mapped (variable_by constants path) (all_in context.unit) k d is));
      }

      -- its processes

      pub processes_told : (rest : List Variable) (table : Table) (t : Bool) → Says (table_flaw (blank_environment ((part.variables ++ vs) ++ rest)) table) t →
          Told (of_processes (blank_environment ((part.variables ++ vs) ++ rest))) (t && (connected && processed)) (lower_own_processes context (ports_of context.unit) scope table)
      processes_told rest table t s =
          let around = round_more part.variables vs context.overrides.scope outside round in
          let now = blank_environment ((part.variables ++ vs) ++ rest) in
          let placed = list_all (is_sized_item (worth_in one)) (placed_items context.path context.unit) in
          goes_on (of_processes now) (of_processes now) (t && connected) (t && (connected && processed)) (lower_joins context.name context.overrides.scope scope context.connections table (ports_of context.unit)) _
          (λ e. sym (and_assoc t connected processed) ∙ first_false (t && connected) processed e)
          (joins_told now context.overrides.scope outside around.vectors (around.agrees rest) scope (worth_in one) round_here.vectors (round_here.agrees rest) context.connections context.name table t s (ports_of context.unit)) (λ joins k.
          subst (λ (x : Bool). Told (of_processes now) x (with_begins_before joins.begins (lower_items scope joins.table (placed_items context.path context.unit))))
          (and_assoc t connected placed ∙ ap (λ (b : Bool). t && (connected && b)) (items_sized (worth_in one) context.path (process_items context.unit)))
          (begun now ((t && connected) && placed) joins.begins (lower_items scope joins.table (placed_items context.path context.unit))
          (items_told (worth_in one) round_here.vectors now scope (round_here.agrees rest) joins.table (t && connected) k (placed_items context.path context.unit))))

      -- all is right where its connections and its processes are
      pub right_is : has_right_widths one ≡ (connected && processed)
      right_is = λ i. all_added.1 i && (ranges_hold i && (connected && processed))

    -- ---- where a size is told

    pub own_wrong : (t : Bool) → Carries part t → (fault : ElabFault) → is_width fault.rule ≡ true → lower_own context (ports_of context.unit) scope part ≡ Err fault →
        (t && has_right_widths one) ≡ false
    own_wrong t carries fault width err = by (then_err (lower_own_variables context (ports_of context.unit) scope) behind fault err)
      where
        behind : List Variable → Result PartialDesign ElabFault
        behind vs = lower_own_processes context (ports_of context.unit) scope part.table >>= λ processes. few_enough context.name (with_own context scope part vs processes)

        of_ranges : is_ranged ≡ false → (t && has_right_widths one) ≡ false
        of_ranges e = second_false t (has_right_widths one) (second_false set (is_ranged && (connected && processed)) (first_false is_ranged (connected && processed) e))

        in_processes : (vs : List Variable) → lower_own_variables context (ports_of context.unit) scope ≡ Ok vs →
            (lower_own_processes context (ports_of context.unit) scope part.table ≡ Err fault)
            ⊎ ((processes : Processes) × (lower_own_processes context (ports_of context.unit) scope part.table ≡ Ok processes) × (few_enough context.name (with_own context scope part vs processes) ≡ Err fault)) →
            (t && has_right_widths one) ≡ false
        in_processes vs ok (inl e) =
            ap (λ (b : Bool). t && b) (right_is vs ok)
            ∙ subst (Told (of_processes (blank_environment ((part.variables ++ vs) ++ []))) (t && (connected && processed))) e (processes_told vs ok [] part.table t (carried part vs t carries [])) width
        in_processes vs ok (inr (processes, made, e)) = absurd (let no = sym width ∙ ap is_width (few_err context.name (with_own context scope part vs processes) fault e).1 in cc)

        by : (lower_own_variables context (ports_of context.unit) scope ≡ Err fault)
            ⊎ ((vs : List Variable) × (lower_own_variables context (ports_of context.unit) scope ≡ Ok vs) × (behind vs ≡ Err fault)) → (t && has_right_widths one) ≡ false
        by (inl e) = of_ranges (subst (Judges is_width is_ranged) e variables_judged width)
        by (inr (vs, ok, e)) = in_processes vs ok (then_err (lower_own_processes context (ports_of context.unit) scope part.table) (λ processes. few_enough context.name (with_own context scope part vs processes)) fault e)
