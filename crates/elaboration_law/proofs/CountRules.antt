-- How many variables, processes, instances and named events an instance adds, how long its names and how large its module are, and what is told
-- where they are too many.
use Rattle.std.proofs.Common.{◌≡◌, ◌&&◌, ℕ, suc, ◌+◌, ◌<◌, ◌≤◌, arith, nat_le, nat_lt, Bool, true, false, not, List, [], ◌∷◌, ◌++◌, map, length, Option, Some, None, Result, Ok, Err, refl, sym, ap, ◌∙◌, ◌⊎◌, inl, inr, length-append}
use Rattle.std.specs.List.{flat_map, filter_map, cons_option, sum_by}
use Rattle.std.specs.Option.{option_or}
use Rattle.std.proofs.lemmas.Bool.Decides.{nat_tests}
use Rattle.std.proofs.lemmas.List.{length-map}
use Rattle.std.proofs.lemmas.List.Sums.{sum_by-cons, sum_by-append}
use Rattle.vwords.specs.Words.{Text}
use Rattle.vast.specs.NumberedWords.{Word}
use Rattle.vast.specs.NumberedExpressions as text
use Rattle.vast.specs.NumberedModules.{HeadParameter, ParameterType, SettingTree, ConnectionsTree, InstanceTree, ItemTree, parameters, declaration, events, assignments, initial, always, instances, ModuleTree, SourceTree}
use Rattle.basis.proofs.Bools.{and_left, and_right}
use Rattle.module_size.specs.Sizes.{module_size}
use Rattle.vmodules.specs.Names.{is_declared, first_again}
use Rattle.vmodules.specs.Hierarchy.{module_of}
use Rattle.vmodules.specs.Ports.{Port, ports_of}
use Rattle.vmodules.specs.Placed.{placed_items}
use Rattle.vmodules.specs.Connected.{NamedConnection, value_for}
use Rattle.vexpr_parse.proofs.Turning.{le_so}
use Rattle.velab_expr.specs.declared.fault.Rule.TheVariants.{Top, Doubled, TooMany}
use Rattle.velab_expr.specs.declared.fault.ElabFault.{ElabFault}
use Rattle.velab_expr.specs.declared.scope.Meaning.{Meaning}
use Rattle.velab_expr.specs.declared.scope.Meaning.TheVariants.{Event}
use Rattle.velab_expr.specs.Rules.{fault_at}
use Rattle.velab_expr.specs.Answers.{◌>>=◌, require, answer_if}
use Rattle.velab_expr.specs.Scopes.{Scope, at}
use Rattle.velab_expr.specs.Symbols.{Symbol, parameter_symbol, event_symbol, instance_symbol, name_in, events_in, symbols_behind, symbols_in_head, symbols_by, valueless_by, behind_item}
use Rattle.velab_declaration.specs.Parameters.{Overrides, Base, lower_meaning, with_meaning, add_symbol, add_symbols, first_scope, item_scope}
use Rattle.velab_declaration.specs.Variables.{declared_names}
use Rattle.velab_process.specs.Statements.{Table}
use Rattle.velab_process.specs.Processes.{ProcessTree, Processes as Made, with_begins_before, lower_process, lower_processes, process_trees_by, lower_items}
use Rattle.velab_process.specs.Connections.{lower_connection, lower_join, lower_joins, one_process}
use Rattle.vhierarchy.specs.Instances.{unless_word, Instantiation, lower_list, named_again, lower_instances_of, lower_instances_by, lower_instances, PartialDesign, Context, base_of, lower_names, lower_own_processes, has_room, letters_held, letters_added}
use Rattle.elaboration_law.specs.Hierarchy.{instance_by, instances_of, instances_by}
use Rattle.elaboration_law.specs.Counts.{values_connected, events_by}
use Rattle.elaboration_law.proofs.ToldLemmas.{is_local, is_of_connections, untold}
use Rattle.elaboration_law.proofs.ModuleRules.{lower_parameter_tells, list_tells}
use Rattle.elaboration_law.proofs.StepLemmas.{same_value, then_ok, then_err, provided_ok, provided_err, required_ok, required_err, barring_ok, barring_err}
use Rattle.elaboration_law.proofs.HierarchyLemmas.{instance_of, instance_at, by_is}

pub gt_of : (a b : ℕ) → nat_le a b ≡ false → b < a
gt_of a b e = grind (arith, nat_tests)

ge_of : (a b : ℕ) → nat_lt a b ≡ false → b ≤ a
ge_of a b e = grind (arith, nat_tests)

-- ---- processes

module _ (whose : Word) (outer inner : Scope) where
  join_counted : (table : Table) (p : Port) (value : Option text.ExpressionTree) (rest : List text.ExpressionTree) (front : Made) → lower_join whose outer inner table p value ≡ Ok front →
      length front.begins + length rest ≡ length (cons_option value rest)
  join_counted table p None rest front is = ap (λ (m : Made). length m.begins + length rest) (sym (same_value (record { table = table; begins = [] }) front is)) ∙ zero_more (length rest)
    where
      zero_more : (n : ℕ) → 0 + n ≡ n
      zero_more n = omega arith
  join_counted table p (Some value) rest front is =
      let action = then_ok (lower_connection whose outer inner p value) (λ action. Ok (one_process table (Some whose) action)) front is in
      ap (λ (m : Made). length m.begins + length rest) (sym (same_value (one_process table (Some whose) action.0) front action.2)) ∙ one_more (length rest)
    where
      one_more : (n : ℕ) → 1 + n ≡ suc n
      one_more n = omega arith

  joins_counted : (connections : List NamedConnection) (table : Table) (ports : List Port) (made : Made) → lower_joins whose outer inner connections table ports ≡ Ok made →
      length made.begins ≡ length (filter_map (λ (p : Port). value_for connections p.name.letters) ports)
  joins_counted connections table [] made is = ap (λ (m : Made). length m.begins) (sym (same_value (record { table = table; begins = [] }) made is))
  joins_counted connections table (p ∷ more) made is =
      let value = value_for connections p.name.letters in
      let front = then_ok (lower_join whose outer inner table p value) (λ front. with_begins_before front.begins (lower_joins whose outer inner connections front.table more)) made is in
      let others = then_ok (lower_joins whose outer inner connections front.0.table more) (λ ps. Ok (record { table = ps.table; begins = front.0.begins ++ ps.begins })) made front.2 in
      let rest = filter_map (λ (p : Port). value_for connections p.name.letters) more in
      ap (λ (m : Made). length m.begins) (sym (same_value (record { table = others.0.table; begins = front.0.begins ++ others.0.begins }) made others.2))
      ∙ length-append front.0.begins others.0.begins
      ∙ ap (λ n. length front.0.begins + n) (joins_counted connections front.0.table more others.0 others.1)
      ∙ join_counted table p value rest front.0 front.1

processes_counted : (scope : Scope) (table : Table) (list : List ProcessTree) (made : Made) → lower_processes scope table list ≡ Ok made → length made.begins ≡ length list
processes_counted scope table [] made is = ap (λ (m : Made). length m.begins) (sym (same_value (record { table = table; begins = [] }) made is))
processes_counted scope table (process ∷ more) made is =
    let front = then_ok (lower_process scope table process) (λ front. with_begins_before (front.places ∷ []) (lower_processes scope front.table more)) made is in
    let others = then_ok (lower_processes scope front.0.table more) (λ ps. Ok (record { table = ps.table; begins = (front.0.places ∷ []) ++ ps.begins })) made front.2 in
    ap (λ (m : Made). length m.begins) (sym (same_value (record { table = others.0.table; begins = front.0.places ∷ others.0.begins }) made others.2))
    ∙ ap suc (processes_counted scope front.0.table more others.0 others.1)

items_counted : (scope : Scope) (table : Table) (items : List ItemTree) (made : Made) → lower_items scope table items ≡ Ok made → length made.begins ≡ length (flat_map process_trees_by items)
items_counted scope table [] made is = ap (λ (m : Made). length m.begins) (sym (same_value (record { table = table; begins = [] }) made is))
items_counted scope table (item ∷ more) made is =
    let front = then_ok (lower_processes scope table (process_trees_by item)) (λ front. with_begins_before front.begins (lower_items (behind_item scope item) front.table more)) made is in
    let others = then_ok (lower_items (behind_item scope item) front.0.table more) (λ ps. Ok (record { table = ps.table; begins = front.0.begins ++ ps.begins })) made front.2 in
    ap (λ (m : Made). length m.begins) (sym (same_value (record { table = others.0.table; begins = front.0.begins ++ others.0.begins }) made others.2))
    ∙ length-append front.0.begins others.0.begins
    ∙ (λ i. processes_counted scope table (process_trees_by item) front.0 front.1 i + items_counted (behind_item scope item) front.0.table more others.0 others.1 i)
    ∙ sym (length-append (process_trees_by item) (flat_map process_trees_by more))

pub own_processes_counted : (context : Context) (scope : Scope) (table : Table) (made : Made) → lower_own_processes context (ports_of context.unit) scope table ≡ Ok made →
    length made.begins ≡ length (values_connected (instance_at context)) + length (flat_map process_trees_by (placed_items context.path context.unit))
own_processes_counted context scope table made is =
    let joins = then_ok (lower_joins context.name context.overrides.scope scope context.connections table (ports_of context.unit))
    (λ joins. with_begins_before joins.begins (lower_items scope joins.table (placed_items context.path context.unit))) made is in
    let items = then_ok (lower_items scope joins.0.table (placed_items context.path context.unit)) (λ ps. Ok (record { table = ps.table; begins = joins.0.begins ++ ps.begins })) made joins.2 in
    ap (λ (m : Made). length m.begins) (sym (same_value (record { table = items.0.table; begins = joins.0.begins ++ items.0.begins }) made items.2))
    ∙ length-append joins.0.begins items.0.begins
    ∙ (λ i. joins_counted context.name context.overrides.scope scope context.connections table (ports_of context.unit) joins.0 joins.1 i + items_counted scope joins.0.table (placed_items context.path context.unit) items.0 items.1 i)

-- ---- named events

abbrev events_of : List Symbol → ℕ
events_of list = sum_by events_in list

module _ (overrides : Overrides) where
  one_counted : (scope next : Scope) (one : Symbol) → add_symbol overrides scope one ≡ Ok next → next.events ≡ scope.events + events_in one
  one_counted scope next one is =
      let meaning = then_ok (lower_meaning overrides scope one) (λ meaning. require (not (is_declared scope.names (name_in one).letters)) Doubled (Some (name_in one)) (with_meaning scope one meaning)) next is in
      sym (ap (λ (s : Scope). s.events) (required_ok (not (is_declared scope.names (name_in one).letters)) Doubled (Some (name_in one)) (with_meaning scope one meaning.0) next meaning.2).1)

  pub symbols_counted : (scope next : Scope) (list : List Symbol) → add_symbols overrides scope list ≡ Ok next → next.events ≡ scope.events + events_of list
  symbols_counted scope next [] is = let same = ap (λ (s : Scope). s.events) (same_value scope next is) in omega (arith, same)
  symbols_counted scope next (one ∷ more) is =
      let front = then_ok (add_symbol overrides scope one) (λ s. add_symbols overrides s more) next is in
      let first = one_counted scope front.0 one front.1 in
      let rest = symbols_counted front.0 next more front.2 in
      let sum = sum_by-cons events_in one more in
      omega (arith, first, rest, sum)

  few_meaning : (scope : Scope) (one : Symbol) (meaning : Meaning) → lower_meaning overrides scope one ≡ Ok meaning → scope.events ≤ 4294967295 → scope.events + events_in one ≤ 4294967295
  few_meaning scope (parameter_symbol type setting) meaning is few = omega (arith, few)
  few_meaning scope (event_symbol name) meaning is few =
      let test = (required_ok (nat_lt scope.events 4294967295) TooMany (Some name) (Event scope.events) meaning is).0 in
      let less : scope.events < 4294967295 = grind (arith, nat_tests) in
      omega (arith, less)
  few_meaning scope (instance_symbol name) meaning is few = omega (arith, few)

  pub few_symbols : (scope next : Scope) (list : List Symbol) → add_symbols overrides scope list ≡ Ok next → scope.events ≤ 4294967295 → next.events ≤ 4294967295
  few_symbols scope next [] is few = let same = ap (λ (s : Scope). s.events) (same_value scope next is) in omega (arith, same, few)
  few_symbols scope next (one ∷ more) is few =
      let front = then_ok (add_symbol overrides scope one) (λ s. add_symbols overrides s more) next is in
      let meaning = then_ok (lower_meaning overrides scope one) (λ meaning. require (not (is_declared scope.names (name_in one).letters)) Doubled (Some (name_in one)) (with_meaning scope one meaning)) front.0 front.1 in
      let first = one_counted scope front.0 one front.1 in
      let bound = few_meaning scope one meaning.0 meaning.1 few in
      few_symbols front.0 next more front.2 (omega (arith, first, bound))

  module _ (fault : ElabFault) (rule : fault.rule ≡ TooMany) where
    many_meaning : (scope : Scope) (one : Symbol) → lower_meaning overrides scope one ≡ Err fault → 4294967295 < scope.events + events_in one
    many_meaning scope (parameter_symbol type setting) is =
        absurd (untold is_local (lower_meaning overrides scope (parameter_symbol type setting)) fault TooMany (lower_parameter_tells overrides scope type setting) refl is rule)
    many_meaning scope (event_symbol name) is =
        let more = ge_of scope.events 4294967295 (required_err (nat_lt scope.events 4294967295) TooMany (Some name) (Event scope.events) fault is).0 in omega (arith, more)
    many_meaning scope (instance_symbol name) is = absurd cc

    many_one : (scope : Scope) (one : Symbol) →
        (lower_meaning overrides scope one ≡ Err fault)
        ⊎ ((meaning : Meaning) × (lower_meaning overrides scope one ≡ Ok meaning) × (require (not (is_declared scope.names (name_in one).letters)) Doubled (Some (name_in one)) (with_meaning scope one meaning) ≡ Err fault)) →
        4294967295 < scope.events + events_in one
    many_one scope one (inl err) = many_meaning scope one err
    many_one scope one (inr (meaning, ok, err)) =
        let other = (required_err (not (is_declared scope.names (name_in one).letters)) Doubled (Some (name_in one)) (with_meaning scope one meaning) fault err).1 in absurd cc

    pub many_symbols : (scope : Scope) (list : List Symbol) → add_symbols overrides scope list ≡ Err fault → 4294967295 < scope.events + events_of list
    many_symbols scope [] is = absurd cc
    many_symbols scope (one ∷ more) is = by (then_err (add_symbol overrides scope one) (λ s. add_symbols overrides s more) fault is) (λ next. many_symbols next more)
      where
        by : (add_symbol overrides scope one ≡ Err fault) ⊎ ((next : Scope) × (add_symbol overrides scope one ≡ Ok next) × (add_symbols overrides next more ≡ Err fault)) →
            ((next : Scope) → add_symbols overrides next more ≡ Err fault → 4294967295 < next.events + events_of more) → 4294967295 < scope.events + events_of (one ∷ more)
        by (inl err) rest =
            let many = many_one scope one (then_err (lower_meaning overrides scope one) (λ meaning. require (not (is_declared scope.names (name_in one).letters)) Doubled (Some (name_in one)) (with_meaning scope one meaning)) fault err) in
            let sum = sum_by-cons events_in one more in
            omega (arith, many, sum)
        by (inr (next, ok, err)) rest =
            let many = rest next err in
            let first = one_counted scope next one ok in
            let sum = sum_by-cons events_in one more in
            omega (arith, many, first, sum)

-- parameters are no events, and of the others those that are declared so

parameters_none : (type : Option ParameterType) (list : List SettingTree) → events_of (map (parameter_symbol type) list) ≡ 0
parameters_none type [] = refl
parameters_none type (one ∷ more) = let sum = sum_by-cons events_in (parameter_symbol type one) (map (parameter_symbol type) more) in let rest = parameters_none type more in omega (arith, sum, rest)

behind_none : (type : Option ParameterType) (list : List HeadParameter) → events_of (symbols_behind type list) ≡ 0
behind_none type [] = refl
behind_none type (head ∷ more) =
    let kind = option_or head.kind type in
    let sum = sum_by-cons events_in (parameter_symbol kind head.setting) (symbols_behind kind more) in let rest = behind_none kind more in omega (arith, sum, rest)

head_none : (list : Option (List HeadParameter)) → events_of (symbols_in_head list) ≡ 0
head_none None = refl
head_none (Some list) = behind_none None list

item_none : (item : ItemTree) → events_of (symbols_by item) ≡ 0
item_none (parameters local type settings) = parameters_none (Some type) settings
item_none (declaration kind list) = refl
item_none (events names) = refl
item_none (assignments settings) = refl
item_none (initial statement) = refl
item_none (always statement) = refl
item_none (instances letters overrides list) = refl

items_none : (items : List ItemTree) → events_of (flat_map symbols_by items) ≡ 0
items_none [] = refl
items_none (item ∷ more) = let sum = sum_by-append events_in (symbols_by item) (flat_map symbols_by more) in let one = item_none item in let rest = items_none more in omega (arith, sum, one, rest)

names_all : (names : List Word) → events_of (map event_symbol names) ≡ length names
names_all [] = refl
names_all (name ∷ more) = let sum = sum_by-cons events_in (event_symbol name) (map event_symbol more) in let rest = names_all more in omega (arith, sum, rest)

instances_none : (list : List InstanceTree) → events_of (map (λ (one : InstanceTree). instance_symbol one.name) list) ≡ 0
instances_none [] = refl
instances_none (one ∷ more) =
    let sum = sum_by-cons events_in (instance_symbol one.name) (map (λ (one : InstanceTree). instance_symbol one.name) more) in let rest = instances_none more in omega (arith, sum, rest)

valueless_all : (item : ItemTree) → events_of (valueless_by item) ≡ length (events_by item)
valueless_all (parameters local type settings) = refl
valueless_all (declaration kind list) = refl
valueless_all (events names) = names_all names
valueless_all (assignments settings) = refl
valueless_all (initial statement) = refl
valueless_all (always statement) = refl
valueless_all (instances letters overrides list) = instances_none list

items_all : (items : List ItemTree) → events_of (flat_map valueless_by items) ≡ length (flat_map events_by items)
items_all [] = refl
items_all (item ∷ more) =
    let sum = sum_by-append events_in (valueless_by item) (flat_map valueless_by more) in
    let one = valueless_all item in
    let rest = items_all more in
    let long = length-append (events_by item) (flat_map events_by more) in
    omega (arith, sum, one, rest, long)

module _ (base : Base) (m : ModuleTree) where
  abbrev valueless : List Symbol
  valueless = flat_map valueless_by m.items

  abbrev head : List Symbol
  head = symbols_in_head m.parameters

  abbrev whole : List Symbol
  whole = flat_map symbols_by m.items

  abbrev declared_events : ℕ
  declared_events = length (flat_map events_by m.items)

  -- how many named events are known behind a module
  scope_counted : (scope : Scope) → item_scope base m ≡ Ok scope → scope.events ≡ base.events + declared_events
  scope_counted scope is =
      let one = then_ok (add_symbols base.overrides (first_scope base m) valueless)
      (λ s. add_symbols base.overrides s head >>= λ h. add_symbols base.overrides h whole >>= λ w. Ok (at w h.known)) scope is in
      let two = then_ok (add_symbols base.overrides one.0 head) (λ h. add_symbols base.overrides h whole >>= λ w. Ok (at w h.known)) scope one.2 in
      let three = then_ok (add_symbols base.overrides two.0 whole) (λ w. Ok (at w two.0.known)) scope two.2 in
      let same = ap (λ (s : Scope). s.events) (same_value (at three.0 two.0.known) scope three.2) in
      let a = symbols_counted base.overrides (first_scope base m) one.0 valueless one.1 in
      let b = symbols_counted base.overrides one.0 two.0 head two.1 in
      let c = symbols_counted base.overrides two.0 three.0 whole three.1 in
      let p = items_all m.items in
      let q = head_none m.parameters in
      let r = items_none m.items in
      omega (arith, same, a, b, c, p, q, r)

  scope_few : (scope : Scope) → item_scope base m ≡ Ok scope → base.events ≤ 4294967295 → scope.events ≤ 4294967295
  scope_few scope is few =
      let one = then_ok (add_symbols base.overrides (first_scope base m) valueless)
      (λ s. add_symbols base.overrides s head >>= λ h. add_symbols base.overrides h whole >>= λ w. Ok (at w h.known)) scope is in
      let two = then_ok (add_symbols base.overrides one.0 head) (λ h. add_symbols base.overrides h whole >>= λ w. Ok (at w h.known)) scope one.2 in
      let three = then_ok (add_symbols base.overrides two.0 whole) (λ w. Ok (at w two.0.known)) scope two.2 in
      let same = ap (λ (s : Scope). s.events) (same_value (at three.0 two.0.known) scope three.2) in
      let bound = few_symbols base.overrides two.0 three.0 whole three.1 (few_symbols base.overrides one.0 two.0 head two.1 (few_symbols base.overrides (first_scope base m) one.0 valueless one.1 few)) in
      omega (arith, same, bound)

  module _ (fault : ElabFault) (rule : fault.rule ≡ TooMany) where
    third : (two : Scope) → two.events ≡ base.events + declared_events →
        (add_symbols base.overrides two whole ≡ Err fault) ⊎ ((w : Scope) × (add_symbols base.overrides two whole ≡ Ok w) × (Ok (at w two.known) ≡ Err fault)) → 4294967295 < base.events + declared_events
    third two counted (inl err) = let many = many_symbols base.overrides fault rule two whole err in let r = items_none m.items in omega (arith, counted, many, r)
    third two counted (inr (w, ok, err)) = absurd cc

    second : (one : Scope) → one.events ≡ base.events + declared_events →
        (add_symbols base.overrides one head ≡ Err fault) ⊎ ((h : Scope) × (add_symbols base.overrides one head ≡ Ok h) × ((add_symbols base.overrides h whole >>= λ w. Ok (at w h.known)) ≡ Err fault)) →
        4294967295 < base.events + declared_events
    second one counted (inl err) = let many = many_symbols base.overrides fault rule one head err in let q = head_none m.parameters in omega (arith, counted, many, q)
    second one counted (inr (h, ok, err)) =
        let b = symbols_counted base.overrides one h head ok in
        let q = head_none m.parameters in
        third h (omega (arith, counted, b, q)) (then_err (add_symbols base.overrides h whole) (λ w. Ok (at w h.known)) fault err)

    first : (add_symbols base.overrides (first_scope base m) valueless ≡ Err fault)
        ⊎ ((one : Scope) × (add_symbols base.overrides (first_scope base m) valueless ≡ Ok one) × ((add_symbols base.overrides one head >>= λ h. add_symbols base.overrides h whole >>= λ w. Ok (at w h.known)) ≡ Err fault)) →
        4294967295 < base.events + declared_events
    first (inl err) = let many = many_symbols base.overrides fault rule (first_scope base m) valueless err in let p = items_all m.items in omega (arith, many, p)
    first (inr (one, ok, err)) =
        let a = symbols_counted base.overrides (first_scope base m) one valueless ok in
        let p = items_all m.items in
        second one (omega (arith, a, p)) (then_err (add_symbols base.overrides one head) (λ h. add_symbols base.overrides h whole >>= λ w. Ok (at w h.known)) fault err)

    scope_many : item_scope base m ≡ Err fault → 4294967295 < base.events + declared_events
    scope_many is = first (then_err (add_symbols base.overrides (first_scope base m) valueless)
        (λ s. add_symbols base.overrides s head >>= λ h. add_symbols base.overrides h whole >>= λ w. Ok (at w h.known)) fault is)

-- ---- names

pub record NamesCounted (part : PartialDesign) (context : Context) (scope : Scope) : Type 0 where
  pub few_variables : length part.variables + length (declared_names context.unit) ≤ 1024
  pub few_events : scope.events ≤ 4294967295
  pub events_are : scope.events ≡ part.events + length (flat_map events_by context.unit.items)
  pub few_letters : letters_held part + letters_added context ≤ 1048576
  pub small : part.size + module_size (length context.path) context.unit ≤ 4194304

module _ (part : PartialDesign) (context : Context) where
  abbrev counted : Result Scope ElabFault
  counted = answer_if (has_room part context) TooMany (Some context.name) (item_scope (base_of part context) context.unit)

  abbrev fewer : Bool
  fewer = nat_le (length part.variables + length (declared_names context.unit)) 1024

  pub names_counted : (scope : Scope) → lower_names part context ≡ Ok scope → NamesCounted part context scope
  names_counted scope is =
      let again = barring_ok (first_again (declared_names context.unit)) Doubled (answer_if fewer TooMany (Some context.name) counted) scope is in
      let few = provided_ok fewer TooMany (Some context.name) counted scope again.1 in
      let inner = provided_ok (has_room part context) TooMany (Some context.name) (item_scope (base_of part context) context.unit) scope few.1 in
      let events = nat_le part.events 4294967295 in
      let letters = nat_le (letters_held part + letters_added context) 1048576 in
      let size = nat_le (part.size + module_size (length context.path) context.unit) 4194304 in
      let both = and_right events (letters && size) inner.0 in
      record {
        few_variables = le_so (length part.variables + length (declared_names context.unit)) 1024 few.0;
        few_events = scope_few (base_of part context) context.unit scope inner.1 (le_so part.events 4294967295 (and_left events (letters && size) inner.0));
        events_are = scope_counted (base_of part context) context.unit scope inner.1;
        few_letters = le_so (letters_held part + letters_added context) 1048576 (and_left letters size both);
        small = le_so (part.size + module_size (length context.path) context.unit) 4194304 (and_right letters size both);
      }

  -- too many variables, too many named events, names that are too long, or modules that are too large
  abbrev pub ManyNames : Type 0
  ManyNames =
      (1024 < length part.variables + length (declared_names context.unit)) ⊎ ((4294967295 < part.events + length (flat_map events_by context.unit.items))
      ⊎ ((1048576 < letters_held part + letters_added context) ⊎ (4194304 < part.size + module_size (length context.path) context.unit)))

  no_room : has_room part context ≡ false → ManyNames
  no_room none =
      by (nat_le part.events 4294967295) (nat_le (letters_held part + letters_added context) 1048576) (nat_le (part.size + module_size (length context.path) context.unit) 4194304) refl refl refl none
    where
      by : (events letters size : Bool) → nat_le part.events 4294967295 ≡ events → nat_le (letters_held part + letters_added context) 1048576 ≡ letters →
          nat_le (part.size + module_size (length context.path) context.unit) 4194304 ≡ size → (events && (letters && size)) ≡ false → ManyNames
      by false letters size e f g none = let more = gt_of part.events 4294967295 e in inr (inl (omega (arith, more)))
      by true false size e f g none = inr (inr (inl (gt_of (letters_held part + letters_added context) 1048576 f)))
      by true true false e f g none = inr (inr (inr (gt_of (part.size + module_size (length context.path) context.unit) 4194304 g)))
      by true true true e f g none = absurd cc

  module _ (fault : ElabFault) (rule : fault.rule ≡ TooMany) where
    in_counted : ((has_room part context ≡ false) × (fault.rule ≡ TooMany)) ⊎ ((has_room part context ≡ true) × (item_scope (base_of part context) context.unit ≡ Err fault)) → ManyNames
    in_counted (inl (none, other)) = no_room none
    in_counted (inr (ok, err)) = inr (inl (scope_many (base_of part context) context.unit fault rule err))

    in_fewer : ((fewer ≡ false) × (fault.rule ≡ TooMany)) ⊎ ((fewer ≡ true) × (counted ≡ Err fault)) → ManyNames
    in_fewer (inl (many, other)) = inl (gt_of (length part.variables + length (declared_names context.unit)) 1024 many)
    in_fewer (inr (ok, err)) = in_counted (provided_err (has_room part context) TooMany (Some context.name) (item_scope (base_of part context) context.unit) fault err)

    in_variables : ((w : Word) × (first_again (declared_names context.unit) ≡ Some w) × (fault.rule ≡ Doubled)) ⊎ ((first_again (declared_names context.unit) ≡ None) × (answer_if fewer TooMany (Some context.name) counted ≡ Err fault)) →
        ManyNames
    in_variables (inl (w, again, other)) = absurd cc
    in_variables (inr (none, err)) = in_fewer (provided_err fewer TooMany (Some context.name) counted fault err)

    pub many_names : lower_names part context ≡ Err fault → ManyNames
    many_names is = in_variables (barring_err (first_again (declared_names context.unit)) Doubled (answer_if fewer TooMany (Some context.name) counted) fault is)

-- ---- instances

module _ (modules : SourceTree) (path : Text) (fault : ElabFault) (rule : fault.rule ≡ TooMany) where
  of_many : (name : Word) (before known : ℕ) (found : Option ModuleTree) (overrides : Option ConnectionsTree) (list : List InstanceTree) →
      lower_instances_of name before known found overrides list ≡ Err fault → 1024 < before + length (instances_of path found list)
  of_many name before known None overrides list is = let same : fault_at Top (Some name) ≡ fault = cc in absurd (let other : Top ≡ fault.rule = ap (λ (f : ElabFault). f.rule) same in cc)
  of_many name before known (Some m) overrides list is =
      by (provided_err (nat_le (before + length list) 1024) TooMany (Some name) (unless_word (named_again m) Doubled (lower_list m known overrides list)) fault is)
    where
      again : ((w : Word) × (named_again m ≡ Some w) × (fault.rule ≡ Doubled)) ⊎ ((named_again m ≡ None) × (lower_list m known overrides list ≡ Err fault)) → ⊥
      again (inl (w, is, other)) = cc
      again (inr (none, err)) = untold is_of_connections (lower_list m known overrides list) fault TooMany (list_tells m known overrides list) refl err rule

      by : ((nat_le (before + length list) 1024 ≡ false) × (fault.rule ≡ TooMany)) ⊎ ((nat_le (before + length list) 1024 ≡ true) × (unless_word (named_again m) Doubled (lower_list m known overrides list) ≡ Err fault)) →
          1024 < before + length (instances_of path (Some m) list)
      by (inl (many, other)) =
          let more = gt_of (before + length list) 1024 many in
          let long = length-map list (instance_by path m) in
          omega (arith, more, long)
      by (inr (few, err)) = absurd (again (barring_err (named_again m) Doubled (lower_list m known overrides list) fault err))

  by_many : (before known : ℕ) (item : ItemTree) → lower_instances_by modules before known item ≡ Err fault → 1024 < before + length (instances_by modules path item)
  by_many before known (parameters local type settings) is = absurd cc
  by_many before known (declaration kind list) is = absurd cc
  by_many before known (events names) is = absurd cc
  by_many before known (assignments settings) is = absurd cc
  by_many before known (initial statement) is = absurd cc
  by_many before known (always statement) is = absurd cc
  by_many before known (instances name overrides list) is = of_many name before known (module_of modules name.letters) overrides list is

  pub many_instances : (before known : ℕ) (items : List ItemTree) → lower_instances modules before known items ≡ Err fault → 1024 < before + length (flat_map (instances_by modules path) items)
  many_instances before known [] is = absurd cc
  many_instances before known (item ∷ more) is =
      let long = length-append (instances_by modules path item) (flat_map (instances_by modules path) more) in
      let many = by (then_err (lower_instances_by modules before known item) (λ front. lower_instances modules (before + length front) (known + length (symbols_by item)) more >>= λ others. Ok (front ++ others)) fault is)
      (λ front. many_instances (before + length front) (known + length (symbols_by item)) more) in
      omega (arith, long, many)
    where
      second : (front : List Instantiation) → length front ≡ length (instances_by modules path item) → (lower_instances modules (before + length front) (known + length (symbols_by item)) more ≡ Err fault → 1024 < (before + length front) + length (flat_map (instances_by modules path) more)) →
          (lower_instances modules (before + length front) (known + length (symbols_by item)) more ≡ Err fault)
          ⊎ ((others : List Instantiation) × (lower_instances modules (before + length front) (known + length (symbols_by item)) more ≡ Ok others) × (Ok (front ++ others) ≡ Err fault)) →
          1024 < before + (length (instances_by modules path item) + length (flat_map (instances_by modules path) more))
      second front long rest (inl err) = let many = rest err in omega (arith, many, long)
      second front long rest (inr (others, ok, err)) = absurd cc

      by : (lower_instances_by modules before known item ≡ Err fault)
          ⊎ ((front : List Instantiation) × (lower_instances_by modules before known item ≡ Ok front)
          × ((lower_instances modules (before + length front) (known + length (symbols_by item)) more >>= λ others. Ok (front ++ others)) ≡ Err fault)) →
          ((front : List Instantiation) → lower_instances modules (before + length front) (known + length (symbols_by item)) more ≡ Err fault → 1024 < (before + length front) + length (flat_map (instances_by modules path) more)) →
          1024 < before + (length (instances_by modules path item) + length (flat_map (instances_by modules path) more))
      by (inl err) rest = let many = by_many before known item err in omega (arith, many)
      by (inr (front, ok, err)) rest =
          second front (sym (length-map front (instance_of path)) ∙ ap length (by_is modules path before known item front ok)) (rest front)
          (then_err (lower_instances modules (before + length front) (known + length (symbols_by item)) more) (λ others. Ok (front ++ others)) fault err)
