-- What an instance uses, and the actions that its own steps add: they are right where the uses suit what names stand for.
use Rattle.std.proofs.Common.{◌≡◌, ℕ, ◌+◌, Bool, true, false, ◌&&◌, List, [], ◌∷◌, ◌++◌, map, length, slice_get, Option, None, Some, Result, Ok, refl, sym, ap, subst, ◌∙◌, if◌then◌else◌, arith, append_assoc, not}
use Rattle.std.specs.Prelude.{is_some}
use Rattle.std.specs.List.{list_all, flat_map}
use Rattle.std.proofs.lemmas.List.{map-append, length-map}
use Rattle.std.proofs.lemmas.List.Folds.{list_all-append}
use Rattle.basis.proofs.Bools.{and_assoc}
use Rattle.vwords.specs.Words.{Text}
use Rattle.vast.specs.NumberedWords.{Word}
use Rattle.vast.specs.NumberedExpressions as text
use Rattle.vast.specs.NumberedStatements.{TargetTree}
use Rattle.vast.specs.NumberedStatements as written
use Rattle.vast.specs.NumberedModules.{RangeTree, ParameterType, integer, typed, DeclarationKind, variables, integers, directed, DeclaredTree, ItemTree, parameters, declaration, events, assignments, initial, always, instances, ModuleTree, SourceTree}
use Rattle.vmodules.specs.Ports.{Second, Port, type_in, own_items, ports_of, port_values}
use Rattle.vmodules.specs.Placed.{placed_item, placed_items}
use Rattle.vmodules.specs.Connected.{NamedConnection, value_for}
use Rattle.vdesign.specs.Design.{Variable}
use Rattle.vdesign.specs.declared.design.Kind.{Kind}
use Rattle.vdesign.specs.declared.action.Action.{Action}
use Rattle.vdesign.specs.declared.expression.Bounds.{Bounds}
use Rattle.vvalue.specs.Flaws.{kind_has_bits, has_bits}
use Rattle.velab_expr.specs.declared.fault.ElabFault.{ElabFault}
use Rattle.velab_expr.specs.Answers.{◌>>=◌}
use Rattle.velab_expr.specs.Scopes.{Scope}
use Rattle.velab_expr.specs.Ranges.{lower_range, lower_bounds}
use Rattle.velab_expr.specs.Resolved.{lower_expression}
use Rattle.velab_expr.specs.Symbols.{Symbol, parameter_symbol, event_symbol, instance_symbol, name_in, behind_item}
use Rattle.velab_declaration.specs.declared.variable.Form.{Form}
use Rattle.velab_declaration.specs.Right.{is_net, is_some_net}
use Rattle.velab_declaration.specs.Variables.{Declaration, all_declared, declared_as, declarations_of, declarations, port_declaration, variable_in, variables_in, variables_as, form_of, port_form, kind_of, port_kind, lower_kind, lower_again, port_scope, lower_declaration, lower_variables, lower_port, lower_ports, integer_kind}
use Rattle.velab_expr.specs.Written.{lower_net_target, target_of}
use Rattle.velab_process.specs.Statements.{Table}
use Rattle.velab_process.specs.Processes.{Processes, process_trees_by, lower_processes, lower_items, with_begins_before}
use Rattle.velab_process.specs.Connections.{lower_input, lower_output, lower_connection, lower_join, lower_joins}
use Rattle.vhierarchy.specs.Instances.{lower_own_processes, PartialDesign, Context}
use Rattle.elaboration_law.specs.Uses.{Use, Read, Driven, use_of, used_in, used_in_range, used_in_target_by}
use Rattle.elaboration_law.specs.Places.{Place, a_variable, UseAt, at_place, all_fit, variables_of, symbols_of, thing_by, place_behind, place_after, used_in_type, used_again, port_place, used_outside, used_by_output, used_at_port, used_if_connected, used_in_declaration, used_in_processes, used_in_placed, used_in_symbol, used_in_symbols, used_in_port, used_in_connection, used_by_items, used_by_own_processes, used_in_instance}
use Rattle.elaboration_law.specs.Kinds.{is_ranged}
use Rattle.elaboration_law.proofs.StepLemmas.{same_value, then_ok}
use Rattle.elaboration_law.proofs.HierarchyLemmas.{Own}
use Rattle.elaboration_law.proofs.AgainLemmas.{again_keeps, placed_behind}
use Rattle.elaboration_law.proofs.OwnLemmas.{own_steps}
use Rattle.elaboration_law.proofs.PlaceLemmas.{there_is, got_in_front, got_behind, got_mapped, count_declared, IsAt, Stands, stands_at, stands_on, values_stand}
use Rattle.elaboration_law.proofs.RightLemmas.{bits_in, is_right}
use Rattle.elaboration_law.proofs.RightUses.{Says, through, last_says, and_true, Real, is_suited_later, suit, constants_hold, lower_says, row_right, driven_right, target_says}
use Rattle.elaboration_law.proofs.RightStatements.{processes_grow}

-- ---- uses at their places

abbrev pub all_suit : List UseAt → Bool
all_suit list = all_fit is_suited_later list

all_at_place : (place : Place) (list : List Use) → all_suit (at_place place list) ≡ suit place list
all_at_place place [] = refl
all_at_place place (one ∷ more) = ap (λ (b : Bool). is_suited_later place one && b) (all_at_place place more)

all_joined : (xs ys : List UseAt) → all_suit (xs ++ ys) ≡ (all_suit xs && all_suit ys)
all_joined xs ys = list_all-append (λ (it : UseAt). is_suited_later it.place it.one) xs ys

both_suit : (xs ys : List UseAt) → all_suit xs ≡ true → all_suit ys ≡ true → all_suit (xs ++ ys) ≡ true
both_suit xs ys e f = all_joined xs ys ∙ λ i. e i && f i

-- ---- constants

constant_suits : (place : Place) (tree : text.ExpressionTree) → all_suit (at_place place (used_in true tree)) ≡ true
constant_suits place tree = all_at_place place (used_in true tree) ∙ constants_hold place tree

range_suits : (place : Place) (range : Option RangeTree) → all_suit (at_place place (used_in_range range)) ≡ true
range_suits place None = refl
range_suits place (Some range) =
    all_at_place place (used_in true range.left ++ used_in true range.right) ∙ list_all-append (is_suited_later place) (used_in true range.left) (used_in true range.right)
    ∙ λ i. constants_hold place range.left i && constants_hold place range.right i

type_suits : (place : Place) (type : Option ParameterType) → all_suit (at_place place (used_in_type type)) ≡ true
type_suits place None = refl
type_suits place (Some (integer long)) = refl
type_suits place (Some (typed type)) = range_suits place type.range

outside_suits : (place : Place) (value : Option text.ExpressionTree) → all_suit (at_place place (used_outside value)) ≡ true
outside_suits place None = refl
outside_suits place (Some value) = constant_suits place value

declaration_suits : (place : Place) (item : ItemTree) → all_suit (at_place place (used_in_declaration item)) ≡ true
declaration_suits place (parameters local type settings) = refl
declaration_suits place (declaration (variables word type) list) = range_suits place type.range
declaration_suits place (declaration (integers long) list) = refl
declaration_suits place (declaration (directed direction) list) = range_suits place (type_in direction).range
declaration_suits place (events names) = refl
declaration_suits place (assignments settings) = refl
declaration_suits place (initial statement) = refl
declaration_suits place (always statement) = refl
declaration_suits place (instances name overrides list) = refl

module _ (m : ModuleTree) where
  again_suits : (place : Place) (again : Option Second) → all_suit (at_place place (used_again again)) ≡ true
  again_suits place None = refl
  again_suits place (Some second) = range_suits place second.type.range

  ports_suit : (ports : List Port) → all_suit (flat_map (used_in_port m) ports) ≡ true
  ports_suit [] = refl
  ports_suit (p ∷ more) = both_suit (used_in_port m p) (flat_map (used_in_port m) more)
      (both_suit (at_place (port_place m) (used_in_range p.type.range)) (at_place (port_place m) (used_again p.again)) (range_suits (port_place m) p.type.range) (again_suits (port_place m) p.again)) (ports_suit more)

  declarations_suit : (before items : List ItemTree) → all_suit (used_by_items m used_in_declaration before items) ≡ true
  declarations_suit before [] = refl
  declarations_suit before (item ∷ more) =
      both_suit (at_place (place_behind m before) (used_in_declaration item)) (used_by_items m used_in_declaration (before ++ item ∷ []) more)
      (declaration_suits (place_behind m before) item) (declarations_suit (before ++ item ∷ []) more)

  module _ (outside : Place) (values connections : List NamedConnection) where
    symbol_suits : (names : List Text) (one : Symbol) → all_suit (used_in_symbol m outside values connections names one) ≡ true
    symbol_suits names (parameter_symbol type setting) =
        let place = place_after m names in
        both_suit (at_place place (used_in_type type)) (at_place place (used_in true setting.value) ++ at_place outside (used_outside (value_for values setting.name.letters))) (type_suits place type)
        (both_suit (at_place place (used_in true setting.value)) (at_place outside (used_outside (value_for values setting.name.letters))) (constant_suits place setting.value) (outside_suits outside (value_for values setting.name.letters)))
    symbol_suits names (event_symbol name) = refl
    symbol_suits names (instance_symbol name) = refl

    symbols_suit : (names : List Text) (list : List Symbol) → all_suit (used_in_symbols m outside values connections names list) ≡ true
    symbols_suit names [] = refl
    symbols_suit names (one ∷ more) =
        both_suit (used_in_symbol m outside values connections names one) (used_in_symbols m outside values connections (names ++ (name_in one).letters ∷ []) more)
        (symbol_suits names one) (symbols_suit (names ++ (name_in one).letters ∷ []) more)

    -- what is left of an instance's uses
    instance_suits : (path : Text) → all_suit (used_in_instance m outside values connections path) ≡
        (all_suit (flat_map (used_in_connection m outside values connections) (ports_of m)) && all_suit (used_by_own_processes m path))
    instance_suits path =
        let in_symbols = used_in_symbols m outside values connections (variables_of m) (symbols_of m) in
        let in_variables = flat_map (used_in_port m) (ports_of m) ++ used_by_items m used_in_declaration [] m.items in
        let in_connections = flat_map (used_in_connection m outside values connections) (ports_of m) in
        let in_items = used_by_own_processes m path in
        all_joined in_symbols (in_variables ++ (in_connections ++ in_items))
        ∙ ap (λ (b : Bool). b && all_suit (in_variables ++ (in_connections ++ in_items))) (symbols_suit (variables_of m) (symbols_of m))
        ∙ all_joined in_variables (in_connections ++ in_items)
        ∙ ap (λ (b : Bool). b && all_suit (in_connections ++ in_items))
        (both_suit (flat_map (used_in_port m) (ports_of m)) (used_by_items m used_in_declaration [] m.items) (ports_suit (ports_of m)) (declarations_suit [] m.items))
        ∙ all_joined in_connections in_items

-- ---- processes

module _ (vs : List Variable) where
  abbrev pub all_right : Table → Bool
  all_right table = list_all (is_right vs) table.actions

  abbrev of_processes : Processes → Bool
  of_processes p = all_right p.table

  begun : (b : Bool) (before : List (List ℕ)) (a : Result Processes ElabFault) → Says of_processes b a → Says of_processes b (with_begins_before before a)
  begun b before a s = last_says of_processes of_processes b a _ s (λ processes. refl)

  acted : (table : Table) (action : Action) → list_all (is_right vs) (table.actions ++ action ∷ []) ≡ (all_right table && is_right vs action)
  acted table action = list_all-append (is_right vs) table.actions (action ∷ []) ∙ ap (λ (b : Bool). all_right table && b) (sym (and_true (is_right vs action)))

  items_grow : (m : ModuleTree) (path : Text) (scope : Scope) (table : Table) (before items : List ItemTree) → Stands m before items scope → Real vs (place_behind m before) scope →
      Says of_processes (all_right table && all_suit (used_by_items m (used_in_placed path) before items)) (lower_items scope table (map (placed_item path) items))
  items_grow m path scope table before [] s real = and_true (all_right table)
  items_grow m path scope table before (item ∷ more) s real =
      let place = place_behind m before in
      let own = placed_item path item in
      let others = map (placed_item path) more in
      let here = suit place (used_in_processes own) in
      let rest = all_suit (used_by_items m (used_in_placed path) (before ++ item ∷ []) more) in
      subst (λ (x : Bool). Says of_processes x (lower_items scope table (own ∷ others)))
      (and_assoc (all_right table) here rest ∙ ap (λ (x : Bool). all_right table && x) (ap (λ (x : Bool). x && rest) (sym (all_at_place place (used_in_processes own)))
      ∙ sym (all_joined (at_place place (used_in_processes own)) (used_by_items m (used_in_placed path) (before ++ item ∷ []) more))))
      (through of_processes of_processes (λ d. d && rest) (all_right table && here) (lower_processes scope table (process_trees_by own)) _
      (processes_grow vs place scope (stands_at m before (item ∷ more) scope s) real table (process_trees_by own)) (λ front.
      begun (all_right front.table && rest) front.begins (lower_items (behind_item scope own) front.table others)
      (subst (λ (x : Scope). Says of_processes (all_right front.table && rest) (lower_items x front.table others)) (sym (placed_behind path scope item))
      (items_grow m path (behind_item scope item) front.table (before ++ item ∷ []) more (stands_on m before more item scope s) real))))

  own_items_grow : (m : ModuleTree) (path : Text) (scope : Scope) (table : Table) → Stands m [] m.items scope → Real vs (place_behind m []) scope →
      Says of_processes (all_right table && all_suit (used_by_own_processes m path)) (lower_items scope table (placed_items path m))
  own_items_grow m path scope table s real =
      let place = place_behind m [] in
      let item = port_values m in
      let here = suit place (used_in_processes item) in
      let rest = all_suit (used_by_items m (used_in_placed path) [] m.items) in
      subst (λ (x : Bool). Says of_processes x (lower_items scope table (placed_items path m)))
      (and_assoc (all_right table) here rest ∙ ap (λ (x : Bool). all_right table && x) (ap (λ (x : Bool). x && rest) (sym (all_at_place place (used_in_processes item)))
      ∙ sym (all_joined (at_place place (used_in_processes item)) (used_by_items m (used_in_placed path) [] m.items))))
      (through of_processes of_processes (λ d. d && rest) (all_right table && here) (lower_processes scope table (process_trees_by item)) _
      (processes_grow vs place scope (stands_at m [] m.items scope s) real table (process_trees_by item)) (λ front.
      begun (all_right front.table && rest) front.begins (lower_items (behind_item scope item) front.table (map (placed_item path) m.items))
      (items_grow m path (behind_item scope item) front.table [] m.items (values_stand m scope s) real)))

  -- ---- connections

  module _ (m : ModuleTree) (outside : Place) (values connections : List NamedConnection) (here there : Scope) (at_here : IsAt (place_behind m []) here) (at_there : IsAt outside there)
      (real_here : Real vs (place_behind m []) here) (real_there : Real vs outside there) where
    abbrev inside : Place
    inside = place_behind m []

    input_right : (port : Word) (value : text.ExpressionTree) →
        Says (is_right vs) (all_suit (at_place inside (use_of Driven false port ∷ []) ++ at_place outside (used_in false value))) (lower_input there here port value)
    input_right port value =
        let one = suit inside (use_of Driven false port ∷ []) in
        let other = suit outside (used_in false value) in
        subst (λ (x : Bool). Says (is_right vs) x (lower_input there here port value))
        ((λ i. sym (all_at_place inside (use_of Driven false port ∷ [])) i && sym (all_at_place outside (used_in false value)) i) ∙ sym (all_joined (at_place inside (use_of Driven false port ∷ [])) (at_place outside (used_in false value))))
        (through (row_right vs true) (is_right vs) (λ d. d && other) one (lower_net_target here (written.whole port)) _ (target_says vs inside here at_here real_here true (written.whole port)) (λ targets.
        through (bits_in vs) (is_right vs) (λ d. row_right vs true targets && d) other (lower_expression there value) _ (lower_says vs outside there at_there real_there false value) (λ e. driven_right vs targets e)))

    output_right : (whose port : Word) (target : Option TargetTree) →
        Says (is_right vs) (all_suit (used_by_output m outside values connections port target)) (lower_output whose there here port target)
    output_right whose port None = tt
    output_right whose port (Some target) =
        let one = suit outside (used_in_target_by true target) in
        let other = suit inside (use_of Read false port ∷ []) in
        subst (λ (x : Bool). Says (is_right vs) x (lower_output whose there here port (Some target)))
        ((λ i. sym (all_at_place outside (used_in_target_by true target)) i && sym (all_at_place inside (use_of Read false port ∷ [])) i)
        ∙ sym (all_joined (at_place outside (used_in_target_by true target)) (at_place inside (use_of Read false port ∷ []))))
        (through (row_right vs true) (is_right vs) (λ d. d && other) one (lower_net_target there target) _ (target_says vs outside there at_there real_there true target) (λ targets.
        through (bits_in vs) (is_right vs) (λ d. row_right vs true targets && d) other (lower_expression here (text.name port)) _ (lower_says vs inside here at_here real_here false (text.name port)) (λ e. driven_right vs targets e)))

    connection_right : (whose : Word) (p : Port) (value : text.ExpressionTree) → Says (is_right vs) (all_suit (used_at_port m outside values connections p.output p.name value)) (lower_connection whose there here p value)
    connection_right whose p value = by p.output
      where
        by : (out : Bool) → Says (is_right vs) (all_suit (used_at_port m outside values connections out p.name value)) (if out then lower_output whose there here p.name (target_of value) else lower_input there here p.name value)
        by true = output_right whose p.name (target_of value)
        by false = input_right p.name value

    join_grows : (whose : Word) (table : Table) (p : Port) (value : Option text.ExpressionTree) →
        Says of_processes (all_right table && all_suit (used_if_connected m outside values connections p value)) (lower_join whose there here table p value)
    join_grows whose table p None = and_true (all_right table)
    join_grows whose table p (Some value) =
        through (is_right vs) of_processes (λ d. all_right table && d) (all_suit (used_at_port m outside values connections p.output p.name value)) (lower_connection whose there here p value) _
        (connection_right whose p value) (λ action. acted table action)

    joins_grow : (whose : Word) (table : Table) (ports : List Port) →
        Says of_processes (all_right table && all_suit (flat_map (used_in_connection m outside values connections) ports)) (lower_joins whose there here connections table ports)
    joins_grow whose table [] = and_true (all_right table)
    joins_grow whose table (p ∷ more) =
        let one = all_suit (used_in_connection m outside values connections p) in
        let rest = all_suit (flat_map (used_in_connection m outside values connections) more) in
        subst (λ (x : Bool). Says of_processes x (lower_joins whose there here connections table (p ∷ more)))
        (and_assoc (all_right table) one rest ∙ ap (λ (x : Bool). all_right table && x) (sym (all_joined (used_in_connection m outside values connections p) (flat_map (used_in_connection m outside values connections) more))))
        (through of_processes of_processes (λ d. d && rest) (all_right table && one) (lower_join whose there here table p (value_for connections p.name.letters)) _ (join_grows whose table p (value_for connections p.name.letters)) (λ front.
        begun (all_right front.table && rest) front.begins (lower_joins whose there here connections front.table more) (joins_grow whose front.table more)))

  -- ---- an instance's own steps

  pub own_grows : (context : Context) (outside : Place) (scope : Scope) (table : Table) (processes : Processes) → IsAt outside context.overrides.scope → Real vs outside context.overrides.scope →
      Stands context.unit [] context.unit.items scope → Real vs (place_behind context.unit []) scope → lower_own_processes context (ports_of context.unit) scope table ≡ Ok processes →
      all_right processes.table ≡ (all_right table && all_suit (used_in_instance context.unit outside context.overrides.values context.connections context.path))
  own_grows context outside scope table processes around real_around s real is =
      subst (Says of_processes (all_right table && all_suit (used_in_instance context.unit outside context.overrides.values context.connections context.path))) is
      (subst (λ (x : Bool). Says of_processes x (lower_own_processes context (ports_of context.unit) scope table))
      (and_assoc (all_right table) in_connections in_items ∙ ap (λ (x : Bool). all_right table && x) (sym (instance_suits context.unit outside context.overrides.values context.connections context.path)))
      (through of_processes of_processes (λ d. d && in_items) (all_right table && in_connections) (lower_joins context.name context.overrides.scope scope context.connections table (ports_of context.unit)) _
      (joins_grow context.unit outside context.overrides.values context.connections scope context.overrides.scope (stands_at context.unit [] context.unit.items scope s) around real real_around context.name table (ports_of context.unit)) (λ joins.
      begun (all_right joins.table && in_items) joins.begins (lower_items scope joins.table (placed_items context.path context.unit)) (own_items_grow context.unit context.path scope joins.table s real))))
    where
      in_connections : Bool
      in_connections = all_suit (flat_map (used_in_connection context.unit outside context.overrides.values context.connections) (ports_of context.unit))

      in_items : Bool
      in_items = all_suit (used_by_own_processes context.unit context.path)

-- ---- its own variables, in a finished design

-- what matters of a variable
record Shape : Type 0 where
  pub ranged : Bool
  pub net : Bool

abbrev shape : Variable → Shape
shape v = record { ranged = has_bits (Some v); net = is_some_net (Some v) }

abbrev declared_shape : Declaration → Shape
declared_shape d = record { ranged = is_ranged d; net = is_net d.kind }

bounds_alike : (scope : Scope) (range : Option RangeTree) (bounds : Option Bounds) → lower_bounds scope range ≡ Ok bounds → is_some bounds ≡ is_some range
bounds_alike scope None bounds is = sym (ap is_some (same_value None bounds is))
bounds_alike scope (Some range) bounds is =
    let one = then_ok (lower_range scope range) (λ b. Ok (Some b)) bounds is in
    sym (ap is_some (same_value (Some one.0) bounds one.2))

module _ (path : Text) where
  ports_shaped : (scope : Scope) (list : List Port) (made : List Variable) → lower_ports path scope list ≡ Ok made → map shape made ≡ map declared_shape (map port_declaration list)
  ports_shaped scope [] made is = sym (ap (map shape) (same_value [] made is))
  ports_shaped scope (p ∷ more) made is =
      let one = then_ok (lower_port path scope p) (λ one. lower_ports path scope more >>= λ others. Ok (one ∷ others)) made is in
      let others = then_ok (lower_ports path scope more) (λ others. Ok (one.0 ∷ others)) made one.2 in
      let bounds = then_ok (lower_bounds scope p.type.range) (λ bounds. lower_again scope p.again bounds >>= λ whole. Ok (variable_in path (port_form p whole) p.name.letters)) one.0 one.1 in
      let whole = then_ok (lower_again scope p.again bounds.0) (λ whole. Ok (variable_in path (port_form p whole) p.name.letters)) one.0 bounds.2 in
      let some = ap is_some (sym (again_keeps scope p.again bounds.0 whole.0 whole.1)) ∙ bounds_alike scope p.type.range bounds.0 bounds.1 in
      sym (ap (map shape) (same_value (one.0 ∷ others.0) made others.2))
      ∙ ap (λ (v : Variable). shape v ∷ map shape others.0) (sym (same_value (variable_in path (port_form p whole.0) p.name.letters) one.0 whole.2))
      ∙ (λ i. record { ranged = kind_has_bits (port_kind p) (some i); net = is_net (port_kind p) } ∷ ports_shaped scope more others.0 others.1 i)

  all_shaped : (form : Form) (kind : Kind) (signed : Bool) (range : Option RangeTree) (list : List DeclaredTree) → kind_has_bits form.kind (is_some form.bounds) ≡ kind_has_bits kind (is_some range) → is_net form.kind ≡ is_net kind →
      map shape (variables_in path form list) ≡ map declared_shape (all_declared kind signed range list)
  all_shaped form kind signed range [] e f = refl
  all_shaped form kind signed range (one ∷ more) e f = λ i. record { ranged = e i; net = f i } ∷ all_shaped form kind signed range more e f i

  kind_shaped : (scope : Scope) (form : Form) (kind : DeclarationKind) (list : List DeclaredTree) → lower_kind scope kind ≡ Ok form → map shape (variables_as path form kind list) ≡ map declared_shape (declared_as kind list)
  kind_shaped scope form (variables word type) list is =
      let bounds = then_ok (lower_bounds scope type.range) (λ bounds. Ok (form_of word type.signed bounds)) form is in
      let same = same_value (form_of word type.signed bounds.0) form bounds.2 in
      all_shaped form (kind_of word) type.signed type.range list
      (ap (λ (f : Form). kind_has_bits f.kind (is_some f.bounds)) (sym same) ∙ ap (kind_has_bits (kind_of word)) (bounds_alike scope type.range bounds.0 bounds.1)) (ap (λ (f : Form). is_net f.kind) (sym same))
  kind_shaped scope form (integers long) list is =
      let same = same_value (record { kind = integer_kind long; signed = not long; bounds = None }) form is in
      all_shaped form (integer_kind long) (not long) None list (ap (λ (f : Form). kind_has_bits f.kind (is_some f.bounds)) (sym same)) (ap (λ (f : Form). is_net f.kind) (sym same))
  kind_shaped scope form (directed direction) list is = refl

  item_shaped : (scope : Scope) (item : ItemTree) (made : List Variable) → lower_declaration path scope item ≡ Ok made → map shape made ≡ map declared_shape (declarations_of item)
  item_shaped scope (parameters local type settings) made is = sym (ap (map shape) (same_value [] made is))
  item_shaped scope (declaration kind list) made is =
      let form = then_ok (lower_kind scope kind) (λ form. Ok (variables_as path form kind list)) made is in
      sym (ap (map shape) (same_value (variables_as path form.0 kind list) made form.2)) ∙ kind_shaped scope form.0 kind list form.1
  item_shaped scope (events names) made is = sym (ap (map shape) (same_value [] made is))
  item_shaped scope (assignments settings) made is = sym (ap (map shape) (same_value [] made is))
  item_shaped scope (initial statement) made is = sym (ap (map shape) (same_value [] made is))
  item_shaped scope (always statement) made is = sym (ap (map shape) (same_value [] made is))
  item_shaped scope (instances letters overrides list) made is = sym (ap (map shape) (same_value [] made is))

  variables_shaped : (scope : Scope) (items : List ItemTree) (made : List Variable) → lower_variables path scope items ≡ Ok made → map shape made ≡ map declared_shape (flat_map declarations_of items)
  variables_shaped scope [] made is = sym (ap (map shape) (same_value [] made is))
  variables_shaped scope (item ∷ more) made is =
      let front = then_ok (lower_declaration path scope item) (λ front. lower_variables path (behind_item scope item) more >>= λ others. Ok (front ++ others)) made is in
      let others = then_ok (lower_variables path (behind_item scope item) more) (λ others. Ok (front.0 ++ others)) made front.2 in
      sym (ap (map shape) (same_value (front.0 ++ others.0) made others.2))
      ∙ map-append shape front.0 others.0
      ∙ (λ i. item_shaped scope item front.0 front.1 i ++ variables_shaped (behind_item scope item) more others.0 others.1 i)
      ∙ sym (map-append declared_shape (declarations_of item) (flat_map declarations_of more))

module _ (modules : SourceTree) (part : PartialDesign) (context : Context) (own : Own modules part context) where
  abbrev made : List Variable
  made = (own_steps modules part context own).variables_made

  abbrev declared : List Declaration
  declared = map port_declaration (ports_of context.unit) ++ declarations context.unit

  own_shaped : map shape made ≡ map declared_shape declared
  own_shaped =
      let s = own_steps modules part context own in
      let d = context.path in
      sym (ap (map shape) s.both_made)
      ∙ map-append shape s.ports_are s.others_are
      ∙ (λ i. ports_shaped d (port_scope context.unit own.scope) (ports_of context.unit) s.ports_are s.ports_made i ++ variables_shaped d own.scope (own_items context.unit) s.others_are s.others_made i)
      ∙ sym (map-append declared_shape (map port_declaration (ports_of context.unit)) (declarations context.unit))

  -- where the design's variables begin with those up to this instance
  pub own_real : (vs rest : List Variable) → (part.variables ++ made) ++ rest ≡ vs → own.scope.first ≡ length part.variables → own.scope.variables ≡ length (variables_of context.unit) → Real vs (place_behind context.unit []) own.scope
  own_real vs rest whole first count k d lt is =
      let same = count_declared context.unit in
      let one = there_is declared k (omega (arith, lt, count, same)) in
      let there = got_in_front (map a_variable declared) (map thing_by (symbols_of context.unit)) k (a_variable one.0) (got_mapped a_variable declared k one.0 one.1) in
      let joined : Some (a_variable one.0) ≡ Some (a_variable d) = sym there ∙ is in
      let alike : one.0 ≡ d = cc in
      let long = length-map made shape in
      let longs = ap length own_shaped in
      let other = length-map declared declared_shape in
      let v = there_is made k (omega (arith, lt, count, same, long, longs, other)) in
      let shapes : Some (shape v.0) ≡ Some (declared_shape one.0) =
      sym (got_mapped shape made k v.0 v.1) ∙ ap (λ (l : List Shape). slice_get l k) own_shaped ∙ got_mapped declared_shape declared k one.0 one.1 in
      let shaped : shape v.0 ≡ declared_shape one.0 = cc in
      let found : slice_get vs (own.scope.first + k) ≡ Some v.0 =
      sym (ap (λ (l : List Variable). slice_get l (own.scope.first + k)) (sym (append_assoc part.variables made rest) ∙ whole))
      ∙ got_behind part.variables (made ++ rest) k (own.scope.first + k) (omega (arith, first)) ∙ got_in_front made rest k v.0 v.1 in (
        ap has_bits found ∙ ap (λ (s : Shape). s.ranged) shaped ∙ ap is_ranged alike,
        ap is_some_net found ∙ ap (λ (s : Shape). s.net) shaped ∙ ap (λ (x : Declaration). is_net x.kind) alike,
      )
