-- What an instance uses: where its own steps are answered all of it fits its place, and where the rule is told something doesn't.
use Rattle.std.proofs.Common.{◌≡◌, ℕ, ◌+◌, nat_le, nat_lt, Bool, true, false, not, if◌then◌else◌, List, [], ◌∷◌, ◌++◌, map, length, Option, Some, None, Result, Ok, Err, refl, sym, ap, subst, ◌∙◌, append_assoc, ◌&&◌}
use Rattle.std.specs.List.{list_all, flat_map}
use Rattle.std.proofs.lemmas.List.{append-nil}
use Rattle.vwords.specs.Words.{Text}
use Rattle.vast.specs.NumberedWords.{Word}
use Rattle.vast.specs.NumberedExpressions as text
use Rattle.vast.specs.NumberedStatements.{TargetTree}
use Rattle.vast.specs.NumberedStatements as written
use Rattle.vast.specs.NumberedModules.{ConnectionsTree, InstanceTree, ParameterType, integer, typed, DeclarationKind, variables, integers, directed, ItemTree, parameters, declaration, events, assignments, initial, always, instances, ModuleTree, SourceTree}
use Rattle.vmodules.specs.Names.{is_declared, letters_of, first_again}
use Rattle.vmodules.specs.Hierarchy.{module_of}
use Rattle.vmodules.specs.Ports.{Second, Port, type_in, plain_names, is_plain_list, own_item, own_items, ports_of, port_values}
use Rattle.vmodules.specs.Placed.{placed_item, placed_items}
use Rattle.vmodules.specs.Connected.{NamedConnection, open_names, misfit, misfit_if, value_for}
use Rattle.velab_expr.specs.declared.fault.Rule.{Rule}
use Rattle.velab_expr.specs.declared.fault.Rule.TheVariants.{Top, Doubled, Drivers, Ports, Width, Depth, TooMany}
use Rattle.velab_expr.specs.declared.fault.ElabFault.{ElabFault}
use Rattle.velab_expr.specs.declared.scope.Meaning.TheVariants.{Event}
use Rattle.velab_expr.specs.Answers.{◌>>=◌, require, answer_if}
use Rattle.vdesign.specs.declared.expression.Bounds.{Bounds}
use Rattle.velab_expr.specs.Scopes.{Scope, at}
use Rattle.velab_expr.specs.Ranges.{lower_bounds}
use Rattle.velab_expr.specs.Resolved.{lower_constant, lower_expression}
use Rattle.velab_expr.specs.Symbols.{Symbol, parameter_symbol, event_symbol, instance_symbol, name_in, valueless_by, symbols_in_head, symbols_by, behind_item}
use Rattle.velab_declaration.specs.Parameters.{Overrides, Base, lower_type, lower_parameter_value, lower_setting, lower_meaning, with_meaning, add_symbol, add_symbols, first_scope, item_scope}
use Rattle.velab_declaration.specs.Variables.{port_names, declared_names, lower_kind, lower_declaration, lower_variables, same_bounds, lower_again, lower_port, port_scope, lower_ports}
use Rattle.velab_expr.specs.Written.{lower_net_target, target_of}
use Rattle.velab_process.specs.Statements.{Table}
use Rattle.velab_process.specs.Processes.{Processes, process_trees_by, lower_processes, lower_items, with_begins_before}
use Rattle.velab_process.specs.Connections.{lower_input, lower_output, lower_connection, lower_join, lower_joins}
use Rattle.vhierarchy.specs.Instances.{unless_word, Instantiation, instantiation_by, lower_instance, lower_list, named_again, lower_instances_of, lower_instances_by, lower_instances, lower_own_variables, lower_own_processes, with_own, few_enough, lower_own, base_of, lower_names, PartialDesign, Context, has_room}
use Rattle.elaboration_law.specs.Uses.{Use, Read, Driven, use_of, used_in, used_in_range, used_in_target_by}
use Rattle.elaboration_law.specs.Places.{Place, UseAt, at_place, all_fit, variables_of, place_behind, place_after, used_in_type, used_outside, used_by_output, used_at_port, used_if_connected, used_in_kind, used_in_declaration, used_in_processes, used_in_placed, used_in_symbol, used_in_symbols, used_again, port_place, used_in_port, used_in_connection, used_by_items, used_by_own_processes, used_in_instance}
use Rattle.elaboration_law.proofs.HierarchyLemmas.{Own, OwnFault, in_names, in_instances, in_own}
use Rattle.elaboration_law.proofs.UseLemmas.{Judges, Question, Fits, then_judges, known_judges, nothing_more, last_judges, required_judges, provided_judges, barring_judges}
use Rattle.elaboration_law.proofs.ExpressionUses.{constant_knows, bounds_know, expression_knows, target_knows}
use Rattle.elaboration_law.proofs.StatementUses.{processes_know}
use Rattle.elaboration_law.proofs.NameRules.{names_added}
use Rattle.elaboration_law.proofs.PlaceLemmas.{IsAt, Grown, grown_at, firm_by, firm_behind, first_grown, symbol_makes, symbol_grown, symbols_grown, Stands, stands_at, stands_on, values_stand, stands_last, names_stand}
use Rattle.elaboration_law.proofs.AgainLemmas.{same_behind, placed_behind}

-- a rule about what is used, that no other step tells
pub record UseRule : Type 1 where
  pub question : Question
  pub rule : Rule
  pub fits : Place → Use → Bool
  pub alike : (place : Place) (scope : Scope) → IsAt place scope → (one : Use) → question.fits scope one ≡ fits place one
  pub is_asked : question.asked rule ≡ true
  pub no_top : question.asked Top ≡ false
  pub no_doubled : question.asked Doubled ≡ false
  pub no_drivers : question.asked Drivers ≡ false
  pub no_ports : question.asked Ports ≡ false
  pub no_depth : question.asked Depth ≡ false
  pub no_many : question.asked TooMany ≡ false
  pub no_width : question.asked Width ≡ false

-- the answer is one only where all of these fit, and a fault of the rule only where one doesn't
abbrev pub Judged : {A : Type 0} → UseRule → List UseAt → Result A ElabFault → Type 0
Judged r uses answer = Judges r.question.asked (all_fit r.fits uses) answer

module _ (r : UseRule) where
  abbrev asked : Rule → Bool
  asked = r.question.asked

  abbrev test : UseAt → Bool
  test it = r.fits it.place it.one

  all_alike : (place : Place) (scope : Scope) → IsAt place scope → (list : List Use) → list_all (r.question.fits scope) list ≡ all_fit r.fits (at_place place list)
  all_alike place scope h [] = refl
  all_alike place scope h (one ∷ more) = λ i. r.alike place scope h one i && all_alike place scope h more i

  judged_by : {A : Type 0} (place : Place) (scope : Scope) (uses : List Use) (answer : Result A ElabFault) → IsAt place scope → Fits r.question scope uses answer → Judged r (at_place place uses) answer
  judged_by place scope uses answer h j = subst (λ (b : Bool). Judges asked b answer) (all_alike place scope h uses) j

  abbrev both : {A B : Type 0} (xs ys : List UseAt) (a : Result A ElabFault) (next : A → Result B ElabFault) → Judged r xs a → ((x : A) → Judged r ys (next x)) → Judged r (xs ++ ys) (a >>= next)
  both xs ys a next h more = then_judges asked test xs ys a next h more

  abbrev known : {A B : Type 0} (xs ys : List UseAt) (a : Result A ElabFault) (next : A → Result B ElabFault) → Judged r xs a → ((x : A) → a ≡ Ok x → Judged r ys (next x)) → Judged r (xs ++ ys) (a >>= next)
  known xs ys a next h more = known_judges asked test xs ys a next h more

  abbrev last : {A B : Type 0} (xs : List UseAt) (a : Result A ElabFault) (next : A → Result B ElabFault) → Judged r xs a → ((x : A) → Judges asked true (next x)) → Judged r xs (a >>= next)
  last xs a next h more = last_judges asked (all_fit r.fits xs) a next h more

  -- ---- parameters

  module _ (m : ModuleTree) (outside : Place) (overrides : Overrides) (connections : List NamedConnection) (around : IsAt outside overrides.scope) where
    abbrev by_symbol : List Text → Symbol → List UseAt
    by_symbol = used_in_symbol m outside overrides.values connections

    abbrev by_symbols : List Text → List Symbol → List UseAt
    by_symbols = used_in_symbols m outside overrides.values connections

    type_judged : (place : Place) (scope : Scope) (type : Option ParameterType) → IsAt place scope → Judged r (at_place place (used_in_type type)) (lower_type scope type)
    type_judged place scope None h = refl
    type_judged place scope (Some (integer long)) h = refl
    type_judged place scope (Some (typed type)) h = judged_by place scope (used_in_range type.range) (lower_bounds scope type.range) h (bounds_know r.question scope type.range)

    value_judged : (place : Place) (scope : Scope) (value : text.ExpressionTree) (other : Option text.ExpressionTree) → IsAt place scope →
        Judged r (at_place place (used_in true value) ++ at_place outside (used_outside other)) (lower_parameter_value overrides.scope scope value other)
    value_judged place scope value None h =
        nothing_more asked test (at_place place (used_in true value)) (lower_constant scope value) (judged_by place scope (used_in true value) (lower_constant scope value) h (constant_knows r.question scope value))
    value_judged place scope value (Some other) h =
        both (at_place place (used_in true value)) (at_place outside (used_in true other)) (lower_constant scope value) _
        (judged_by place scope (used_in true value) (lower_constant scope value) h (constant_knows r.question scope value)) (λ own.
        judged_by outside overrides.scope (used_in true other) (lower_constant overrides.scope other) around (constant_knows r.question overrides.scope other))

    meaning_judged : (scope : Scope) (one : Symbol) → IsAt (place_after m scope.names) scope → Judged r (by_symbol scope.names one) (lower_meaning overrides scope one)
    meaning_judged scope (parameter_symbol type setting) h =
        let place = place_after m scope.names in
        let other = value_for overrides.values setting.name.letters in
        both (at_place place (used_in_type type)) (at_place place (used_in true setting.value) ++ at_place outside (used_outside other)) (lower_type scope type) _ (type_judged place scope type h) (λ bounds.
        last (at_place place (used_in true setting.value) ++ at_place outside (used_outside other)) (lower_setting overrides scope setting) _ (value_judged place scope setting.value other h) (λ value. refl))
    meaning_judged scope (event_symbol name) h = required_judges asked (nat_lt scope.events 4294967295) TooMany (Some name) (Event scope.events) r.no_many
    meaning_judged scope (instance_symbol name) h = refl

    symbols_judged : (firm : ℕ) (left : List Symbol) (scope : Scope) (list : List Symbol) → Grown m firm (list ++ left) scope → Judged r (by_symbols scope.names list) (add_symbols overrides scope list)
    symbols_judged firm left scope [] g = refl
    symbols_judged firm left scope (one ∷ more) g =
        known (by_symbol scope.names one) (by_symbols (scope.names ++ (name_in one).letters ∷ []) more) (add_symbol overrides scope one) _
        (last (by_symbol scope.names one) (lower_meaning overrides scope one) _ (meaning_judged scope one (grown_at m firm ((one ∷ more) ++ left) scope g)) (λ meaning.
        required_judges asked (not (is_declared scope.names (name_in one).letters)) Doubled (Some (name_in one)) (with_meaning scope one meaning) r.no_doubled))
        (λ next is. let made = symbol_makes overrides scope next one is in
        subst (λ (s : Scope). Judged r (by_symbols (scope.names ++ (name_in one).letters ∷ []) more) (add_symbols overrides s more)) made.2
        (symbols_judged (firm_by firm scope.known one) left (with_meaning scope one made.0) more (symbol_grown overrides m firm (more ++ left) scope one made.0 made.1 g)))

    -- behind some symbols the others
    both_symbols : (names : List Text) (xs ys : List Symbol) (after : List Text) → after ≡ names ++ letters_of (map name_in xs) → by_symbols names (xs ++ ys) ≡ by_symbols names xs ++ by_symbols after ys
    both_symbols names [] ys after is = ap (λ (l : List Text). by_symbols l ys) (sym (append-nil names) ∙ sym is)
    both_symbols names (x ∷ xs) ys after is =
        ap (λ (l : List UseAt). by_symbol names x ++ l)
        (both_symbols (names ++ (name_in x).letters ∷ []) xs ys after (is ∙ sym (append_assoc names ((name_in x).letters ∷ []) (letters_of (map name_in xs)))))
        ∙ sym (append_assoc (by_symbol names x) (by_symbols (names ++ (name_in x).letters ∷ []) xs) (by_symbols after ys))

  -- ---- variables and processes

  kind_judged : (place : Place) (scope : Scope) (kind : DeclarationKind) → IsAt place scope → Judged r (at_place place (used_in_kind kind)) (lower_kind scope kind)
  kind_judged place scope (variables word type) h =
      last (at_place place (used_in_range type.range)) (lower_bounds scope type.range) _ (judged_by place scope (used_in_range type.range) (lower_bounds scope type.range) h (bounds_know r.question scope type.range)) (λ bounds. refl)
  kind_judged place scope (integers long) h = refl
  kind_judged place scope (directed direction) h =
      let range = (type_in direction).range in
      last (at_place place (used_in_range range)) (lower_bounds scope range) _ (judged_by place scope (used_in_range range) (lower_bounds scope range) h (bounds_know r.question scope range)) (λ bounds. refl)

  declaration_judged : (path : Text) (place : Place) (scope : Scope) (item : ItemTree) → IsAt place scope → Judged r (at_place place (used_in_declaration item)) (lower_declaration path scope item)
  declaration_judged path place scope (parameters local type settings) h = refl
  declaration_judged path place scope (declaration kind list) h = last (at_place place (used_in_kind kind)) (lower_kind scope kind) _ (kind_judged place scope kind h) (λ form. refl)
  declaration_judged path place scope (events names) h = refl
  declaration_judged path place scope (assignments settings) h = refl
  declaration_judged path place scope (initial statement) h = refl
  declaration_judged path place scope (always statement) h = refl
  declaration_judged path place scope (instances letters overrides list) h = refl

  begun_judged : (uses : List UseAt) (before : List (List ℕ)) (a : Result Processes ElabFault) → Judged r uses a → Judged r uses (with_begins_before before a)
  begun_judged uses before a h = last uses a _ h (λ processes. refl)

  module _ (m : ModuleTree) where
    -- without the names of ports an item uses the same
    same_uses : (is_port : Text → Bool) (item : ItemTree) → used_in_declaration (own_item is_port item) ≡ used_in_declaration item
    same_uses is_port (parameters local type settings) = refl
    same_uses is_port (declaration kind list) = refl
    same_uses is_port (events names) = refl
    same_uses is_port (assignments settings) = refl
    same_uses is_port (initial statement) = refl
    same_uses is_port (always statement) = refl
    same_uses is_port (instances letters overrides list) = refl

    variables_judged : (is_port : Text → Bool) (path : Text) (scope : Scope) (before items : List ItemTree) → Stands m before items scope →
        Judged r (used_by_items m used_in_declaration before items) (lower_variables path scope (map (own_item is_port) items))
    variables_judged is_port path scope before [] s = refl
    variables_judged is_port path scope before (item ∷ more) s =
        let own = own_item is_port item in
        let others = map (own_item is_port) more in
        both (at_place (place_behind m before) (used_in_declaration item)) (used_by_items m used_in_declaration (before ++ item ∷ []) more) (lower_declaration path scope own) _
        (subst (λ (l : List Use). Judged r (at_place (place_behind m before) l) (lower_declaration path scope own)) (same_uses is_port item)
        (declaration_judged path (place_behind m before) scope own (stands_at m before (item ∷ more) scope s))) (λ front.
        last (used_by_items m used_in_declaration (before ++ item ∷ []) more) (lower_variables path (behind_item scope own) others) _
        (subst (λ (x : Scope). Judged r (used_by_items m used_in_declaration (before ++ item ∷ []) more) (lower_variables path x others)) (sym (same_behind is_port scope item))
        (variables_judged is_port path (behind_item scope item) (before ++ item ∷ []) more (stands_on m before more item scope s))) (λ vs. refl))

    items_judged : (path : Text) (scope : Scope) (table : Table) (before items : List ItemTree) → Stands m before items scope →
        Judged r (used_by_items m (used_in_placed path) before items) (lower_items scope table (map (placed_item path) items))
    items_judged path scope table before [] s = refl
    items_judged path scope table before (item ∷ more) s =
        let place = place_behind m before in
        let own = placed_item path item in
        let others = map (placed_item path) more in
        let uses = used_by_items m (used_in_placed path) (before ++ item ∷ []) more in
        both (at_place place (used_in_processes own)) uses (lower_processes scope table (process_trees_by own)) _
        (judged_by place scope (used_in_processes own) (lower_processes scope table (process_trees_by own)) (stands_at m before (item ∷ more) scope s) (processes_know r.question scope table (process_trees_by own))) (λ front.
        begun_judged uses front.begins (lower_items (behind_item scope own) front.table others)
        (subst (λ (x : Scope). Judged r uses (lower_items x front.table others)) (sym (placed_behind path scope item))
        (items_judged path (behind_item scope item) front.table (before ++ item ∷ []) more (stands_on m before more item scope s))))

    -- the values of its ports, and then its items
    own_items_judged : (path : Text) (scope : Scope) (table : Table) → Stands m [] m.items scope → Judged r (used_by_own_processes m path) (lower_items scope table (placed_items path m))
    own_items_judged path scope table s =
        let place = place_behind m [] in
        let item = port_values m in
        let others = map (placed_item path) m.items in
        let uses = used_by_items m (used_in_placed path) [] m.items in
        both (at_place place (used_in_processes item)) uses (lower_processes scope table (process_trees_by item)) _
        (judged_by place scope (used_in_processes item) (lower_processes scope table (process_trees_by item)) (stands_at m [] m.items scope s) (processes_know r.question scope table (process_trees_by item))) (λ front.
        begun_judged uses front.begins (lower_items (behind_item scope item) front.table others)
        (items_judged path (behind_item scope item) front.table [] m.items (values_stand m scope s)))

    again_judged : (scope : Scope) (again : Option Second) (bounds : Option Bounds) → IsAt (port_place m) scope → Judged r (at_place (port_place m) (used_again again)) (lower_again scope again bounds)
    again_judged scope None bounds h = refl
    again_judged scope (Some second) bounds h =
        let range = second.type.range in
        last (at_place (port_place m) (used_in_range range)) (lower_bounds scope range) _
        (judged_by (port_place m) scope (used_in_range range) (lower_bounds scope range) h (bounds_know r.question scope range)) (λ other.
        required_judges asked (same_bounds bounds other) Width (Some second.name) bounds r.no_width)

    port_judged : (path : Text) (scope : Scope) (p : Port) → IsAt (port_place m) scope → Judged r (used_in_port m p) (lower_port path scope p)
    port_judged path scope p h =
        let range = p.type.range in
        both (at_place (port_place m) (used_in_range range)) (at_place (port_place m) (used_again p.again)) (lower_bounds scope range) _
        (judged_by (port_place m) scope (used_in_range range) (lower_bounds scope range) h (bounds_know r.question scope range)) (λ bounds.
        last (at_place (port_place m) (used_again p.again)) (lower_again scope p.again bounds) _ (again_judged scope p.again bounds h) (λ whole. refl))

    ports_judged : (path : Text) (scope : Scope) (ports : List Port) → IsAt (port_place m) scope → Judged r (flat_map (used_in_port m) ports) (lower_ports path scope ports)
    ports_judged path scope [] h = refl
    ports_judged path scope (p ∷ more) h =
        both (used_in_port m p) (flat_map (used_in_port m) more) (lower_port path scope p) _
        (port_judged path scope p h) (λ one.
        last (flat_map (used_in_port m) more) (lower_ports path scope more) _ (ports_judged path scope more h) (λ others. refl))

  -- ---- connections

  module _ (m : ModuleTree) (outside : Place) (values connections : List NamedConnection) (here there : Scope) (at_here : IsAt (place_behind m []) here) (at_there : IsAt outside there) where
    input_judged : (port : Word) (value : text.ExpressionTree) → Judged r (at_place (place_behind m []) (use_of Driven false port ∷ []) ++ at_place outside (used_in false value)) (lower_input there here port value)
    input_judged port value =
        both (at_place (place_behind m []) (use_of Driven false port ∷ [])) (at_place outside (used_in false value)) (lower_net_target here (written.whole port)) _
        (judged_by (place_behind m []) here (use_of Driven false port ∷ []) (lower_net_target here (written.whole port)) at_here (target_knows r.question here true (written.whole port))) (λ targets.
        last (at_place outside (used_in false value)) (lower_expression there value) _
        (judged_by outside there (used_in false value) (lower_expression there value) at_there (expression_knows r.question there value)) (λ e. refl))

    output_judged : (whose port : Word) (target : Option TargetTree) → Judged r (used_by_output m outside values connections port target) (lower_output whose there here port target)
    output_judged whose port None = λ e. absurd (let no = r.no_ports in cc)
    output_judged whose port (Some target) =
        both (at_place outside (used_in_target_by true target)) (at_place (place_behind m []) (use_of Read false port ∷ [])) (lower_net_target there target) _
        (judged_by outside there (used_in_target_by true target) (lower_net_target there target) at_there (target_knows r.question there true target)) (λ targets.
        last (at_place (place_behind m []) (use_of Read false port ∷ [])) (lower_expression here (text.name port)) _
        (judged_by (place_behind m []) here (use_of Read false port ∷ []) (lower_expression here (text.name port)) at_here (expression_knows r.question here (text.name port))) (λ e. refl))

    connection_judged : (whose : Word) (p : Port) (value : text.ExpressionTree) → Judged r (used_at_port m outside values connections p.output p.name value) (lower_connection whose there here p value)
    connection_judged whose p value = by p.output
      where
        by : (out : Bool) → Judged r (used_at_port m outside values connections out p.name value) (if out then lower_output whose there here p.name (target_of value) else lower_input there here p.name value)
        by true = output_judged whose p.name (target_of value)
        by false = input_judged p.name value

    join_judged : (whose : Word) (table : Table) (p : Port) (value : Option text.ExpressionTree) → Judged r (used_if_connected m outside values connections p value) (lower_join whose there here table p value)
    join_judged whose table p None = refl
    join_judged whose table p (Some value) =
        last (used_at_port m outside values connections p.output p.name value) (lower_connection whose there here p value) _ (connection_judged whose p value) (λ action. refl)

    joins_judged : (whose : Word) (table : Table) (ports : List Port) →
        Judged r (flat_map (used_in_connection m outside values connections) ports) (lower_joins whose there here connections table ports)
    joins_judged whose table [] = refl
    joins_judged whose table (p ∷ more) =
        let rest = flat_map (used_in_connection m outside values connections) more in
        both (used_in_connection m outside values connections p) rest (lower_join whose there here table p (value_for connections p.name.letters)) _ (join_judged whose table p (value_for connections p.name.letters)) (λ front.
        begun_judged rest front.begins (lower_joins whose there here connections front.table more) (joins_judged whose front.table more))

  -- ---- instances: nothing is used in what is looked at of them

  instance_silent : (child : ModuleTree) (before : ℕ) (overrides : Option ConnectionsTree) (one : InstanceTree) → Judges asked true (lower_instance child before overrides one)
  instance_silent child before overrides one =
      let word = misfit one.name (letters_of (port_names child)) one.connections in
      let made : Result Instantiation ElabFault = Ok (instantiation_by child before overrides one) in
      barring_judges asked true (misfit_if one.name (letters_of (open_names child)) overrides) Ports (unless_word word Ports made) r.no_ports (barring_judges asked true word Ports made r.no_ports refl)

  list_silent : (child : ModuleTree) (before : ℕ) (overrides : Option ConnectionsTree) (list : List InstanceTree) → Judges asked true (lower_list child before overrides list)
  list_silent child before overrides [] = refl
  list_silent child before overrides (one ∷ more) =
      last [] (lower_instance child before overrides one) _ (instance_silent child before overrides one) (λ front.
      last [] (lower_list child before overrides more) _ (list_silent child before overrides more) (λ others. refl))

  of_silent : (name : Word) (count before : ℕ) (child : Option ModuleTree) (overrides : Option ConnectionsTree) (list : List InstanceTree) → Judges asked true (lower_instances_of name count before child overrides list)
  of_silent name count before None overrides list = λ e. absurd (let no = r.no_top in cc)
  of_silent name count before (Some child) overrides list =
      let all = lower_list child before overrides list in
      provided_judges asked true (nat_le (count + length list) 1024) TooMany (Some name) (unless_word (named_again child) Doubled all) r.no_many
      (barring_judges asked true (named_again child) Doubled all r.no_doubled (list_silent child before overrides list))

  by_silent : (modules : SourceTree) (count before : ℕ) (item : ItemTree) → Judges asked true (lower_instances_by modules count before item)
  by_silent modules count before (parameters local type settings) = refl
  by_silent modules count before (declaration kind list) = refl
  by_silent modules count before (events names) = refl
  by_silent modules count before (assignments settings) = refl
  by_silent modules count before (initial statement) = refl
  by_silent modules count before (always statement) = refl
  by_silent modules count before (instances name overrides list) = of_silent name count before (module_of modules name.letters) overrides list

  instances_silent : (modules : SourceTree) (count before : ℕ) (items : List ItemTree) → Judges asked true (lower_instances modules count before items)
  instances_silent modules count before [] = refl
  instances_silent modules count before (item ∷ more) =
      last [] (lower_instances_by modules count before item) _ (by_silent modules count before item) (λ front.
      last [] (lower_instances modules (count + length front) (before + length (symbols_by item)) more) _
      (instances_silent modules (count + length front) (before + length (symbols_by item)) more) (λ others. refl))

  -- ---- an instance

  module _ (part : PartialDesign) (context : Context) (outside : Place) (around : IsAt outside context.overrides.scope) where
    abbrev base : Base
    base = base_of part context

    abbrev valueless : List Symbol
    valueless = flat_map valueless_by context.unit.items

    abbrev head : List Symbol
    head = symbols_in_head context.unit.parameters

    abbrev whole : List Symbol
    whole = flat_map symbols_by context.unit.items

    abbrev of_symbols : List Text → List Symbol → List UseAt
    of_symbols = used_in_symbols context.unit outside context.overrides.values context.connections

    abbrev by_all : List UseAt
    by_all = of_symbols (variables_of context.unit) (valueless ++ (head ++ whole))

    abbrev second : List Text
    second = variables_of context.unit ++ letters_of (map name_in valueless)

    abbrev third : List Text
    third = second ++ letters_of (map name_in head)

    in_steps : by_all ≡ of_symbols (variables_of context.unit) valueless ++ (of_symbols second head ++ of_symbols third whole)
    in_steps =
        both_symbols context.unit outside context.overrides context.connections around (variables_of context.unit) valueless (head ++ whole) second refl
        ∙ ap (λ (l : List UseAt). of_symbols (variables_of context.unit) valueless ++ l) (both_symbols context.unit outside context.overrides context.connections around second head whole third refl)

    scope_judged : Judged r by_all (item_scope base context.unit)
    scope_judged =
        let judged = symbols_judged context.unit outside context.overrides context.connections around in
        let first = first_scope base context.unit in
        let m = context.unit in
        subst (λ (l : List UseAt). Judged r l (item_scope base m)) (sym in_steps)
        (known (of_symbols (variables_of m) valueless) (of_symbols second head ++ of_symbols third whole) (add_symbols context.overrides first valueless) _ (judged 0 (head ++ whole) first valueless (first_grown base m)) (λ one is_one.
        let one_grown = symbols_grown context.overrides m 0 (head ++ whole) first one valueless is_one (first_grown base m) in
        let one_names = names_added context.overrides first one valueless is_one in
        known (of_symbols second head) (of_symbols third whole) (add_symbols context.overrides one head) _
        (subst (λ (l : List Text). Judged r (of_symbols l head) (add_symbols context.overrides one head)) one_names (judged (firm_behind 0 0 valueless) whole one head one_grown)) (λ two is_two.
        let two_names = names_added context.overrides one two head is_two ∙ ap (λ (l : List Text). l ++ letters_of (map name_in head)) one_names in
        let two_grown = symbols_grown context.overrides m (firm_behind 0 0 valueless) whole one two head is_two one_grown in
        last (of_symbols third whole) (add_symbols context.overrides two whole) _
        (subst (λ (l : List Text). Judged r (of_symbols l whole) (add_symbols context.overrides two whole)) two_names
        (judged (firm_behind (firm_behind 0 0 valueless) one.known head) [] two whole
        (subst (λ (l : List Symbol). Grown m (firm_behind (firm_behind 0 0 valueless) one.known head) l two) (sym (append-nil whole)) two_grown))) (λ w. refl))))

    names_judged : Judged r by_all (lower_names part context)
    names_judged =
        let b = all_fit r.fits by_all in
        let few = nat_le (length part.variables + length (declared_names context.unit)) 1024 in
        let counted = answer_if (has_room part context) TooMany (Some context.name) (item_scope base context.unit) in
        barring_judges asked b (first_again (declared_names context.unit)) Doubled (answer_if few TooMany (Some context.name) counted) r.no_doubled
        (provided_judges asked b few TooMany (Some context.name) counted r.no_many
        (provided_judges asked b (has_room part context) TooMany (Some context.name) (item_scope base context.unit) r.no_many scope_judged))

    abbrev ports : List Port
    ports = ports_of context.unit

    abbrev in_variables : List UseAt
    in_variables = flat_map (used_in_port context.unit) ports ++ used_by_items context.unit used_in_declaration [] context.unit.items

    abbrev in_connections : List UseAt
    in_connections = flat_map (used_in_connection context.unit outside context.overrides.values context.connections) ports

    abbrev in_items : List UseAt
    in_items = used_by_own_processes context.unit context.path

    few_silent : (made : PartialDesign) → Judges asked true (few_enough context.name made)
    few_silent made =
        provided_judges asked true (nat_le (length made.begins) 256) TooMany (Some context.name) (require (nat_le (length made.scopes) 1025) TooMany (Some context.name) made) r.no_many
        (required_judges asked (nat_le (length made.scopes) 1025) TooMany (Some context.name) made r.no_many)

    module _ (scope : Scope) (s : Stands context.unit [] context.unit.items scope) where
      abbrev path : Text
      path = context.path

      at_first : IsAt (place_behind context.unit []) scope
      at_first = stands_at context.unit [] context.unit.items scope s

      -- 12.3.2: the ports that items declare stand behind these
      at_ports : IsAt (port_place context.unit) (port_scope context.unit scope)
      at_ports = by (is_plain_list context.unit.ports)
        where
          by : (b : Bool) → IsAt (place_behind context.unit (if b then context.unit.items else [])) (if b then at scope (length scope.others) else scope)
          by true = stands_last context.unit scope s
          by false = at_first

      own_variables_judged : Judged r in_variables (lower_own_variables context ports scope)
      own_variables_judged =
          let in_ports = flat_map (used_in_port context.unit) ports in
          let in_declarations = used_by_items context.unit used_in_declaration [] context.unit.items in
          both in_ports in_declarations (lower_ports path (port_scope context.unit scope) ports) _ (ports_judged context.unit path (port_scope context.unit scope) ports at_ports) (λ front.
          last in_declarations (lower_variables path scope (own_items context.unit)) _
          (variables_judged context.unit (is_declared (letters_of (plain_names context.unit.ports))) path scope [] context.unit.items s) (λ others. refl))

      own_processes_judged : Judged r (in_connections ++ in_items) (lower_own_processes context ports scope part.table)
      own_processes_judged =
          both in_connections in_items (lower_joins context.name context.overrides.scope scope context.connections part.table ports) _
          (joins_judged context.unit outside context.overrides.values context.connections scope context.overrides.scope at_first around context.name part.table ports) (λ joins.
          begun_judged in_items joins.begins (lower_items scope joins.table (placed_items context.path context.unit)) (own_items_judged context.unit context.path scope joins.table s))

      own_judged : Judged r (in_variables ++ (in_connections ++ in_items)) (lower_own context ports scope part)
      own_judged =
          both in_variables (in_connections ++ in_items) (lower_own_variables context ports scope) _ own_variables_judged (λ vs.
          last (in_connections ++ in_items) (lower_own_processes context ports scope part.table) _ own_processes_judged (λ ps. few_silent (with_own context scope part vs ps)))

    abbrev in_instance : List UseAt
    in_instance = used_in_instance context.unit outside context.overrides.values context.connections context.path

    module _ (modules : SourceTree) where
      abbrev after_names : Scope → Result PartialDesign ElabFault
      after_names scope = lower_instances modules 0 scope.known context.unit.items >>= λ children. lower_own context ports scope part

      instance_judged : Judged r in_instance (lower_names part context >>= after_names)
      instance_judged =
          known by_all (in_variables ++ (in_connections ++ in_items)) (lower_names part context) after_names names_judged (λ scope is.
          both [] (in_variables ++ (in_connections ++ in_items)) (lower_instances modules 0 scope.known context.unit.items) _ (instances_silent modules 0 scope.known context.unit.items) (λ children.
          own_judged scope (names_stand part context scope is)))

      -- all that it uses fits, where its own steps are answered
      pub own_fits : Own modules part context → all_fit r.fits in_instance ≡ true
      own_fits own =
          subst (Judged r in_instance)
          (ap (λ (a : Result Scope ElabFault). a >>= after_names) own.names_are ∙ ap (λ (a : Result (List Instantiation) ElabFault). a >>= λ children. lower_own context ports own.scope part) own.instances_are ∙ own.own_is)
          instance_judged

      -- or something doesn't, where they tell so
      answer_is : (fault : ElabFault) → OwnFault modules part context fault → (lower_names part context >>= after_names) ≡ Err fault
      answer_is fault (in_names err) = ap (λ (a : Result Scope ElabFault). a >>= after_names) err
      answer_is fault (in_instances scope names err) =
          ap (λ (a : Result Scope ElabFault). a >>= after_names) names ∙ ap (λ (a : Result (List Instantiation) ElabFault). a >>= λ children. lower_own context ports scope part) err
      answer_is fault (in_own scope children names wanted err) =
          ap (λ (a : Result Scope ElabFault). a >>= after_names) names ∙ ap (λ (a : Result (List Instantiation) ElabFault). a >>= λ children. lower_own context ports scope part) wanted ∙ err

      pub own_misuses : (fault : ElabFault) → fault.rule ≡ r.rule → OwnFault modules part context fault → all_fit r.fits in_instance ≡ false
      own_misuses fault rule own = subst (Judged r in_instance) (answer_is fault own) instance_judged (ap asked rule ∙ r.is_asked)
