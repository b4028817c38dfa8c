-- What fits with some levels fits with more.
use Rattle.std.proofs.Common.{◌≡◌, ℕ, ◌≤◌, Bool, true, ◌&&◌, nat_le, List, [], ◌∷◌, Option, None, Some, length, refl}
use Rattle.std.specs.List.{list_all}
use Rattle.basis.proofs.Bools.{and_left, and_right, and_both}
use Rattle.vwords.specs.Words.{Text, is_name}
use Rattle.vast.specs.Expressions.{ExpressionTree, depth, fits_expression}
use Rattle.vast.specs.Statements.{StatementTree, statement_depth, fits_statement, fits_target, target_depth}
use Rattle.vast.specs.Modules.{RangeTree, TypeTree, ParameterType, integer, typed, SettingTree, DeclaredTree, DirectionTree, input, output, output_integer, PortTree, HeadParameter, ConnectionTree, ConnectionsTree, by_order, by_name, InstanceTree, DeclarationKind, variables, integers, directed, ItemTree, parameters, declaration, events, assignments, initial, always, instances, ModuleTree, SourceTree, fits_value, fits_optional, fits_range, fits_type, fits_parameter_type, fits_setting, fits_declared, fits_direction, fits_port, fits_behind, fits_ports, fits_kind, fits_head_parameter, is_kind, fits_head_parameters, fits_connection, fits_connections, fits_overrides, fits_instance, fits_declaration_kind, are_some, fits_body, fits_item, fits_optional_parameters, fits_optional_ports, fits_module, DerivesWithin, NetAssignment, fits_net_assignment}
use Rattle.vgrammar.proofs.LevelFacts.{within_more}

both_more : (a b c d : Bool) → (a ≡ true → c ≡ true) → (b ≡ true → d ≡ true) → (a && b) ≡ true → (c && d) ≡ true
both_more a b c d f g v = and_both c d (f (and_left a b v)) (g (and_right a b v))

same_and : (a b c : Bool) → (b ≡ true → c ≡ true) → (a && b) ≡ true → (a && c) ≡ true
same_and a b c g v = both_more a b a c (λ e. e) g v

all_more : {A : Type 0} (test more : A → Bool) → ((tree : A) → test tree ≡ true → more tree ≡ true) → (list : List A) →
    list_all test list ≡ true → list_all more list ≡ true
all_more test more f [] v = refl
all_more test more f (tree ∷ list) v =
    both_more (test tree) (list_all test list) (more tree) (list_all more list) (f tree) (all_more test more f list) v

some_more : {A : Type 0} (test more : A → Bool) → ((tree : A) → test tree ≡ true → more tree ≡ true) → (list : List A) →
    are_some test list ≡ true → are_some more list ≡ true
some_more test more f list v =
    same_and (nat_le 1 (length list)) (list_all test list) (list_all more list) (all_more test more f list) v

module _ (n m : ℕ) (fewer : n ≤ m) where
  value_more : (tree : ExpressionTree) → fits_value n tree ≡ true → fits_value m tree ≡ true
  value_more tree v =
      same_and (fits_expression tree) (nat_le (depth tree) n) (nat_le (depth tree) m) (within_more (depth tree) n m fewer) v

  optional_more : (tree : Option ExpressionTree) → fits_optional n tree ≡ true → fits_optional m tree ≡ true
  optional_more None v = refl
  optional_more (Some tree) v = value_more tree v

  range_more : (tree : Option RangeTree) → fits_range n tree ≡ true → fits_range m tree ≡ true
  range_more None v = refl
  range_more (Some tree) v =
      both_more (fits_value n tree.left) (fits_value n tree.right) (fits_value m tree.left) (fits_value m tree.right)
      (value_more tree.left) (value_more tree.right) v

  type_more : (tree : TypeTree) → fits_type n tree ≡ true → fits_type m tree ≡ true
  type_more tree v = range_more tree.range v

  parameter_type_more : (tree : ParameterType) → fits_parameter_type n tree ≡ true → fits_parameter_type m tree ≡ true
  parameter_type_more (integer long) v = refl
  parameter_type_more (typed tree) v = type_more tree v

  setting_more : (tree : SettingTree) → fits_setting n tree ≡ true → fits_setting m tree ≡ true
  setting_more tree v =
      same_and (is_name tree.name) (fits_value n tree.value) (fits_value m tree.value) (value_more tree.value) v

  net_assignment_more : (tree : NetAssignment) → fits_net_assignment n tree ≡ true → fits_net_assignment m tree ≡ true
  net_assignment_more tree v =
      both_more (fits_target tree.target && nat_le (target_depth tree.target) n) (fits_value n tree.value)
      (fits_target tree.target && nat_le (target_depth tree.target) m) (fits_value m tree.value)
      (same_and (fits_target tree.target) (nat_le (target_depth tree.target) n) (nat_le (target_depth tree.target) m)
      (within_more (target_depth tree.target) n m fewer)) (value_more tree.value) v

  declared_more : (tree : DeclaredTree) → fits_declared n tree ≡ true → fits_declared m tree ≡ true
  declared_more tree v =
      same_and (is_name tree.name) (fits_optional n tree.value) (fits_optional m tree.value) (optional_more tree.value) v

  direction_more : (tree : Option DirectionTree) → fits_direction n tree ≡ true → fits_direction m tree ≡ true
  direction_more None v = refl
  direction_more (Some (input wire tree)) v = type_more tree v
  direction_more (Some (output kind tree)) v = type_more tree v
  direction_more (Some (output_integer long)) v = refl

  port_more : (tree : PortTree) → fits_port n tree ≡ true → fits_port m tree ≡ true
  port_more tree v =
      both_more (fits_direction n tree.direction) (is_name tree.name && fits_optional n tree.value)
      (fits_direction m tree.direction) (is_name tree.name && fits_optional m tree.value) (direction_more tree.direction)
      (same_and (is_name tree.name) (fits_optional n tree.value) (fits_optional m tree.value) (optional_more tree.value)) v

  behind_more : (first : Option DirectionTree) (list : List PortTree) → fits_behind n first list ≡ true → fits_behind m first list ≡ true
  behind_more None list v = v
  behind_more (Some direction) list v = all_more (fits_port n) (fits_port m) port_more list v

  ports_more : (list : List PortTree) → fits_ports n list ≡ true → fits_ports m list ≡ true
  ports_more [] v = refl
  ports_more (tree ∷ list) v = behind_more tree.direction (tree ∷ list) v

  kind_more : (tree : Option ParameterType) → fits_kind n tree ≡ true → fits_kind m tree ≡ true
  kind_more None v = refl
  kind_more (Some tree) v = parameter_type_more tree v

  head_more : (tree : HeadParameter) → fits_head_parameter n tree ≡ true → fits_head_parameter m tree ≡ true
  head_more tree v =
      both_more (fits_kind n tree.kind) (fits_setting n tree.setting) (fits_kind m tree.kind) (fits_setting m tree.setting)
      (kind_more tree.kind) (setting_more tree.setting) v

  heads_more : (list : List HeadParameter) → fits_head_parameters n list ≡ true → fits_head_parameters m list ≡ true
  heads_more [] v = v
  heads_more (tree ∷ list) v =
      same_and (is_kind tree.kind) (list_all (fits_head_parameter n) (tree ∷ list))
      (list_all (fits_head_parameter m) (tree ∷ list))
      (all_more (fits_head_parameter n) (fits_head_parameter m) head_more (tree ∷ list)) v

  connection_more : (tree : ConnectionTree) → fits_connection n tree ≡ true → fits_connection m tree ≡ true
  connection_more tree v =
      same_and (is_name tree.name) (fits_optional n tree.value) (fits_optional m tree.value) (optional_more tree.value) v

  connections_more : (tree : ConnectionsTree) → fits_connections n tree ≡ true → fits_connections m tree ≡ true
  connections_more (by_order list) v = all_more (fits_value n) (fits_value m) value_more list v
  connections_more (by_name list) v = some_more (fits_connection n) (fits_connection m) connection_more list v

  overrides_more : (tree : Option ConnectionsTree) → fits_overrides n tree ≡ true → fits_overrides m tree ≡ true
  overrides_more None v = refl
  overrides_more (Some tree) v = connections_more tree v

  instance_more : (tree : InstanceTree) → fits_instance n tree ≡ true → fits_instance m tree ≡ true
  instance_more tree v =
      same_and (is_name tree.name) (fits_connections n tree.connections) (fits_connections m tree.connections)
      (connections_more tree.connections) v

  declaration_more : (tree : DeclarationKind) → fits_declaration_kind n tree ≡ true → fits_declaration_kind m tree ≡ true
  declaration_more (variables kind tree) v = type_more tree v
  declaration_more (integers long) v = refl
  declaration_more (directed direction) v = direction_more (Some direction) v

  names_more : (list : List DeclaredTree) → are_some (fits_declared n) list ≡ true → are_some (fits_declared m) list ≡ true
  names_more list v = some_more (fits_declared n) (fits_declared m) declared_more list v

  body_more : (tree : StatementTree) → fits_body n tree ≡ true → fits_body m tree ≡ true
  body_more tree v =
      same_and (fits_statement tree) (nat_le (statement_depth tree) n) (nat_le (statement_depth tree) m)
      (within_more (statement_depth tree) n m fewer) v

  settings_more : (list : List SettingTree) → are_some (fits_setting n) list ≡ true → are_some (fits_setting m) list ≡ true
  settings_more list v = some_more (fits_setting n) (fits_setting m) setting_more list v

  item_more : (tree : ItemTree) → fits_item n tree ≡ true → fits_item m tree ≡ true
  item_more (parameters local kind list) v =
      both_more (fits_parameter_type n kind) (are_some (fits_setting n) list) (fits_parameter_type m kind)
      (are_some (fits_setting m) list) (parameter_type_more kind) (settings_more list) v
  item_more (declaration kind list) v =
      both_more (fits_declaration_kind n kind) (are_some (fits_declared n) list) (fits_declaration_kind m kind)
      (are_some (fits_declared m) list) (declaration_more kind) (names_more list) v
  item_more (events names) v = v
  item_more (assignments list) v = some_more (fits_net_assignment n) (fits_net_assignment m) net_assignment_more list v
  item_more (initial body) v = body_more body v
  item_more (always body) v = body_more body v
  item_more (instances letters tree list) v =
      both_more (is_name letters && fits_overrides n tree) (are_some (fits_instance n) list)
      (is_name letters && fits_overrides m tree) (are_some (fits_instance m) list)
      (same_and (is_name letters) (fits_overrides n tree) (fits_overrides m tree) (overrides_more tree))
      (some_more (fits_instance n) (fits_instance m) instance_more list) v

  optional_heads_more : (list : Option (List HeadParameter)) → fits_optional_parameters n list ≡ true →
      fits_optional_parameters m list ≡ true
  optional_heads_more None v = refl
  optional_heads_more (Some list) v = heads_more list v

  optional_ports_more : (list : Option (List PortTree)) → fits_optional_ports n list ≡ true → fits_optional_ports m list ≡ true
  optional_ports_more None v = refl
  optional_ports_more (Some list) v = ports_more list v

  abbrev head_fits : ℕ → ModuleTree → Bool
  head_fits levels tree = is_name tree.name && fits_optional_parameters levels tree.parameters

  module_more : (tree : ModuleTree) → fits_module n tree ≡ true → fits_module m tree ≡ true
  module_more tree v =
      both_more (head_fits n tree && fits_optional_ports n tree.ports) (list_all (fits_item n) tree.items)
      (head_fits m tree && fits_optional_ports m tree.ports) (list_all (fits_item m) tree.items)
      (both_more (head_fits n tree) (fits_optional_ports n tree.ports) (head_fits m tree) (fits_optional_ports m tree.ports)
      (same_and (is_name tree.name) (fits_optional_parameters n tree.parameters) (fits_optional_parameters m tree.parameters)
      (optional_heads_more tree.parameters)) (optional_ports_more tree.ports))
      (all_more (fits_item n) (fits_item m) item_more tree.items) v

  pub derives_more : (words : List Text) (tree : SourceTree) → DerivesWithin n words tree → DerivesWithin m words tree
  derives_more words tree d = record {
    spelled = d.spelled;
    fitting = all_more (fits_module n) (fits_module m) module_more tree d.fitting;
  }
