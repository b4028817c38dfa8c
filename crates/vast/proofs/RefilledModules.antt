-- Modules are told by their words and by what they are without them.
use Rattle.std.proofs.Common.{◌≡◌, map}
use Rattle.std.specs.List.{flat_map}
use Rattle.vast.specs.Modules.{RangeOf, TypeOf, ParameterTypeOf, integer, typed, SettingOf, NetAssignmentOf, DeclaredOf, DirectionOf, input, output, output_integer, PortOf, HeadParameterOf, ConnectionOf, ConnectionsOf, by_order, by_name, InstanceOf, DeclarationKindOf, variables, integers, directed, ItemOf, parameters, declaration, events, assignments, initial, always, instances, ModuleOf, SourceOf}
use Rattle.vast.specs.TreeWords.{expression_with, expression_words, range_with, range_words, type_with, type_words, parameter_type_with, parameter_type_words, setting_with, setting_words, net_assignment_with, net_assignment_words, declared_with, declared_words, direction_with, direction_words, port_with, port_words, head_with, head_words, connection_with, connection_words, connections_with, connections_words, instance_with, instance_words, declaration_kind_with, declaration_kind_words, item_with, item_words, module_with, module_words, source_with, source_words}
use Rattle.vast.proofs.Refilling.{Filling, pure, word, both, made_to, fill_list, fill_option, two, three, four, Fills, pure_fills, word_fills, both_fills, made_fills, list_fills, words_fill, option_fills, filled_once}
use Rattle.vast.proofs.RefilledExpressions.{fill_expression, expression_fills}
use Rattle.vast.proofs.RefilledStatements.{fill_target, target_fills, fill_statement, statement_fills}

-- a module of this form, with the words of a list
module _ {V W : Type 0} (spare : V) where
  abbrev pub fill_range : RangeOf W → Filling V (RangeOf V)
  fill_range range =
      made_to (two (λ a b. record { left = a; right = b })) (both (fill_expression spare range.left) (fill_expression spare range.right))

  abbrev pub fill_type : TypeOf W → Filling V (TypeOf V)
  fill_type type = made_to (λ a. record { signed = type.signed; range = a }) (fill_option fill_range type.range)

  abbrev pub fill_parameter_type : ParameterTypeOf W → Filling V (ParameterTypeOf V)
  fill_parameter_type (integer long) = pure (integer long)
  fill_parameter_type (typed type) = made_to typed (fill_type type)

  abbrev pub fill_setting : SettingOf W → Filling V (SettingOf V)
  fill_setting setting = made_to (two (λ a b. record { name = a; value = b })) (both (word spare) (fill_expression spare setting.value))

  abbrev pub fill_net_assignment : NetAssignmentOf W → Filling V (NetAssignmentOf V)
  fill_net_assignment one =
      made_to (two (λ a b. record { target = a; value = b })) (both (fill_target spare one.target) (fill_expression spare one.value))

  abbrev pub fill_declared : DeclaredOf W → Filling V (DeclaredOf V)
  fill_declared declared =
      made_to (two (λ a b. record { name = a; value = b })) (both (word spare) (fill_option (fill_expression spare) declared.value))

  abbrev pub fill_direction : DirectionOf W → Filling V (DirectionOf V)
  fill_direction (input wire type) = made_to (input wire) (fill_type type)
  fill_direction (output net type) = made_to (output net) (fill_type type)
  fill_direction (output_integer long) = pure (output_integer long)

  abbrev pub fill_port : PortOf W → Filling V (PortOf V)
  fill_port port =
      made_to (three (λ a b c. record { direction = a; name = b; value = c })) (both (fill_option fill_direction port.direction)
      (both (word spare) (fill_option (fill_expression spare) port.value)))

  abbrev pub fill_head : HeadParameterOf W → Filling V (HeadParameterOf V)
  fill_head head =
      made_to (two (λ a b. record { kind = a; setting = b })) (both (fill_option fill_parameter_type head.kind) (fill_setting head.setting))

  abbrev pub fill_connection : ConnectionOf W → Filling V (ConnectionOf V)
  fill_connection connection =
      made_to (two (λ a b. record { name = a; value = b })) (both (word spare) (fill_option (fill_expression spare) connection.value))

  abbrev pub fill_connections : ConnectionsOf W → Filling V (ConnectionsOf V)
  fill_connections (by_order values) = made_to by_order (fill_list (fill_expression spare) values)
  fill_connections (by_name list) = made_to by_name (fill_list fill_connection list)

  abbrev pub fill_instance : InstanceOf W → Filling V (InstanceOf V)
  fill_instance instance = made_to (two (λ a b. record { name = a; connections = b })) (both (word spare) (fill_connections instance.connections))

  abbrev pub fill_declaration_kind : DeclarationKindOf W → Filling V (DeclarationKindOf V)
  fill_declaration_kind (variables net type) = made_to (variables net) (fill_type type)
  fill_declaration_kind (integers long) = pure (integers long)
  fill_declaration_kind (directed direction) = made_to directed (fill_direction direction)

  abbrev pub fill_item : ItemOf W → Filling V (ItemOf V)
  fill_item (parameters local type settings) = made_to (two (parameters local)) (both (fill_parameter_type type) (fill_list fill_setting settings))
  fill_item (declaration kind list) = made_to (two declaration) (both (fill_declaration_kind kind) (fill_list fill_declared list))
  fill_item (events names) = made_to events (fill_list (λ x. word spare) names)
  fill_item (assignments list) = made_to assignments (fill_list fill_net_assignment list)
  fill_item (initial statement) = made_to initial (fill_statement spare statement)
  fill_item (always statement) = made_to always (fill_statement spare statement)
  fill_item (instances letters overrides list) =
      made_to (three instances) (both (word spare) (both (fill_option fill_connections overrides) (fill_list fill_instance list)))

  abbrev pub fill_module : ModuleOf W → Filling V (ModuleOf V)
  fill_module m =
      made_to (four (λ a b c e. record { name = a; parameters = b; ports = c; items = e })) (both (word spare)
      (both (fill_option (fill_list fill_head) m.parameters)
      (both (fill_option (fill_list fill_port) m.ports) (fill_list fill_item m.items))))

  abbrev pub fill_source : SourceOf W → Filling V (SourceOf V)
  fill_source modules = fill_list fill_module modules

-- with its own words it is filled to itself
module _ {V W : Type 0} (f : V → W) (spare : V) where
  -- ranges
  pub range_fills : (m : RangeOf V) → Fills (fill_range spare (range_with f m)) (range_words m) m
  range_fills range =
      made_fills (two (λ a b. record { left = a; right = b })) (both_fills (expression_fills f spare range.left)
      (expression_fills f spare range.right))

  -- types
  pub type_fills : (m : TypeOf V) → Fills (fill_type spare (type_with f m)) (type_words m) m
  type_fills type =
      made_fills (λ a. record { signed = type.signed; range = a })
      (option_fills (fill_range spare) (range_with f) range_words range_fills type.range)

  -- types of parameters
  pub parameter_type_fills : (m : ParameterTypeOf V) → Fills (fill_parameter_type spare (parameter_type_with f m)) (parameter_type_words m) m
  parameter_type_fills (integer long) = pure_fills (integer long)
  parameter_type_fills (typed type) = made_fills typed (type_fills type)

  -- name = value
  pub setting_fills : (m : SettingOf V) → Fills (fill_setting spare (setting_with f m)) (setting_words m) m
  setting_fills setting =
      made_fills (two (λ a b. record { name = a; value = b })) (both_fills (word_fills spare setting.name)
      (expression_fills f spare setting.value))

  -- target = value
  pub net_assignment_fills : (m : NetAssignmentOf V) → Fills (fill_net_assignment spare (net_assignment_with f m)) (net_assignment_words m) m
  net_assignment_fills one =
      made_fills (two (λ a b. record { target = a; value = b })) (both_fills (target_fills f spare one.target)
      (expression_fills f spare one.value))

  -- what is declared
  pub declared_fills : (m : DeclaredOf V) → Fills (fill_declared spare (declared_with f m)) (declared_words m) m
  declared_fills declared =
      made_fills (two (λ a b. record { name = a; value = b })) (both_fills (word_fills spare declared.name)
      (option_fills (fill_expression spare) (expression_with f) expression_words (expression_fills f spare) declared.value))

  -- directions
  pub direction_fills : (m : DirectionOf V) → Fills (fill_direction spare (direction_with f m)) (direction_words m) m
  direction_fills (input wire type) = made_fills (input wire) (type_fills type)
  direction_fills (output net type) = made_fills (output net) (type_fills type)
  direction_fills (output_integer long) = pure_fills (output_integer long)

  -- ports
  pub port_fills : (m : PortOf V) → Fills (fill_port spare (port_with f m)) (port_words m) m
  port_fills port =
      made_fills (three (λ a b c. record { direction = a; name = b; value = c })) (both_fills
      (option_fills (fill_direction spare) (direction_with f) direction_words direction_fills port.direction)
      (both_fills (word_fills spare port.name)
      (option_fills (fill_expression spare) (expression_with f) expression_words (expression_fills f spare) port.value)))

  -- parameters of a head
  pub head_fills : (m : HeadParameterOf V) → Fills (fill_head spare (head_with f m)) (head_words m) m
  head_fills head =
      made_fills (two (λ a b. record { kind = a; setting = b })) (both_fills
      (option_fills (fill_parameter_type spare) (parameter_type_with f) parameter_type_words parameter_type_fills head.kind)
      (setting_fills head.setting))

  -- connections by name
  pub connection_fills : (m : ConnectionOf V) → Fills (fill_connection spare (connection_with f m)) (connection_words m) m
  connection_fills connection =
      made_fills (two (λ a b. record { name = a; value = b })) (both_fills (word_fills spare connection.name)
      (option_fills (fill_expression spare) (expression_with f) expression_words (expression_fills f spare) connection.value))

  -- connections
  pub connections_fills : (m : ConnectionsOf V) → Fills (fill_connections spare (connections_with f m)) (connections_words m) m
  connections_fills (by_order values) =
      made_fills by_order (list_fills (fill_expression spare) (expression_with f) expression_words (expression_fills f spare) values)
  connections_fills (by_name list) =
      made_fills by_name (list_fills (fill_connection spare) (connection_with f) connection_words connection_fills list)

  -- instances
  pub instance_fills : (m : InstanceOf V) → Fills (fill_instance spare (instance_with f m)) (instance_words m) m
  instance_fills instance =
      made_fills (two (λ a b. record { name = a; connections = b })) (both_fills (word_fills spare instance.name)
      (connections_fills instance.connections))

  -- kinds of declarations
  pub declaration_kind_fills : (m : DeclarationKindOf V) → Fills (fill_declaration_kind spare (declaration_kind_with f m)) (declaration_kind_words m) m
  declaration_kind_fills (variables net type) = made_fills (variables net) (type_fills type)
  declaration_kind_fills (integers long) = pure_fills (integers long)
  declaration_kind_fills (directed direction) = made_fills directed (direction_fills direction)

  -- items of a module
  pub item_fills : (m : ItemOf V) → Fills (fill_item spare (item_with f m)) (item_words m) m
  item_fills (parameters local type settings) =
      made_fills (two (parameters local)) (both_fills (parameter_type_fills type)
      (list_fills (fill_setting spare) (setting_with f) setting_words setting_fills settings))
  item_fills (declaration kind list) =
      made_fills (two declaration) (both_fills (declaration_kind_fills kind)
      (list_fills (fill_declared spare) (declared_with f) declared_words declared_fills list))
  item_fills (events names) = made_fills events (words_fill spare f names)
  item_fills (assignments list) =
      made_fills assignments (list_fills (fill_net_assignment spare) (net_assignment_with f) net_assignment_words net_assignment_fills list)
  item_fills (initial statement) = made_fills initial (statement_fills f spare statement)
  item_fills (always statement) = made_fills always (statement_fills f spare statement)
  item_fills (instances letters overrides list) =
      made_fills (three instances) (both_fills (word_fills spare letters) (both_fills
      (option_fills (fill_connections spare) (connections_with f) connections_words connections_fills overrides)
      (list_fills (fill_instance spare) (instance_with f) instance_words instance_fills list)))

  -- modules
  pub module_fills : (m : ModuleOf V) → Fills (fill_module spare (module_with f m)) (module_words m) m
  module_fills m =
      made_fills (four (λ a b c e. record { name = a; parameters = b; ports = c; items = e })) (both_fills (word_fills spare m.name)
      (both_fills (option_fills (fill_list (fill_head spare)) (map (head_with f)) (flat_map head_words)
      (list_fills (fill_head spare) (head_with f) head_words head_fills) m.parameters) (both_fills
      (option_fills (fill_list (fill_port spare)) (map (port_with f)) (flat_map port_words)
      (list_fills (fill_port spare) (port_with f) port_words port_fills) m.ports)
      (list_fills (fill_item spare) (item_with f) item_words item_fills m.items))))

  -- texts
  pub source_fills : (m : SourceOf V) → Fills (fill_source spare (source_with f m)) (source_words m) m
  source_fills modules = list_fills (fill_module spare) (module_with f) module_words module_fills modules

  -- told by its words and by what it is without them
  pub item_once : (m n : ItemOf V) → item_with f m ≡ item_with f n → item_words m ≡ item_words n → m ≡ n
  item_once m n same_form same_words = filled_once (fill_item spare) (item_with f) item_words item_fills m n same_form same_words

  -- told by its words and by what it is without them
  pub module_once : (m n : ModuleOf V) → module_with f m ≡ module_with f n → module_words m ≡ module_words n → m ≡ n
  module_once m n same_form same_words = filled_once (fill_module spare) (module_with f) module_words module_fills m n same_form same_words

  -- told by its words and by what it is without them
  pub source_once : (m n : SourceOf V) → source_with f m ≡ source_with f n → source_words m ≡ source_words n → m ≡ n
  source_once m n same_form same_words = filled_once (fill_source spare) (source_with f) source_words source_fills m n same_form same_words
