-- The words of modules of the program, as their trees tell them.
use Rattle.std.proofs.Common.{◌≡◌, List, ◌∷◌, map, refl}
use Rattle.std.specs.List.{flat_map}
use Rattle.vast.specs.Modules.{typed, input, output, by_order, variables, directed, parameters, declaration, events, assignments, initial, always, instances}
use Rattle.vast.specs.Modules as written
use Rattle.vast.specs.ExpressionTrees.{expression_told, boxed_told}
use Rattle.vast.specs.ModuleTrees.{range_told, type_told, parameter_type_told, setting_told, net_assignment_told, declared_told, direction_told, port_told, head_told, connection_told, connections_told, instance_told, declaration_kind_told, item_told, module_told, source_told}
use Rattle.vast.specs.Leaves.{if_some, leaves_of, boxed_leaves, range_leaves, type_leaves, parameter_type_leaves, setting_leaves, net_assignment_leaves, declared_leaves, direction_leaves, port_leaves, head_leaves, connection_leaves, connections_leaves, instance_leaves, declaration_kind_leaves, item_leaves, module_leaves, text_leaves}
use Rattle.vast.specs.TreeWords.{expression_with, expression_words, range_with, range_words, type_with, type_words, parameter_type_with, parameter_type_words, setting_with, setting_words, net_assignment_with, net_assignment_words, declared_with, declared_words, direction_with, direction_words, port_with, port_words, head_with, head_words, connection_with, connection_words, connections_with, connections_words, instance_with, instance_words, declaration_kind_with, declaration_kind_words, item_with, item_words, module_with, module_words, source_with, source_words}
use Rattle.vast.specs.declared.token.Token.{Token}
use Rattle.vast.specs.declared.module.Bounds.{Bounds}
use Rattle.vast.specs.declared.module.SignAndRange.{SignAndRange}
use Rattle.vast.specs.declared.module.ParameterType.{ParameterType}
use Rattle.vast.specs.declared.module.ParameterType.TheVariants as kinds
use Rattle.vast.specs.declared.module.Setting.{Setting}
use Rattle.vast.specs.declared.module.NetAssignment.{NetAssignment}
use Rattle.vast.specs.declared.module.Declared.{Declared}
use Rattle.vast.specs.declared.module.Direction.{Direction}
use Rattle.vast.specs.declared.module.Direction.TheVariants as directions
use Rattle.vast.specs.declared.module.Port.{Port}
use Rattle.vast.specs.declared.module.HeadParameter.{HeadParameter}
use Rattle.vast.specs.declared.module.Connection.{Connection}
use Rattle.vast.specs.declared.module.Connections.{Connections}
use Rattle.vast.specs.declared.module.Connections.TheVariants as connecting
use Rattle.vast.specs.declared.module.Instance.{Instance}
use Rattle.vast.specs.declared.module.DeclarationKind.{DeclarationKind}
use Rattle.vast.specs.declared.module.DeclarationKind.TheVariants as declaring
use Rattle.vast.specs.declared.module.ModuleItem.{ModuleItem}
use Rattle.vast.specs.declared.module.ModuleItem.TheVariants as items
use Rattle.vast.specs.declared.module.ModuleTree.{ModuleTree}
use Rattle.vast.specs.declared.module.TextTree.{TextTree}
use Rattle.vast.proofs.MappedLists.{map_same, option_same, joined_words, flat_words, words_if_some}
use Rattle.vast.proofs.ExpressionWordLemmas.{expression_with_told, boxed_with_told, expression_words_told, boxed_words_told}
use Rattle.vast.proofs.StatementWordLemmas.{target_with_told, pair_words_told, statement_with_told, statement_words_told}

-- ---- told and then changed, they are told changed

module _ {V W : Type 0} (f : V → W) (told : Token → V) where
  pub range_with_told : (range : Bounds) → range_with f (range_told told range) ≡ range_told (λ x. f (told x)) range
  range_with_told range = λ i. record { left = boxed_with_told f told range.left i; right = boxed_with_told f told range.right i }

  -- types
  pub type_with_told : (type : SignAndRange) → type_with f (type_told told type) ≡ type_told (λ x. f (told x)) type
  type_with_told type = λ i. record {
    signed = type.signed;
    range = option_same (range_with f) (range_told told) (range_told (λ x. f (told x))) range_with_told type.range i;
  }

  -- types of parameters
  pub parameter_type_with_told : (type : ParameterType) →
      parameter_type_with f (parameter_type_told told type) ≡ parameter_type_told (λ x. f (told x)) type
  parameter_type_with_told (kinds.Integer long) = refl
  parameter_type_with_told (kinds.Typed type) = λ i. typed (type_with_told type i)

  -- name = value
  pub setting_with_told : (setting : Setting) → setting_with f (setting_told told setting) ≡ setting_told (λ x. f (told x)) setting
  setting_with_told setting = λ i. record { name = f (told setting.name); value = boxed_with_told f told setting.value i }

  -- target = value
  pub net_assignment_with_told : (one : NetAssignment) →
      net_assignment_with f (net_assignment_told told one) ≡ net_assignment_told (λ x. f (told x)) one
  net_assignment_with_told one = λ i. record { target = target_with_told f told one.target i; value = boxed_with_told f told one.value i }

  -- what is declared
  pub declared_with_told : (declared : Declared) → declared_with f (declared_told told declared) ≡ declared_told (λ x. f (told x)) declared
  declared_with_told declared = λ i. record {
    name = f (told declared.name);
    value = option_same (expression_with f) (boxed_told told) (boxed_told (λ x. f (told x))) (boxed_with_told f told) declared.value i;
  }

  -- directions
  pub direction_with_told : (direction : Direction) →
      direction_with f (direction_told told direction) ≡ direction_told (λ x. f (told x)) direction
  direction_with_told (directions.Input wire type) = λ i. input wire (type_with_told type i)
  direction_with_told (directions.Output net type) = λ i. output net (type_with_told type i)
  direction_with_told (directions.OutputInteger long) = refl

  -- ports
  pub port_with_told : (port : Port) → port_with f (port_told told port) ≡ port_told (λ x. f (told x)) port
  port_with_told port = λ i. record {
    direction = option_same (direction_with f) (direction_told told) (direction_told (λ x. f (told x))) direction_with_told port.direction i;
    name = f (told port.name);
    value = option_same (expression_with f) (boxed_told told) (boxed_told (λ x. f (told x))) (boxed_with_told f told) port.value i;
  }

  -- parameters of a head
  pub head_with_told : (head : HeadParameter) → head_with f (head_told told head) ≡ head_told (λ x. f (told x)) head
  head_with_told head = λ i. record {
    kind = option_same (parameter_type_with f) (parameter_type_told told) (parameter_type_told (λ x. f (told x))) parameter_type_with_told head.kind i;
    setting = setting_with_told head.setting i;
  }

  -- connections by name
  pub connection_with_told : (connection : Connection) →
      connection_with f (connection_told told connection) ≡ connection_told (λ x. f (told x)) connection
  connection_with_told connection = λ i. record {
    name = f (told connection.name);
    value = option_same (expression_with f) (boxed_told told) (boxed_told (λ x. f (told x))) (boxed_with_told f told) connection.value i;
  }

  -- connections
  pub connections_with_told : (connections : Connections) →
      connections_with f (connections_told told connections) ≡ connections_told (λ x. f (told x)) connections
  connections_with_told (connecting.ByOrder values) = λ i. by_order
      (map_same (expression_with f) (expression_told told) (expression_told (λ x. f (told x))) (expression_with_told f told) values.items i)
  connections_with_told (connecting.ByName list) = λ i. written.by_name
      (map_same (connection_with f) (connection_told told) (connection_told (λ x. f (told x))) connection_with_told list.items i)

  -- instances
  pub instance_with_told : (instance : Instance) → instance_with f (instance_told told instance) ≡ instance_told (λ x. f (told x)) instance
  instance_with_told instance = λ i. record { name = f (told instance.name); connections = connections_with_told instance.connections i }

  -- kinds of declarations
  pub declaration_kind_with_told : (kind : DeclarationKind) →
      declaration_kind_with f (declaration_kind_told told kind) ≡ declaration_kind_told (λ x. f (told x)) kind
  declaration_kind_with_told (declaring.Variables net type) = λ i. variables net (type_with_told type i)
  declaration_kind_with_told (declaring.Integers long) = refl
  declaration_kind_with_told (declaring.Directed direction) = λ i. directed (direction_with_told direction i)

  settings_with_told : (list : List Setting) → map (setting_with f) (map (setting_told told) list) ≡ map (setting_told (λ x. f (told x))) list
  settings_with_told list = map_same (setting_with f) (setting_told told) (setting_told (λ x. f (told x))) setting_with_told list

  -- items of a module
  pub item_with_told : (item : ModuleItem) → item_with f (item_told told item) ≡ item_told (λ x. f (told x)) item
  item_with_told (items.Parameters at local type settings) =
      λ i. parameters local (parameter_type_with_told type i) (settings_with_told settings.items i)
  item_with_told (items.Declaration at kind list) = λ i. declaration (declaration_kind_with_told kind i)
      (map_same (declared_with f) (declared_told told) (declared_told (λ x. f (told x))) declared_with_told list.items i)
  item_with_told (items.Events at names) = λ i. events (map_same f told (λ x. f (told x)) (λ x. refl) names.items i)
  item_with_told (items.Assignments at list) = λ i. assignments
      (map_same (net_assignment_with f) (net_assignment_told told) (net_assignment_told (λ x. f (told x))) net_assignment_with_told list.items i)
  item_with_told (items.Initial at statement) = λ i. initial (statement_with_told f told statement i)
  item_with_told (items.Always at statement) = λ i. always (statement_with_told f told statement i)
  item_with_told (items.Instances name overrides list) = λ i. instances (f (told name))
      (option_same (connections_with f) (connections_told told) (connections_told (λ x. f (told x))) connections_with_told overrides i)
      (map_same (instance_with f) (instance_told told) (instance_told (λ x. f (told x))) instance_with_told list.items i)

  -- modules
  pub module_with_told : (m : ModuleTree) → module_with f (module_told told m) ≡ module_told (λ x. f (told x)) m
  module_with_told m = λ i. record {
    name = f (told m.name);
    parameters = option_same (map (head_with f)) (λ list. map (head_told told) list.items) (λ list. map (head_told (λ x. f (told x))) list.items)
        (λ list. map_same (head_with f) (head_told told) (head_told (λ x. f (told x))) head_with_told list.items) m.parameters i;
    ports = option_same (map (port_with f)) (λ list. map (port_told told) list.items) (λ list. map (port_told (λ x. f (told x))) list.items)
        (λ list. map_same (port_with f) (port_told told) (port_told (λ x. f (told x))) port_with_told list.items) m.ports i;
    items = map_same (item_with f) (item_told told) (item_told (λ x. f (told x))) item_with_told m.items.items i;
  }

  -- texts
  pub source_with_told : (text : TextTree) → source_with f (source_told told text) ≡ source_told (λ x. f (told x)) text
  source_with_told text = map_same (module_with f) (module_told told) (module_told (λ x. f (told x))) module_with_told text.modules.items

-- ---- their words are what their tokens tell

module _ {W : Type 0} (told : Token → W) where
  pub range_words_told : (range : Bounds) → range_words (range_told told range) ≡ map told (range_leaves range)
  range_words_told range = joined_words told _ _ (boxed_words_told told range.left) (boxed_words_told told range.right)

  -- types
  pub type_words_told : (type : SignAndRange) → type_words (type_told told type) ≡ map told (type_leaves type)
  type_words_told type = words_if_some told range_words (range_told told) range_leaves range_words_told type.range

  -- types of parameters
  pub parameter_type_words_told : (type : ParameterType) →
      parameter_type_words (parameter_type_told told type) ≡ map told (parameter_type_leaves type)
  parameter_type_words_told (kinds.Integer long) = refl
  parameter_type_words_told (kinds.Typed type) = type_words_told type

  -- name = value
  pub setting_words_told : (setting : Setting) → setting_words (setting_told told setting) ≡ map told (setting_leaves setting)
  setting_words_told setting = λ i. told setting.name ∷ boxed_words_told told setting.value i

  -- target = value
  pub net_assignment_words_told : (one : NetAssignment) → net_assignment_words (net_assignment_told told one) ≡ map told (net_assignment_leaves one)
  net_assignment_words_told one = pair_words_told told one.target one.value

  -- what is declared
  pub declared_words_told : (declared : Declared) → declared_words (declared_told told declared) ≡ map told (declared_leaves declared)
  declared_words_told declared =
      λ i. told declared.name ∷ words_if_some told expression_words (boxed_told told) boxed_leaves (boxed_words_told told) declared.value i

  -- directions
  pub direction_words_told : (direction : Direction) → direction_words (direction_told told direction) ≡ map told (direction_leaves direction)
  direction_words_told (directions.Input wire type) = type_words_told type
  direction_words_told (directions.Output net type) = type_words_told type
  direction_words_told (directions.OutputInteger long) = refl

  -- ports
  pub port_words_told : (port : Port) → port_words (port_told told port) ≡ map told (port_leaves port)
  port_words_told port = joined_words told _ (port.name ∷ if_some boxed_leaves port.value)
      (words_if_some told direction_words (direction_told told) direction_leaves direction_words_told port.direction)
      (λ i. told port.name ∷ words_if_some told expression_words (boxed_told told) boxed_leaves (boxed_words_told told) port.value i)

  -- parameters of a head
  pub head_words_told : (head : HeadParameter) → head_words (head_told told head) ≡ map told (head_leaves head)
  head_words_told head = joined_words told _ _
      (words_if_some told parameter_type_words (parameter_type_told told) parameter_type_leaves parameter_type_words_told head.kind)
      (setting_words_told head.setting)

  -- connections by name
  pub connection_words_told : (connection : Connection) →
      connection_words (connection_told told connection) ≡ map told (connection_leaves connection)
  connection_words_told connection =
      λ i. told connection.name ∷ words_if_some told expression_words (boxed_told told) boxed_leaves (boxed_words_told told) connection.value i

  -- connections
  pub connections_words_told : (connections : Connections) →
      connections_words (connections_told told connections) ≡ map told (connections_leaves connections)
  connections_words_told (connecting.ByOrder values) =
      flat_words told expression_words (expression_told told) leaves_of (expression_words_told told) values.items
  connections_words_told (connecting.ByName list) =
      flat_words told connection_words (connection_told told) connection_leaves connection_words_told list.items

  -- instances
  pub instance_words_told : (instance : Instance) → instance_words (instance_told told instance) ≡ map told (instance_leaves instance)
  instance_words_told instance = λ i. told instance.name ∷ connections_words_told instance.connections i

  -- kinds of declarations
  pub declaration_kind_words_told : (kind : DeclarationKind) →
      declaration_kind_words (declaration_kind_told told kind) ≡ map told (declaration_kind_leaves kind)
  declaration_kind_words_told (declaring.Variables net type) = type_words_told type
  declaration_kind_words_told (declaring.Integers long) = refl
  declaration_kind_words_told (declaring.Directed direction) = direction_words_told direction

  settings_words_told : (list : List Setting) → flat_map setting_words (map (setting_told told) list) ≡ map told (flat_map setting_leaves list)
  settings_words_told list = flat_words told setting_words (setting_told told) setting_leaves setting_words_told list

  -- items of a module
  pub item_words_told : (item : ModuleItem) → item_words (item_told told item) ≡ map told (item_leaves item)
  item_words_told (items.Parameters at local type settings) =
      joined_words told _ _ (parameter_type_words_told type) (settings_words_told settings.items)
  item_words_told (items.Declaration at kind list) = joined_words told _ _ (declaration_kind_words_told kind)
      (flat_words told declared_words (declared_told told) declared_leaves declared_words_told list.items)
  item_words_told (items.Events at names) = refl
  item_words_told (items.Assignments at list) =
      flat_words told net_assignment_words (net_assignment_told told) net_assignment_leaves net_assignment_words_told list.items
  item_words_told (items.Initial at statement) = statement_words_told told statement
  item_words_told (items.Always at statement) = statement_words_told told statement
  item_words_told (items.Instances name overrides list) = λ i. told name ∷ joined_words told _ _
      (words_if_some told connections_words (connections_told told) connections_leaves connections_words_told overrides)
      (flat_words told instance_words (instance_told told) instance_leaves instance_words_told list.items) i

  -- modules
  pub module_words_told : (m : ModuleTree) → module_words (module_told told m) ≡ map told (module_leaves m)
  module_words_told m = λ i. told m.name ∷ joined_words told _ _
      (words_if_some told (flat_map head_words) (λ list. map (head_told told) list.items) (λ list. flat_map head_leaves list.items)
      (λ list. flat_words told head_words (head_told told) head_leaves head_words_told list.items) m.parameters)
      (joined_words told _ _
      (words_if_some told (flat_map port_words) (λ list. map (port_told told) list.items) (λ list. flat_map port_leaves list.items)
      (λ list. flat_words told port_words (port_told told) port_leaves port_words_told list.items) m.ports)
      (flat_words told item_words (item_told told) item_leaves item_words_told m.items.items)) i

  -- texts
  pub source_words_told : (text : TextTree) → source_words (source_told told text) ≡ map told (text_leaves text)
  source_words_told text = flat_words told module_words (module_told told) module_leaves module_words_told text.modules.items
