-- *internal*: The tree that a text of the program stands for.
use Rattle.std.specs.Prelude.{List, map, option_map}
use Rattle.vwords.specs.Words.{Text}
use Rattle.vast.specs.TokenTexts.{token_text}
use Rattle.vast.specs.declared.token.Token.{Token}
use Rattle.vast.specs.ExpressionTrees.{expression_told, boxed_told}
use Rattle.vast.specs.StatementTrees.{target_told, statement_told}
use Rattle.vast.specs.Modules.{RangeOf, TypeOf, ParameterTypeOf, SettingOf, NetAssignmentOf, DeclaredOf, DirectionOf, PortOf, HeadParameterOf, ConnectionOf, ConnectionsOf, InstanceOf, DeclarationKindOf, ItemOf, ModuleOf, SourceOf, RangeTree, TypeTree, ParameterType, integer, typed, SettingTree, NetAssignment, DeclaredTree, DirectionTree, input, output, output_integer, PortTree, HeadParameter, ConnectionTree, ConnectionsTree, by_order, by_name, InstanceTree, DeclarationKind, variables, integers, directed, ItemTree, parameters, declaration, events, assignments, initial, always, instances, ModuleTree, SourceTree}
use Rattle.vast.specs.declared.module.Bounds.{Bounds}
use Rattle.vast.specs.declared.module.SignAndRange.{SignAndRange}
use Rattle.vast.specs.declared.module.ParameterType.{ParameterType as ParameterWords}
use Rattle.vast.specs.declared.module.ParameterType.TheVariants as kinds
use Rattle.vast.specs.declared.module.Setting.{Setting}
use Rattle.vast.specs.declared.module.NetAssignment.{NetAssignment as NetAssignmentWords}
use Rattle.vast.specs.declared.module.Declared.{Declared}
use Rattle.vast.specs.declared.module.Direction.{Direction}
use Rattle.vast.specs.declared.module.Direction.TheVariants as directions
use Rattle.vast.specs.declared.module.Port.{Port}
use Rattle.vast.specs.declared.module.HeadParameter.{HeadParameter as HeadWords}
use Rattle.vast.specs.declared.module.Connection.{Connection}
use Rattle.vast.specs.declared.module.Connections.{Connections}
use Rattle.vast.specs.declared.module.Connections.TheVariants as connecting
use Rattle.vast.specs.declared.module.Instance.{Instance}
use Rattle.vast.specs.declared.module.DeclarationKind.{DeclarationKind as DeclarationWords}
use Rattle.vast.specs.declared.module.DeclarationKind.TheVariants as declaring
use Rattle.vast.specs.declared.module.ModuleItem.{ModuleItem}
use Rattle.vast.specs.declared.module.ModuleItem.TheVariants as items
use Rattle.vast.specs.declared.module.ModuleTree.{ModuleTree as ModuleWords}
use Rattle.vast.specs.declared.module.TextTree.{TextTree}

-- with words that are told so
module _ {W : Type 0} (told : Token → W) where
  abbrev pub range_told : Bounds → RangeOf W
  range_told bounds = record { left = boxed_told told bounds.left; right = boxed_told told bounds.right }

  abbrev pub type_told : SignAndRange → TypeOf W
  type_told type = record { signed = type.signed; range = option_map range_told type.range }

  abbrev pub parameter_type_told : ParameterWords → ParameterTypeOf W
  parameter_type_told (kinds.Integer long) = integer long
  parameter_type_told (kinds.Typed type) = typed (type_told type)

  abbrev pub setting_told : Setting → SettingOf W
  setting_told setting = record { name = told setting.name; value = boxed_told told setting.value }

  abbrev pub net_assignment_told : NetAssignmentWords → NetAssignmentOf W
  net_assignment_told one = record { target = target_told told one.target; value = boxed_told told one.value }

  abbrev pub declared_told : Declared → DeclaredOf W
  declared_told declared = record { name = told declared.name; value = option_map (boxed_told told) declared.value }

  abbrev pub direction_told : Direction → DirectionOf W
  direction_told (directions.Input wire type) = input wire (type_told type)
  direction_told (directions.Output net type) = output net (type_told type)
  direction_told (directions.OutputInteger long) = output_integer long

  abbrev pub port_told : Port → PortOf W
  port_told port = record {
    direction = option_map direction_told port.direction;
    name = told port.name;
    value = option_map (boxed_told told) port.value;
  }

  abbrev pub head_told : HeadWords → HeadParameterOf W
  head_told head = record { kind = option_map parameter_type_told head.kind; setting = setting_told head.setting }

  abbrev pub connection_told : Connection → ConnectionOf W
  connection_told connection = record { name = told connection.name; value = option_map (boxed_told told) connection.value }

  abbrev pub connections_told : Connections → ConnectionsOf W
  connections_told (connecting.ByOrder values) = by_order (map (expression_told told) values.items)
  connections_told (connecting.ByName connections) = by_name (map connection_told connections.items)

  abbrev pub instance_told : Instance → InstanceOf W
  instance_told instance = record { name = told instance.name; connections = connections_told instance.connections }

  abbrev pub declaration_kind_told : DeclarationWords → DeclarationKindOf W
  declaration_kind_told (declaring.Variables net type) = variables net (type_told type)
  declaration_kind_told (declaring.Integers long) = integers long
  declaration_kind_told (declaring.Directed direction) = directed (direction_told direction)

  abbrev pub item_told : ModuleItem → ItemOf W
  item_told (items.Parameters at local type settings) = parameters local (parameter_type_told type) (map setting_told settings.items)
  item_told (items.Declaration at kind declared) = declaration (declaration_kind_told kind) (map declared_told declared.items)
  item_told (items.Events at names) = events (map told names.items)
  item_told (items.Assignments at list) = assignments (map net_assignment_told list.items)
  item_told (items.Initial at statement) = initial (statement_told told statement)
  item_told (items.Always at statement) = always (statement_told told statement)
  item_told (items.Instances name overrides list) =
      instances (told name) (option_map connections_told overrides) (map instance_told list.items)

  abbrev pub module_told : ModuleWords → ModuleOf W
  module_told m = record {
    name = told m.name;
    parameters = option_map (λ list. map head_told list.items) m.parameters;
    ports = option_map (λ list. map port_told list.items) m.ports;
    items = map item_told m.items.items;
  }

  abbrev pub source_told : TextTree → SourceOf W
  source_told text = map module_told text.modules.items

-- with words that are told by their letters
module _ (words : List Text) where
  abbrev pub range_tree : Bounds → RangeTree
  range_tree = range_told (token_text words)

  abbrev pub type_tree : SignAndRange → TypeTree
  type_tree = type_told (token_text words)

  abbrev pub parameter_type : ParameterWords → ParameterType
  parameter_type = parameter_type_told (token_text words)

  abbrev pub setting_tree : Setting → SettingTree
  setting_tree = setting_told (token_text words)

  abbrev pub net_assignment : NetAssignmentWords → NetAssignment
  net_assignment = net_assignment_told (token_text words)

  abbrev pub declared_tree : Declared → DeclaredTree
  declared_tree = declared_told (token_text words)

  abbrev pub direction_tree : Direction → DirectionTree
  direction_tree = direction_told (token_text words)

  abbrev pub port_tree : Port → PortTree
  port_tree = port_told (token_text words)

  abbrev pub head_parameter : HeadWords → HeadParameter
  head_parameter = head_told (token_text words)

  abbrev pub connection_tree : Connection → ConnectionTree
  connection_tree = connection_told (token_text words)

  abbrev pub connections_tree : Connections → ConnectionsTree
  connections_tree = connections_told (token_text words)

  abbrev pub instance_tree : Instance → InstanceTree
  instance_tree = instance_told (token_text words)

  abbrev pub declaration_kind : DeclarationWords → DeclarationKind
  declaration_kind = declaration_kind_told (token_text words)

  abbrev pub item_tree : ModuleItem → ItemTree
  item_tree = item_told (token_text words)

  abbrev pub module_tree : ModuleWords → ModuleTree
  module_tree = module_told (token_text words)

  abbrev pub source_tree : TextTree → SourceTree
  source_tree = source_told (token_text words)
