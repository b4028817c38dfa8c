-- *internal*: The readers of modules with the 64 levels that a text has (docs/LANGUAGE.md, "Depth").
use Rattle.std.specs.Prelude.{List, Option}
use Rattle.vast.specs.Expressions.{ExpressionTree}
use Rattle.vast.specs.Modules.{RangeTree, TypeTree, ParameterType, SettingTree, DeclaredTree, DirectionTree, PortTree, HeadParameter, ConnectionTree, ConnectionsTree, InstanceTree, ItemTree, ModuleTree, SourceTree, NetAssignment}
use Rattle.vexpr_parse.specs.Readers.{Reader}
use Rattle.vgrammar.specs.Parts.{Both, map_tree, pair}
use Rattle.vgrammar.specs.Statements.{List_of}
use Rattle.vgrammar.specs.Modules.{Value, first_port_of}
use Rattle.vgrammar.specs.Modules as with_levels

abbrev pub free_value : Reader ExpressionTree
free_value = with_levels.free_value 64

abbrev pub range : Reader RangeTree
range = with_levels.range 64

abbrev pub type : Reader TypeTree
type = with_levels.type 64

abbrev pub parameter_type : Reader ParameterType
parameter_type = with_levels.parameter_type 64

abbrev pub setting : Reader SettingTree
setting = with_levels.setting 64

abbrev pub net_assignment : Reader NetAssignment
net_assignment = with_levels.net_assignment 64

abbrev pub declarator : Reader DeclaredTree
declarator = with_levels.declarator 64

abbrev pub value_in : Reader Value
value_in = with_levels.value_in 64

abbrev pub connection : Reader ConnectionTree
connection = with_levels.connection 64

abbrev pub connections : Reader ConnectionsTree
connections = with_levels.connections 64

abbrev pub instance_behind : Reader InstanceTree
instance_behind = with_levels.instance_behind 64

abbrev pub overrides : Reader (Option ConnectionsTree)
overrides = with_levels.overrides 64

abbrev pub item : Reader ItemTree
item = with_levels.item 64

abbrev pub first_parameter : Reader HeadParameter
first_parameter = with_levels.first_parameter 64

abbrev pub head_parameter : Reader HeadParameter
head_parameter = with_levels.head_parameter 64

abbrev pub head_parameters : Reader (Both (List_of HeadParameter) (Unit {0}))
head_parameters = with_levels.head_parameters 64

abbrev pub direction : Reader DirectionTree
direction = with_levels.direction 64

abbrev pub first_port : Reader PortTree
first_port = map_tree first_port_of (pair direction declarator)

abbrev pub port : Reader PortTree
port = with_levels.port 64

abbrev pub ports : Reader (List PortTree)
ports = with_levels.ports 64

abbrev pub module_tree : Reader ModuleTree
module_tree = with_levels.module_tree 64

abbrev pub source : Reader SourceTree
source = with_levels.source 64
