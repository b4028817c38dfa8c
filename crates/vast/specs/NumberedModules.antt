-- *product rule*: Modules whose words keep their numbers.
pub use Rattle.vast.specs.Modules.{integer, typed, input, output, output_integer, by_order, by_name, variables, integers, directed, parameters, declaration, events, assignments, initial, always, instances}
use Rattle.vast.specs.Modules.{RangeOf, TypeOf, ParameterTypeOf, SettingOf, NetAssignmentOf, DeclaredOf, DirectionOf, PortOf, HeadParameterOf, ConnectionOf, ConnectionsOf, InstanceOf, DeclarationKindOf, ItemOf, ModuleOf, SourceOf}
use Rattle.vast.specs.NumberedWords.{Word}

abbrev pub RangeTree : Type 0
RangeTree = RangeOf Word

abbrev pub TypeTree : Type 0
TypeTree = TypeOf Word

abbrev pub ParameterType : Type 0
ParameterType = ParameterTypeOf Word

abbrev pub SettingTree : Type 0
SettingTree = SettingOf Word

abbrev pub NetAssignment : Type 0
NetAssignment = NetAssignmentOf Word

abbrev pub DeclaredTree : Type 0
DeclaredTree = DeclaredOf Word

abbrev pub DirectionTree : Type 0
DirectionTree = DirectionOf Word

abbrev pub PortTree : Type 0
PortTree = PortOf Word

abbrev pub HeadParameter : Type 0
HeadParameter = HeadParameterOf Word

abbrev pub ConnectionTree : Type 0
ConnectionTree = ConnectionOf Word

abbrev pub ConnectionsTree : Type 0
ConnectionsTree = ConnectionsOf Word

abbrev pub InstanceTree : Type 0
InstanceTree = InstanceOf Word

abbrev pub DeclarationKind : Type 0
DeclarationKind = DeclarationKindOf Word

abbrev pub ItemTree : Type 0
ItemTree = ItemOf Word

abbrev pub ModuleTree : Type 0
ModuleTree = ModuleOf Word

abbrev pub SourceTree : Type 0
SourceTree = SourceOf Word
