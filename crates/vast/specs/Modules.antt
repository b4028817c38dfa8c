-- *trusted*: Modules of the whole profile (IEEE 1364-2005, clauses 4 and 12, A.1 and A.2, narrowed to this product's profile): their
-- trees, the words that these spell, and which stand as the grammar lets them. A source text is its modules.
use Rattle.std.specs.Prelude.{◌≡◌, IsTrue, ℕ, nat_le, Bool, true, false, not, ◌&&◌, if◌then◌else◌, List, [], ◌∷◌, ◌++◌, Option, Some, None, is_some, length, codes, flat_map}
use Rattle.std.specs.List.{list_all}
use Rattle.vwords.specs.Words.{Text, is_name}
use Rattle.vast.specs.Expressions.{ExpressionOf, ExpressionTree, spell_expression, depth, fits_expression}
use Rattle.vast.specs.Statements.{TargetOf, spell_target, target_depth, fits_target, StatementOf, StatementTree, with_commas, in_parentheses, spell_statement, statement_depth, fits_statement}
use Rattle.vast.specs.declared.module.NetKind.{NetKind}
use Rattle.vast.specs.declared.module.NetKind.TheVariants as net

-- 4.3: [ left : right ]
pub record RangeOf (W : Type 0) : Type 0 where
  pub left : ExpressionOf W
  pub right : ExpressionOf W

-- 4.2.1, 4.2.2, 4.3.1: signed, and a range
pub record TypeOf (W : Type 0) : Type 0 where
  pub signed : Bool
  pub range : Option (RangeOf W)

-- 4.10.1: the type of a parameter
pub data ParameterTypeOf (W : Type 0) : Type 0 where
  integer : Bool → ParameterTypeOf W  -- integer, or time
  typed : TypeOf W → ParameterTypeOf W

-- name = value
pub record SettingOf (W : Type 0) : Type 0 where
  pub name : W
  pub value : ExpressionOf W

-- 6.1: target = value
pub record NetAssignmentOf (W : Type 0) : Type 0 where
  pub target : TargetOf W
  pub value : ExpressionOf W

-- name = value, or name alone
pub record DeclaredOf (W : Type 0) : Type 0 where
  pub name : W
  pub value : Option (ExpressionOf W)

-- 12.3.3: which way a port goes, and what kind of variable or net it is, if a word says so
pub data DirectionOf (W : Type 0) : Type 0 where
  input : Bool → TypeOf W → DirectionOf W  -- input type, or input wire type
  output : Option NetKind → TypeOf W → DirectionOf W  -- output type, output wire type or output reg type
  output_integer : Bool → DirectionOf W  -- output integer, or output time

-- a port; without a direction it has that of the one before it, or, where none has a direction, that of the item which declares it;
-- A.2.1.2, A.2.3: and the value of an output that is a variable
pub record PortOf (W : Type 0) : Type 0 where
  pub direction : Option (DirectionOf W)
  pub name : W
  pub value : Option (ExpressionOf W)

-- 12.2: a parameter of a module's head; without a type of its own it has that of the one before it
pub record HeadParameterOf (W : Type 0) : Type 0 where
  pub kind : Option (ParameterTypeOf W)
  pub setting : SettingOf W

-- 12.3.6: . name ( value ), or . name ( )
pub record ConnectionOf (W : Type 0) : Type 0 where
  pub name : W
  pub value : Option (ExpressionOf W)

-- 12.3.5, 12.3.6: connections by order or by name
pub data ConnectionsOf (W : Type 0) : Type 0 where
  by_order : List (ExpressionOf W) → ConnectionsOf W
  by_name : List (ConnectionOf W) → ConnectionsOf W

-- 12.1.2: name ( connections )
pub record InstanceOf (W : Type 0) : Type 0 where
  pub name : W
  pub connections : ConnectionsOf W

-- what variables or nets are declared as
pub data DeclarationKindOf (W : Type 0) : Type 0 where
  variables : NetKind → TypeOf W → DeclarationKindOf W  -- wire type, or reg type
  integers : Bool → DeclarationKindOf W  -- integer, or time
  directed : DirectionOf W → DeclarationKindOf W  -- ports: input type, output type and so on

-- A.1.4
pub data ItemOf (W : Type 0) : Type 0 where
  parameters : Bool → ParameterTypeOf W → List (SettingOf W) → ItemOf W  -- parameter type setting, .. ; or localparam ..
  declaration : DeclarationKindOf W → List (DeclaredOf W) → ItemOf W  -- reg type name, name = value, .. ;
  events : List W → ItemOf W  -- event name, .. ;
  assignments : List (NetAssignmentOf W) → ItemOf W  -- assign target = value, .. ;
  initial : StatementOf W → ItemOf W  -- initial statement
  always : StatementOf W → ItemOf W  -- always statement
  instances : W → Option (ConnectionsOf W) → List (InstanceOf W) → ItemOf W  -- name #( connections ) instance, .. ;

-- A.1.2
pub record ModuleOf (W : Type 0) : Type 0 where
  pub name : W
  pub parameters : Option (List (HeadParameterOf W))  -- #( parameter type setting, .. )
  pub ports : Option (List (PortOf W))  -- ( direction name, .. ), or ( )
  pub items : List (ItemOf W)

-- a whole text: its modules in order
abbrev pub SourceOf : Type 0 → Type 0
SourceOf W = List (ModuleOf W)

-- Of words that are told by their letters alone

abbrev pub RangeTree : Type 0
RangeTree = RangeOf Text

abbrev pub TypeTree : Type 0
TypeTree = TypeOf Text

abbrev pub ParameterType : Type 0
ParameterType = ParameterTypeOf Text

abbrev pub SettingTree : Type 0
SettingTree = SettingOf Text

abbrev pub NetAssignment : Type 0
NetAssignment = NetAssignmentOf Text

abbrev pub DeclaredTree : Type 0
DeclaredTree = DeclaredOf Text

abbrev pub DirectionTree : Type 0
DirectionTree = DirectionOf Text

abbrev pub PortTree : Type 0
PortTree = PortOf Text

abbrev pub HeadParameter : Type 0
HeadParameter = HeadParameterOf Text

abbrev pub ConnectionTree : Type 0
ConnectionTree = ConnectionOf Text

abbrev pub ConnectionsTree : Type 0
ConnectionsTree = ConnectionsOf Text

abbrev pub InstanceTree : Type 0
InstanceTree = InstanceOf Text

abbrev pub DeclarationKind : Type 0
DeclarationKind = DeclarationKindOf Text

abbrev pub ItemTree : Type 0
ItemTree = ItemOf Text

abbrev pub ModuleTree : Type 0
ModuleTree = ModuleOf Text

abbrev pub SourceTree : Type 0
SourceTree = SourceOf Text

-- The words of a tree

abbrev pub spell_range : Option RangeTree → List Text
spell_range None = []
spell_range (Some range) = codes "[" ∷ (spell_expression range.left ++ codes ":" ∷ (spell_expression range.right ++ codes "]" ∷ []))

abbrev pub spell_signed : Bool → List Text
spell_signed signed = if signed then codes "signed" ∷ [] else []

abbrev pub spell_type : TypeTree → List Text
spell_type type = spell_signed type.signed ++ spell_range type.range

abbrev pub integer_word : Bool → Text
integer_word long = if long then codes "time" else codes "integer"

abbrev pub spell_parameter_type : ParameterType → List Text
spell_parameter_type (integer long) = integer_word long ∷ []
spell_parameter_type (typed type) = spell_type type

abbrev pub spell_setting : SettingTree → List Text
spell_setting setting = setting.name ∷ codes "=" ∷ spell_expression setting.value

abbrev pub spell_net_assignment : NetAssignment → List Text
spell_net_assignment one = spell_target one.target ++ codes "=" ∷ spell_expression one.value

abbrev pub spell_value : Text → Option ExpressionTree → List Text
spell_value letters None = letters ∷ []
spell_value letters (Some value) = letters ∷ codes "=" ∷ spell_expression value

abbrev pub spell_declared : DeclaredTree → List Text
spell_declared declared = spell_value declared.name declared.value

abbrev pub net_word : NetKind → Text
net_word net.Wire = codes "wire"
net_word net.Reg = codes "reg"

abbrev pub spell_net : Option NetKind → List Text
spell_net None = []
spell_net (Some kind) = net_word kind ∷ []

abbrev pub spell_wire : Bool → List Text
spell_wire wire = if wire then codes "wire" ∷ [] else []

abbrev pub spell_direction : Option DirectionTree → List Text
spell_direction None = []
spell_direction (Some (input wire type)) = codes "input" ∷ (spell_wire wire ++ spell_type type)
spell_direction (Some (output kind type)) = codes "output" ∷ (spell_net kind ++ spell_type type)
spell_direction (Some (output_integer long)) = codes "output" ∷ integer_word long ∷ []

abbrev pub spell_port : PortTree → List Text
spell_port port = spell_direction port.direction ++ spell_value port.name port.value

abbrev pub spell_kind : Option ParameterType → List Text
spell_kind None = []
spell_kind (Some type) = codes "parameter" ∷ spell_parameter_type type

abbrev pub spell_head_parameter : HeadParameter → List Text
spell_head_parameter parameter = spell_kind parameter.kind ++ spell_setting parameter.setting

abbrev pub spell_optional : Option ExpressionTree → List Text
spell_optional None = []
spell_optional (Some value) = spell_expression value

abbrev pub spell_connection : ConnectionTree → List Text
spell_connection connection = codes "." ∷ connection.name ∷ in_parentheses (spell_optional connection.value)

abbrev pub spell_connections : ConnectionsTree → List Text
spell_connections (by_order values) = in_parentheses (with_commas spell_expression values)
spell_connections (by_name connections) = in_parentheses (with_commas spell_connection connections)

abbrev pub spell_overrides : Option ConnectionsTree → List Text
spell_overrides None = []
spell_overrides (Some connections) = codes "#" ∷ spell_connections connections

abbrev pub spell_instance : InstanceTree → List Text
spell_instance instance = instance.name ∷ spell_connections instance.connections

abbrev pub spell_declaration_kind : DeclarationKind → List Text
spell_declaration_kind (variables kind type) = net_word kind ∷ spell_type type
spell_declaration_kind (integers long) = integer_word long ∷ []
spell_declaration_kind (directed direction) = spell_direction (Some direction)

abbrev pub parameter_word : Bool → Text
parameter_word local = if local then codes "localparam" else codes "parameter"

abbrev pub spell_item : ItemTree → List Text
spell_item (parameters local type settings) =
    parameter_word local ∷ (spell_parameter_type type ++ (with_commas spell_setting settings ++ codes ";" ∷ []))
spell_item (declaration kind declared) = spell_declaration_kind kind ++ (with_commas spell_declared declared ++ codes ";" ∷ [])
spell_item (events names) = codes "event" ∷ (with_commas (λ letters. letters ∷ []) names ++ codes ";" ∷ [])
spell_item (assignments list) = codes "assign" ∷ (with_commas spell_net_assignment list ++ codes ";" ∷ [])
spell_item (initial statement) = codes "initial" ∷ spell_statement statement
spell_item (always statement) = codes "always" ∷ spell_statement statement
spell_item (instances name overrides list) =
    name ∷ (spell_overrides overrides ++ (with_commas spell_instance list ++ codes ";" ∷ []))

abbrev pub spell_head_parameters : Option (List HeadParameter) → List Text
spell_head_parameters None = []
spell_head_parameters (Some list) = codes "#" ∷ in_parentheses (with_commas spell_head_parameter list)

abbrev pub spell_ports : Option (List PortTree) → List Text
spell_ports None = []
spell_ports (Some list) = in_parentheses (with_commas spell_port list)

abbrev pub spell_module : ModuleTree → List Text
spell_module m =
    codes "module" ∷ m.name ∷ (spell_head_parameters m.parameters ++ (spell_ports m.ports ++
    codes ";" ∷ (flat_map spell_item m.items ++ codes "endmodule" ∷ [])))

abbrev pub spell : SourceTree → List Text
spell modules = flat_map spell_module modules

-- What stands as the grammar lets it: names in their places, lists that aren't empty, and no statement and no expression deeper
-- than so many levels

-- an expression that stands in no statement
abbrev pub fits_value : ℕ → ExpressionTree → Bool
fits_value levels tree = fits_expression tree && nat_le (depth tree) levels

abbrev pub fits_optional : ℕ → Option ExpressionTree → Bool
fits_optional levels None = true
fits_optional levels (Some tree) = fits_value levels tree

abbrev pub fits_range : ℕ → Option RangeTree → Bool
fits_range levels None = true
fits_range levels (Some range) = fits_value levels range.left && fits_value levels range.right

abbrev pub fits_type : ℕ → TypeTree → Bool
fits_type levels type = fits_range levels type.range

abbrev pub fits_parameter_type : ℕ → ParameterType → Bool
fits_parameter_type levels (integer long) = true
fits_parameter_type levels (typed type) = fits_type levels type

abbrev pub fits_setting : ℕ → SettingTree → Bool
fits_setting levels setting = is_name setting.name && fits_value levels setting.value

abbrev pub fits_net_assignment : ℕ → NetAssignment → Bool
fits_net_assignment levels one = (fits_target one.target && nat_le (target_depth one.target) levels) && fits_value levels one.value

abbrev pub fits_declared : ℕ → DeclaredTree → Bool
fits_declared levels declared = is_name declared.name && fits_optional levels declared.value

abbrev pub fits_direction : ℕ → Option DirectionTree → Bool
fits_direction levels None = true
fits_direction levels (Some (input wire type)) = fits_type levels type
fits_direction levels (Some (output kind type)) = fits_type levels type
fits_direction levels (Some (output_integer long)) = true

abbrev pub fits_port : ℕ → PortTree → Bool
fits_port levels port = fits_direction levels port.direction && (is_name port.name && fits_optional levels port.value)

abbrev pub is_directed : Option DirectionTree → Bool
is_directed None = false
is_directed (Some direction) = true

-- a port that is a name alone
abbrev pub is_named_port : PortTree → Bool
is_named_port port = not (is_directed port.direction) && (is_name port.name && not (is_some port.value))

-- 12.3.3: where the first port says which way it goes, each may; 12.3.2: else all are names alone, which items declare
abbrev pub fits_behind : ℕ → Option DirectionTree → List PortTree → Bool
fits_behind levels None list = list_all is_named_port list
fits_behind levels (Some direction) list = list_all (fits_port levels) list

abbrev pub fits_ports : ℕ → List PortTree → Bool
fits_ports levels [] = true
fits_ports levels (port ∷ more) = fits_behind levels port.direction (port ∷ more)

abbrev pub fits_kind : ℕ → Option ParameterType → Bool
fits_kind levels None = true
fits_kind levels (Some type) = fits_parameter_type levels type

abbrev pub fits_head_parameter : ℕ → HeadParameter → Bool
fits_head_parameter levels parameter = fits_kind levels parameter.kind && fits_setting levels parameter.setting

abbrev pub is_kind : Option ParameterType → Bool
is_kind None = false
is_kind (Some type) = true

-- the first parameter stands after the word
abbrev pub fits_head_parameters : ℕ → List HeadParameter → Bool
fits_head_parameters levels [] = false
fits_head_parameters levels (parameter ∷ more) =
    is_kind parameter.kind && list_all (fits_head_parameter levels) (parameter ∷ more)

abbrev pub fits_connection : ℕ → ConnectionTree → Bool
fits_connection levels connection = is_name connection.name && fits_optional levels connection.value

-- no connection at all is one by order, of parameters, too (own)
abbrev pub fits_connections : ℕ → ConnectionsTree → Bool
fits_connections levels (by_order values) = list_all (fits_value levels) values
fits_connections levels (by_name connections) = nat_le 1 (length connections) && list_all (fits_connection levels) connections

abbrev pub fits_overrides : ℕ → Option ConnectionsTree → Bool
fits_overrides levels None = true
fits_overrides levels (Some connections) = fits_connections levels connections

abbrev pub fits_instance : ℕ → InstanceTree → Bool
fits_instance levels instance = is_name instance.name && fits_connections levels instance.connections

abbrev pub fits_declaration_kind : ℕ → DeclarationKind → Bool
fits_declaration_kind levels (variables kind type) = fits_type levels type
fits_declaration_kind levels (integers long) = true
fits_declaration_kind levels (directed direction) = fits_direction levels (Some direction)

abbrev pub are_some : {A : Type 0} → (A → Bool) → List A → Bool
are_some test list = nat_le 1 (length list) && list_all test list

abbrev pub fits_body : ℕ → StatementTree → Bool
fits_body levels statement = fits_statement statement && nat_le (statement_depth statement) levels

abbrev pub fits_item : ℕ → ItemTree → Bool
fits_item levels (parameters local type settings) = fits_parameter_type levels type && are_some (fits_setting levels) settings
-- names with and without a value may stand in one declaration, of nets, too, and of ports, of which a rule says which may have one (own)
fits_item levels (declaration kind declared) = fits_declaration_kind levels kind && are_some (fits_declared levels) declared
fits_item levels (events names) = are_some is_name names
fits_item levels (assignments list) = are_some (fits_net_assignment levels) list
fits_item levels (initial statement) = fits_body levels statement
fits_item levels (always statement) = fits_body levels statement
fits_item levels (instances name overrides list) =
    is_name name && fits_overrides levels overrides && are_some (fits_instance levels) list

abbrev pub fits_optional_parameters : ℕ → Option (List HeadParameter) → Bool
fits_optional_parameters levels None = true
fits_optional_parameters levels (Some list) = fits_head_parameters levels list

abbrev pub fits_optional_ports : ℕ → Option (List PortTree) → Bool
fits_optional_ports levels None = true
fits_optional_ports levels (Some list) = fits_ports levels list

abbrev pub fits_module : ℕ → ModuleTree → Bool
fits_module levels m =
    is_name m.name && fits_optional_parameters levels m.parameters && fits_optional_ports levels m.ports
    && list_all (fits_item levels) m.items

abbrev pub fits : ℕ → SourceTree → Bool
fits levels modules = list_all (fits_module levels) modules

-- the words are those of the tree, which stands as the grammar lets it and whose statements and expressions have so many
-- levels at most
pub record DerivesWithin (levels : ℕ) (words : List Text) (tree : SourceTree) : Type 0 where
  pub spelled : spell tree ≡ words
  pub fitting : IsTrue (fits levels tree)

-- the profile's depth
abbrev pub DerivesText : List Text → SourceTree → Type 0
DerivesText words tree = DerivesWithin 64 words tree
