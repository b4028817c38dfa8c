-- *trusted*: The ports of a module, each with its whole direction (IEEE 1364-2005, 12.3.2 to 12.3.4).
use Rattle.std.specs.Prelude.{Bool, true, false, not, ◌||◌, if◌then◌else◌, List, [], ◌∷◌, map, Option, None, Some, is_some, unwrap_or}
use Rattle.std.specs.List.{filter, list_any}
use Rattle.std.specs.Option.{option_or}
use Rattle.std.specs.Str.{bytes_eq}
use Rattle.vwords.specs.Words.{Text}
use Rattle.vast.specs.NumberedWords.{Word}
use Rattle.vast.specs.NumberedModules.{TypeTree, DirectionTree, input, output, output_integer, PortTree, DeclarationKind, variables, integers, directed, DeclaredTree, ItemTree, parameters, declaration, events, assignments, initial, always, instances, ModuleTree}
use Rattle.vast.specs.declared.module.NetKind.{NetKind}
use Rattle.vast.specs.declared.module.NetKind.TheVariants as nets
use Rattle.vmodules.specs.declared.ports.PortKind.{PortKind}
use Rattle.vmodules.specs.declared.ports.PortKind.TheVariants.{Wire, Reg, Integer, Time}
use Rattle.vmodules.specs.Names.{is_declared, letters_of}

-- 12.3.3: a net or a variable that an item declares besides a port of its name
pub record Second : Type 0 where
  pub name : Word
  pub net : NetKind
  pub type : TypeTree

pub record Port : Type 0 where
  pub name : Word
  pub output : Bool
  pub kind : PortKind
  pub type : TypeTree
  pub again : Option Second

-- no sign and no range
abbrev pub bare : TypeTree
bare = record { signed = false; range = None }

-- the type that stands with a direction
abbrev pub type_in : DirectionTree → TypeTree
type_in (input wire type) = type
type_in (output net type) = type
type_in (output_integer long) = bare

-- 4.2.1, 4.2.2
abbrev pub kind_of : NetKind → PortKind
kind_of nets.Wire = Wire
kind_of nets.Reg = Reg

-- 4.8: a `time` is the longer one
abbrev pub integer_kind : Bool → PortKind
integer_kind long = if long then Time else Integer

-- 12.3.3: a port that goes this way is a net, save where a word says `reg`, `integer` or `time`; without any direction it is an input
abbrev pub port_by : Option DirectionTree → Word → Port
port_by None name = record { name = name; output = false; kind = Wire; type = bare; again = None }
port_by (Some (input wire type)) name = record { name = name; output = false; kind = Wire; type = type; again = None }
port_by (Some (output net type)) name =
    record { name = name; output = true; kind = kind_of (unwrap_or net nets.Wire); type = type; again = None }
port_by (Some (output_integer long)) name = record { name = name; output = true; kind = integer_kind long; type = bare; again = None }

-- 12.3.4: a port without a direction has the whole direction of the one before it
abbrev pub ports_behind : Option DirectionTree → List PortTree → List Port
ports_behind before [] = []
ports_behind before (port ∷ more) =
    port_by (option_or port.direction before) port.name ∷ ports_behind (option_or port.direction before) more

-- ---- 12.3.2: a list of names alone, which items declare

-- a list has names alone where its first port goes no way
abbrev pub is_plain : List PortTree → Bool
is_plain [] = false
is_plain (port ∷ more) = not (is_some port.direction)

-- the name is among those that are declared together
abbrev pub declares : List DeclaredTree → Text → Bool
declares list name = list_any (λ one. bytes_eq one.name.letters name) list

abbrev pub direction_as : DeclarationKind → Option DirectionTree
direction_as (variables net type) = None
direction_as (integers long) = None
direction_as (directed direction) = Some direction

-- which way an item says that a port of this name goes
abbrev pub direction_by : ItemTree → Text → Option DirectionTree
direction_by (parameters local type settings) name = None
direction_by (declaration kind list) name = if declares list name then direction_as kind else None
direction_by (events names) name = None
direction_by (assignments settings) name = None
direction_by (initial statement) name = None
direction_by (always statement) name = None
direction_by (instances letters overrides list) name = None

-- and which way items do: the first that says it
abbrev pub direction_for : List ItemTree → Text → Option DirectionTree
direction_for [] name = None
direction_for (item ∷ more) name = option_or (direction_by item name) (direction_for more name)

abbrev pub second_named : NetKind → TypeTree → List DeclaredTree → Text → Option Second
second_named net type [] name = None
second_named net type (one ∷ more) name =
    if bytes_eq one.name.letters name then Some (record { name = one.name; net = net; type = type }) else second_named net type more name

abbrev pub second_as : DeclarationKind → List DeclaredTree → Text → Option Second
second_as (variables net type) list name = second_named net type list name
second_as (integers long) list name = None
second_as (directed direction) list name = None

-- as what net or variable an item declares this name
abbrev pub second_by : ItemTree → Text → Option Second
second_by (parameters local type settings) name = None
second_by (declaration kind list) name = second_as kind list name
second_by (events names) name = None
second_by (assignments settings) name = None
second_by (initial statement) name = None
second_by (always statement) name = None
second_by (instances letters overrides list) name = None

-- and as what items do: the first that declares it so
abbrev pub second_for : List ItemTree → Text → Option Second
second_for [] name = None
second_for (item ∷ more) name = option_or (second_by item name) (second_for more name)

-- 12.3.3: a port that is declared again is such a net or variable, and signed where either is; an `integer` or a `time` was declared whole
abbrev pub kind_with : PortKind → Option Second → PortKind
kind_with kind None = kind
kind_with Wire (Some second) = kind_of second.net
kind_with Reg (Some second) = kind_of second.net
kind_with Integer (Some second) = Integer
kind_with Time (Some second) = Time

abbrev pub type_with : TypeTree → Option Second → TypeTree
type_with type None = type
type_with type (Some second) = record { signed = type.signed || second.type.signed; range = type.range }

abbrev pub with_second : Port → Option Second → Port
with_second p second =
    record { name = p.name; output = p.output; kind = kind_with p.kind second; type = type_with p.type second; again = second }

abbrev pub declared_port : List ItemTree → Word → Port
declared_port items name = with_second (port_by (direction_for items name.letters) name) (second_for items name.letters)

-- ---- the ports of a module

abbrev pub ports_listed : List ItemTree → Option (List PortTree) → List Port
ports_listed items None = []
ports_listed items (Some list) = if is_plain list then map (λ port. declared_port items port.name) list else ports_behind None list

abbrev pub ports_of : ModuleTree → List Port
ports_of m = ports_listed m.items m.ports

-- the names that items declare as ports, and those of all ports
abbrev pub listed_names : Option (List PortTree) → List Word
listed_names None = []
listed_names (Some list) = map (λ port. port.name) list

abbrev pub plain_names : Option (List PortTree) → List Word
plain_names None = []
plain_names (Some list) = if is_plain list then map (λ port. port.name) list else []

-- the items of a module without the nets and variables that are ports of a list of names alone: those stand with the ports
abbrev pub own_names : (Text → Bool) → DeclarationKind → List DeclaredTree → List DeclaredTree
own_names is_port (variables net type) list = filter (λ one. not (is_port one.name.letters)) list
own_names is_port (integers long) list = list
own_names is_port (directed direction) list = list

abbrev pub own_item : (Text → Bool) → ItemTree → ItemTree
own_item is_port (parameters local type settings) = parameters local type settings
own_item is_port (declaration kind list) = declaration kind (own_names is_port kind list)
own_item is_port (events list) = events list
own_item is_port (assignments settings) = assignments settings
own_item is_port (initial statement) = initial statement
own_item is_port (always statement) = always statement
own_item is_port (instances letters overrides list) = instances letters overrides list

abbrev pub own_items : ModuleTree → List ItemTree
own_items m = map (own_item (is_declared (letters_of (plain_names m.ports)))) m.items

-- ---- 6.2.1, A.2.3: the values of the list's ports, as a declaration in front of the items. Only the processes of its values are asked for: its type
-- says nothing

abbrev pub port_declared : PortTree → DeclaredTree
port_declared port = record { name = port.name; value = port.value }

abbrev pub ports_declared : Option (List PortTree) → List DeclaredTree
ports_declared None = []
ports_declared (Some list) = map port_declared list

abbrev pub port_values : ModuleTree → ItemTree
port_values m = declaration (variables nets.Reg bare) (ports_declared m.ports)

-- the items that make processes: those values, and then its items
abbrev pub process_items : ModuleTree → List ItemTree
process_items m = port_values m ∷ m.items

-- whether the list has names alone
abbrev pub is_plain_list : Option (List PortTree) → Bool
is_plain_list None = false
is_plain_list (Some list) = is_plain list
