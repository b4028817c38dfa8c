-- *trusted*: What instances use, and which names stand where they use it (IEEE 1364-2005, 4.10.1, 12.2, 12.3.9.2, 12.7).
use Rattle.std.specs.Prelude.{◌≡◌, ℕ, Bool, true, false, if◌then◌else◌, List, [], ◌∷◌, ◌++◌, map, slice_get, position, Option, None, Some, option_and_then}
use Rattle.std.specs.List.{Contains, flat_map, list_all}
use Rattle.std.specs.Str.{bytes_eq}
use Rattle.vwords.specs.Words.{Text}
use Rattle.vast.specs.NumberedWords.{Word}
use Rattle.vast.specs.NumberedExpressions.{ExpressionTree}
use Rattle.vast.specs.NumberedModules.{ConnectionsTree, InstanceTree, ParameterType, integer, typed, DeclarationKind, variables, integers, directed, ItemTree, parameters, declaration, events, assignments, initial, always, instances, ModuleTree, SourceTree}
use Rattle.vmodules.specs.Names.{letters_of}
use Rattle.vmodules.specs.Hierarchy.{module_of, top_of}
use Rattle.vmodules.specs.Ports.{Second, Port, type_in, is_plain_list, ports_of, port_values}
use Rattle.vmodules.specs.Placed.{placed_item}
use Rattle.vmodules.specs.Connected.{NamedConnection, open_names, named_connections, named_connections_if, value_for}
use Rattle.velab_expr.specs.Symbols.{Symbol, parameter_symbol, event_symbol, instance_symbol, name_in, valueless_by, symbols_in_head, symbols_by}
use Rattle.velab_declaration.specs.Variables.{Declaration, port_declaration, declarations, port_names, declared_names}
use Rattle.velab_expr.specs.Written.{target_of}
use Rattle.vast.specs.NumberedStatements.{TargetTree}
use Rattle.velab_process.specs.Processes.{process_trees_by}
use Rattle.elaboration_law.specs.Doubles.{names_in_module}
use Rattle.elaboration_law.specs.Hierarchy.{Instance, StandsAt}
use Rattle.elaboration_law.specs.Uses.{Use, Read, Driven, use_of, used_in, used_in_range, used_by_processes, used_in_target_by}

-- ---- places

-- what a name stands for (12.7)
pub data Thing : Type 0 where
  a_variable : Declaration → Thing
  a_parameter : Thing
  an_event : Thing
  an_instance : Thing

-- the names at a place of a module: those of its variables, those that a constant there may use, and those that all else may. And what
-- names stand for, one after another.
pub record Place : Type 0 where
  pub variables : List Text
  pub known : List Text
  pub names : List Text
  pub things : List Thing

-- what a name stands for there, where it is known
abbrev pub thing_of : Place → Word → Option Thing
thing_of place name = option_and_then (slice_get place.things) (position (bytes_eq name.letters) place.names)

-- round the top there are no names
abbrev pub no_place : Place
no_place = record { variables = []; known = []; names = []; things = [] }

-- the names of a module's variables
abbrev pub variables_of : ModuleTree → List Text
variables_of m = letters_of (declared_names m)

-- its named events and instances, the parameters of its head, and those of its items
abbrev pub symbols_of : ModuleTree → List Symbol
symbols_of m = flat_map valueless_by m.items ++ (symbols_in_head m.parameters ++ flat_map symbols_by m.items)

abbrev pub thing_by : Symbol → Thing
thing_by (parameter_symbol type setting) = a_parameter
thing_by (event_symbol name) = an_event
thing_by (instance_symbol name) = an_instance

-- what the names of a module stand for, in the order of these
abbrev pub things_in : ModuleTree → List Thing
things_in m = map a_variable (map port_declaration (ports_of m) ++ declarations m) ++ map thing_by (symbols_of m)

-- 4.10.1, 12.2: a constant behind these items may use a parameter that stands before it, in the head or among them. Variables, named events
-- and instances are known wherever they are declared, though they are no constants.
abbrev pub names_behind : ModuleTree → List ItemTree → List Text
names_behind m items = variables_of m ++ letters_of (map name_in (flat_map valueless_by m.items ++ (symbols_in_head m.parameters ++ flat_map symbols_by items)))

abbrev pub place_behind : ModuleTree → List ItemTree → Place
place_behind m items = record { variables = variables_of m; known = names_behind m items; names = names_in_module m; things = things_in m }

-- in the declaration of a parameter, which is a constant, behind these names
abbrev pub place_after : ModuleTree → List Text → Place
place_after m names = record { variables = variables_of m; known = names; names = names; things = things_in m }

-- what is used, and where
pub record UseAt : Type 0 where
  pub place : Place
  pub one : Use

abbrev pub at_place : Place → List Use → List UseAt
at_place place list = map (λ one. record { place = place; one = one }) list

-- ---- what an instance uses

abbrev pub used_in_type : Option ParameterType → List Use
used_in_type None = []
used_in_type (Some (integer long)) = []
used_in_type (Some (typed type)) = used_in_range type.range

abbrev pub used_outside : Option ExpressionTree → List Use
used_outside None = []
used_outside (Some value) = used_in true value

abbrev pub used_in_kind : DeclarationKind → List Use
used_in_kind (variables word type) = used_in_range type.range
used_in_kind (integers long) = []
used_in_kind (directed direction) = used_in_range (type_in direction).range

abbrev pub used_in_declaration : ItemTree → List Use
used_in_declaration (parameters local type settings) = []
used_in_declaration (declaration kind list) = used_in_kind kind
used_in_declaration (events names) = []
used_in_declaration (assignments settings) = []
used_in_declaration (initial statement) = []
used_in_declaration (always statement) = []
used_in_declaration (instances name overrides list) = []

abbrev pub used_in_processes : ItemTree → List Use
used_in_processes item = used_by_processes (process_trees_by item)

-- in an instance of this path, which formats show (17.1.1.6)
abbrev pub used_in_placed : Text → ItemTree → List Use
used_in_placed path item = used_in_processes (placed_item path item)

-- 12.3.3: of a port that is declared again its second range
abbrev pub used_again : Option Second → List Use
used_again None = []
used_again (Some second) = used_in_range second.type.range

module _ (m : ModuleTree) where
  -- 12.3.2: ports that items declare stand behind all of these
  abbrev pub port_place : Place
  port_place = place_behind m (if is_plain_list m.ports then m.items else [])

  abbrev pub used_in_port : Port → List UseAt
  used_in_port p = at_place port_place (used_in_range p.type.range) ++ at_place port_place (used_again p.again)

  -- items, each behind those before it
  abbrev pub used_by_items : (ItemTree → List Use) → List ItemTree → List ItemTree → List UseAt
  used_by_items used before [] = []
  used_by_items used before (item ∷ more) = at_place (place_behind m before) (used item) ++ used_by_items used (before ++ item ∷ []) more

  -- 6.2.1: the processes of the values of ports, which stand in front of all items, and those of items, in an instance of this path
  abbrev pub used_by_own_processes : Text → List UseAt
  used_by_own_processes path = at_place (place_behind m []) (used_in_processes (port_values m)) ++ used_by_items (used_in_placed path) [] m.items

-- of an instance of this module, which stands at this place: what is said of its parameters there, and what its ports are connected to
module _ (m : ModuleTree) (outside : Place) (values connections : List NamedConnection) where
  -- 4.10.1, 12.2: of a parameter the range, then its value, then the one from outside
  abbrev pub used_in_symbol : List Text → Symbol → List UseAt
  used_in_symbol names (parameter_symbol type setting) =
      at_place (place_after m names) (used_in_type type)
      ++ (at_place (place_after m names) (used_in true setting.value) ++ at_place outside (used_outside (value_for values setting.name.letters)))
  used_in_symbol names (event_symbol name) = []
  used_in_symbol names (instance_symbol name) = []

  -- each behind the names before it
  abbrev pub used_in_symbols : List Text → List Symbol → List UseAt
  used_in_symbols names [] = []
  used_in_symbols names (one ∷ more) = used_in_symbol names one ++ used_in_symbols (names ++ (name_in one).letters ∷ []) more

  -- 12.3.9.2: an output drives what it is connected to, a name, a bit, a part or a concatenation of such, or E305; an input is driven
  abbrev pub used_by_output : Word → Option TargetTree → List UseAt
  used_by_output port None = []
  used_by_output port (Some target) = at_place outside (used_in_target_by true target) ++ at_place (place_behind m []) (use_of Read false port ∷ [])

  abbrev pub used_at_port : Bool → Word → ExpressionTree → List UseAt
  used_at_port true port value = used_by_output port (target_of value)
  used_at_port false port value = at_place (place_behind m []) (use_of Driven false port ∷ []) ++ at_place outside (used_in false value)

  abbrev pub used_if_connected : Port → Option ExpressionTree → List UseAt
  used_if_connected p None = []
  used_if_connected p (Some value) = used_at_port p.output p.name value

  abbrev pub used_in_connection : Port → List UseAt
  used_in_connection p = used_if_connected p (value_for connections p.name.letters)

  -- its parameters (named events and instances use nothing), its ports, its declarations, what its ports are connected to, its processes; its path
  -- is this one
  abbrev pub used_in_instance : Text → List UseAt
  used_in_instance path =
      used_in_symbols (variables_of m) (symbols_of m)
      ++ ((flat_map (used_in_port m) (ports_of m) ++ used_by_items m used_in_declaration [] m.items)
      ++ (flat_map used_in_connection (ports_of m) ++ used_by_own_processes m path))

-- ---- in a hierarchy

abbrev pub all_fit : (Place → Use → Bool) → List UseAt → Bool
all_fit fits list = list_all (λ it. fits it.place it.one) list

-- something is used that doesn't fit its place:
pub data HasMisuse (fits : Place → Use → Bool) (modules : SourceTree) (top : Option Text) : Type 0 where
  -- by the top;
  of_top : (m : ModuleTree) → top_of modules top ≡ Some m → all_fit fits (used_in_instance m no_place [] [] m.name.letters) ≡ false → HasMisuse fits modules top
  -- by an instance that an item of the hierarchy lists, behind those before it
  of_instance : (levels : ℕ) (one : Instance) (before : List ItemTree) (name : Word) (overrides : Option ConnectionsTree) (list : List InstanceTree)
      (after : List ItemTree) (child : ModuleTree) (made : InstanceTree) →
      StandsAt modules top levels one → before ++ instances name overrides list ∷ after ≡ one.unit.items → module_of modules name.letters ≡ Some child →
      Contains list made →
      all_fit fits (used_in_instance child (place_behind one.unit before) (named_connections_if (letters_of (open_names child)) overrides)
      (named_connections (letters_of (port_names child)) made.connections) (one.path ++ 46 ∷ made.name.letters)) ≡ false →
      HasMisuse fits modules top
