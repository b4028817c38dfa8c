-- *trusted*: What is connected by order or by name: ports (IEEE 1364-2005, 12.3.5, 12.3.6) and parameters (12.2.2).
use Rattle.std.specs.Prelude.{not, if◌then◌else◌, ◌||◌, nat_le, List, [], ◌∷◌, ◌++◌, length, map, Option, None, Some, option_and_then}
use Rattle.std.specs.List.{find, flat_map}
use Rattle.std.specs.Str.{bytes_eq}
use Rattle.vwords.specs.Words.{Text}
use Rattle.vast.specs.NumberedWords.{Word}
use Rattle.vast.specs.NumberedExpressions.{ExpressionTree}
use Rattle.vast.specs.NumberedModules.{HeadParameter, ConnectionTree, ConnectionsTree, by_order, by_name, ItemTree, parameters, declaration, events, assignments, initial, always, instances, ModuleTree}
use Rattle.vmodules.specs.Names.{is_declared}

-- what is connected to a name, where something is
pub record NamedConnection : Type 0 where
  pub name : Text
  pub value : Option ExpressionTree

-- 12.3.5: the first value goes to the first name, and so on, as far as both go
abbrev pub by_places : List Text → List ExpressionTree → List NamedConnection
by_places [] values = []
by_places (name ∷ names) [] = []
by_places (name ∷ names) (value ∷ values) = record { name = name; value = Some value } ∷ by_places names values

-- a connection by name
abbrev pub named_connection : ConnectionTree → NamedConnection
named_connection c = record { name = c.name.letters; value = c.value }

-- the connections of these names, each by its name
abbrev pub named_connections : List Text → ConnectionsTree → List NamedConnection
named_connections names (by_order values) = by_places names values
named_connections names (by_name list) = map named_connection list

-- 12.3.6: of connections by name, behind those of these names, the first whose name isn't there, or stands before
abbrev pub misfit_behind : List Text → List Text → List ConnectionTree → Option Word
misfit_behind names before [] = None
misfit_behind names before (c ∷ more) =
    if not (is_declared names c.name.letters) || is_declared before c.name.letters then Some c.name
    else misfit_behind names (before ++ c.name.letters ∷ []) more

-- 12.3.5, 12.3.6: what doesn't fit these names; of more values than names that is whose they are
abbrev pub misfit : Word → List Text → ConnectionsTree → Option Word
misfit whose names (by_order values) = if nat_le (length values) (length names) then None else Some whose
misfit whose names (by_name list) = misfit_behind names [] list

-- what is connected to a name, where something is
abbrev pub value_for : List NamedConnection → Text → Option ExpressionTree
value_for list letters = option_and_then (λ c. c.value) (find (λ c. bytes_eq c.name letters) list)

-- 12.2.2: the same of what may be absent
abbrev pub named_connections_if : List Text → Option ConnectionsTree → List NamedConnection
named_connections_if names None = []
named_connections_if names (Some connections) = named_connections names connections

abbrev pub misfit_if : Word → List Text → Option ConnectionsTree → Option Word
misfit_if whose names None = None
misfit_if whose names (Some connections) = misfit whose names connections

-- 4.10.1, 4.10.2, 12.2: the parameters of an item that can be overridden
abbrev pub open_by : ItemTree → List Word
open_by (parameters local type settings) = if local then [] else map (λ setting. setting.name) settings
open_by (declaration kind declared) = []
open_by (events names) = []
open_by (assignments settings) = []
open_by (initial statement) = []
open_by (always statement) = []
open_by (instances letters overrides list) = []

abbrev pub open_among : Option (List HeadParameter) → List ItemTree → List Word
open_among None items = flat_map open_by items
open_among (Some list) items = map (λ head. head.setting.name) list

-- 12.2: those of the module's head; without a list there, those of its items
abbrev pub open_names : ModuleTree → List Word
open_names m = open_among m.parameters m.items
