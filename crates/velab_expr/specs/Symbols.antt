-- *trusted*: The names of a module beside its variables (IEEE 1364-2005, 4.10, 9.7.3, 12.1.2, 12.2): parameters, named events and
-- instances.
use Rattle.std.specs.Prelude.{ℕ, ◌+◌, List, [], ◌∷◌, map, length, Option, None, Some}
use Rattle.std.specs.Option.{option_or}
use Rattle.vast.specs.NumberedWords.{Word}
use Rattle.vast.specs.NumberedModules.{ParameterType, HeadParameter, SettingTree, ItemTree, parameters, declaration, events, assignments, initial, always, instances}
use Rattle.velab_expr.specs.Scopes.{Scope, at}

-- a parameter as it is written, with its type where one is; a named event; an instance
pub data Symbol : Type 0 where
  parameter_symbol : Option ParameterType → SettingTree → Symbol
  event_symbol : Word → Symbol
  instance_symbol : Word → Symbol

-- in the head of a module one without a type has that of the one before it
abbrev pub symbols_behind : Option ParameterType → List HeadParameter → List Symbol
symbols_behind type [] = []
symbols_behind type (head ∷ more) = parameter_symbol (option_or head.kind type) head.setting ∷ symbols_behind (option_or head.kind type) more

abbrev pub symbols_in_head : Option (List HeadParameter) → List Symbol
symbols_in_head None = []
symbols_in_head (Some list) = symbols_behind None list

-- the parameters that an item declares
abbrev pub symbols_by : ItemTree → List Symbol
symbols_by (parameters local type settings) = map (parameter_symbol (Some type)) settings
symbols_by (declaration kind list) = []
symbols_by (events names) = []
symbols_by (assignments settings) = []
symbols_by (initial statement) = []
symbols_by (always statement) = []
symbols_by (instances letters overrides list) = []

-- its named events and its instances, which have no value
abbrev pub valueless_by : ItemTree → List Symbol
valueless_by (parameters local type settings) = []
valueless_by (declaration kind list) = []
valueless_by (events names) = map event_symbol names
valueless_by (assignments settings) = []
valueless_by (initial statement) = []
valueless_by (always statement) = []
valueless_by (instances letters overrides list) = map (λ one. instance_symbol one.name) list

abbrev pub name_in : Symbol → Word
name_in (parameter_symbol type setting) = setting.name
name_in (event_symbol name) = name
name_in (instance_symbol name) = name

abbrev pub events_in : Symbol → ℕ
events_in (parameter_symbol type setting) = 0
events_in (event_symbol name) = 1
events_in (instance_symbol name) = 0

-- what is known behind an item: what it gives too
abbrev pub behind_item : Scope → ItemTree → Scope
behind_item scope item = at scope (scope.known + length (symbols_by item))
