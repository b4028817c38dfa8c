-- *trusted*: What the names of an instance are worth, and sizes in their declarations that are right (IEEE 1364-2005, 4.2, 4.3.1, 4.8,
-- 4.10, 12.2).
use Rattle.std.specs.Prelude.{ℕ, Bool, true, if◌then◌else◌, ◌&&◌, List, [], ◌∷◌, Option, None, Some}
use Rattle.std.specs.List.{list_all}
use Rattle.std.specs.Str.{bytes_eq}
use Rattle.vbits.specs.declared.bit4.Bit4.TheVariants.{X}
use Rattle.vbits.specs.Vectors.{filled}
use Rattle.vwords.specs.Words.{Text}
use Rattle.vast.specs.NumberedExpressions as text
use Rattle.vast.specs.NumberedModules.{ParameterType, integer, typed, RangeTree, DeclarationKind, variables, integers, directed, ItemTree, parameters, declaration, events, assignments, initial, always, instances, ModuleTree}
use Rattle.vdesign.specs.Expressions as design
use Rattle.vdesign.specs.declared.expression.Bounds.{Bounds}
use Rattle.vvalue.specs.Value.{whole_bounds}
use Rattle.vmodules.specs.Ports.{Second, Port, type_in, ports_of}
use Rattle.vmodules.specs.Connected.{NamedConnection, value_for}
use Rattle.velab_expr.specs.Scopes.{bounds_for}
use Rattle.velab_expr.specs.Symbols.{Symbol, parameter_symbol, event_symbol, instance_symbol, name_in}
use Rattle.velab_declaration.specs.Parameters.{parameter_by}
use Rattle.velab_declaration.specs.Variables.{Declaration, length_of, same_bounds}
use Rattle.elaboration_law.specs.Places.{symbols_of}
use Rattle.elaboration_law.specs.Widths.{Worth, meant, selected_by, is_sized, is_sized_if, is_range}

-- what has no value: one bit that is x
abbrev pub no_worth : Worth
no_worth = record { value = filled 1 X; bounds = whole_bounds (filled 1 X) }

-- names with one more
abbrev pub with_name : (Text → Worth) → Text → Worth → Text → Worth
with_name named name worth letters = if bytes_eq letters name then worth else named letters

-- ---- one parameter

abbrev pub range_of : Option ParameterType → Option RangeTree
range_of None = None
range_of (Some (integer long)) = None
range_of (Some (typed type)) = type.range

abbrev pub bounds_by : (Text → Worth) → Option RangeTree → Option Bounds
bounds_by named None = None
bounds_by named (Some range) = Some (selected_by named range.left range.right)

-- of an instance: what names are worth outside it, what is said there of its parameters, and what names before are worth
module _ (outside : Text → Worth) (values : List NamedConnection) (named : Text → Worth) where
  -- 12.2.2: a value from outside stands in the place of the one that a parameter is set to
  abbrev pub set_to : text.ExpressionTree → Option text.ExpressionTree → design.ExpressionTree
  set_to own None = meant named own
  set_to own (Some other) = meant outside other

  -- 4.10.1: its value at the size and sign that it is declared with, and the bounds of its bits
  abbrev pub worth_as : Option ParameterType → Option Bounds → design.ExpressionTree → Worth
  worth_as type bounds tree = record { value = parameter_by type bounds tree; bounds = bounds_for (parameter_by type bounds tree) bounds }

  abbrev pub worth_by : Symbol → Worth
  worth_by (parameter_symbol type setting) =
      worth_as type (bounds_by named (range_of type)) (set_to setting.value (value_for values setting.name.letters))
  worth_by (event_symbol name) = no_worth
  worth_by (instance_symbol name) = no_worth

  -- its range, its value, and the one from outside
  abbrev pub is_set : Symbol → Bool
  is_set (parameter_symbol type setting) =
      is_range named (range_of type) && (is_sized named setting.value && is_sized_if outside (value_for values setting.name.letters))
  is_set (event_symbol name) = true
  is_set (instance_symbol name) = true

-- ---- parameters one after another, each known to those behind it (4.10.1)

module _ (outside : Text → Worth) (values : List NamedConnection) where
  abbrev pub worths_behind : (Text → Worth) → List Symbol → Text → Worth
  worths_behind named [] = named
  worths_behind named (one ∷ more) = worths_behind (with_name named (name_in one).letters (worth_by outside values named one)) more

  abbrev pub are_set : (Text → Worth) → List Symbol → Bool
  are_set named [] = true
  are_set named (one ∷ more) =
      is_set outside values named one && are_set (with_name named (name_in one).letters (worth_by outside values named one)) more

-- ---- an instance of this module (12.2): named events and instances have no value, and its parameters stand in its head and among its items

abbrev pub nothing_known : Text → Worth
nothing_known letters = no_worth

module _ (outside : Text → Worth) (values : List NamedConnection) (m : ModuleTree) where
  abbrev pub worths_in : Text → Worth
  worths_in = worths_behind outside values nothing_known (symbols_of m)

  abbrev pub are_set_in : Bool
  are_set_in = are_set outside values nothing_known (symbols_of m)

-- ---- what is declared in it (4.2, 4.3.1)

abbrev pub range_of_kind : DeclarationKind → Option RangeTree
range_of_kind (variables word type) = type.range
range_of_kind (integers long) = None
range_of_kind (directed direction) = (type_in direction).range

abbrev pub range_by : ItemTree → Option RangeTree
range_by (parameters local type settings) = None
range_by (declaration kind list) = range_of_kind kind
range_by (events names) = None
range_by (assignments settings) = None
range_by (initial statement) = None
range_by (always statement) = None
range_by (instances name overrides list) = None

-- 12.3.3: a port that is declared again has the same range there
abbrev pub is_again : (Text → Worth) → Option RangeTree → Option Second → Bool
is_again named range None = true
is_again named range (Some second) =
    is_range named second.type.range && same_bounds (bounds_by named range) (bounds_by named second.type.range)

abbrev pub is_port_ranged : (Text → Worth) → Port → Bool
is_port_ranged named p = is_range named p.type.range && is_again named p.type.range p.again

abbrev pub is_item_ranged : (Text → Worth) → ItemTree → Bool
is_item_ranged named item = is_range named (range_by item)

-- all its ranges are right
abbrev pub are_ranged : (Text → Worth) → ModuleTree → Bool
are_ranged named m = list_all (is_port_ranged named) (ports_of m) && list_all (is_item_ranged named) m.items

-- 4.2, 4.8: what a variable is worth whose value isn't known: each of its bits is x
abbrev pub worth_of_unknown : ℕ → Option Bounds → Worth
worth_of_unknown length bounds = record { value = filled length X; bounds = bounds_for (filled length X) bounds }

abbrev pub declared_worth : (Text → Worth) → Declaration → Worth
declared_worth named d = worth_of_unknown (length_of d.kind (bounds_by named d.range)) (bounds_by named d.range)
