-- *trusted*: The parameters of an instance (IEEE 1364-2005, 4.10, 12.2), and what its names stand for.
use Rattle.std.specs.Prelude.{ℕ, ◌+◌, nat_lt, not, Bool, true, false, if◌then◌else◌, List, [], ◌∷◌, ◌++◌, length, Option, None, Some, Result, Ok}
use Rattle.std.specs.List.{flat_map}
use Rattle.vwords.specs.Words.{Text}
use Rattle.vast.specs.NumberedExpressions as text
use Rattle.vbits.specs.Vectors.{Vector, with_sign}
use Rattle.vmodules.specs.Connected.{NamedConnection, value_for}
use Rattle.vmodules.specs.Names.{is_declared, letters_of}
use Rattle.vast.specs.NumberedModules.{ParameterType, integer, typed, SettingTree, ModuleTree}
use Rattle.vdesign.specs.declared.expression.Bounds.{Bounds}
use Rattle.vdesign.specs.Expressions.{ExpressionTree}
use Rattle.vvalue.specs.Value.{right_side}
use Rattle.velab_expr.specs.declared.fault.ElabFault.{ElabFault}
use Rattle.velab_expr.specs.declared.fault.Rule.TheVariants as rule
use Rattle.velab_expr.specs.declared.scope.Meaning.{Meaning}
use Rattle.velab_expr.specs.declared.scope.Meaning.TheVariants.{Parameter, Event, Instance}
use Rattle.velab_expr.specs.Answers.{◌>>=◌, require}
use Rattle.velab_expr.specs.Scopes.{Scope, at}
use Rattle.velab_expr.specs.Constants.{nothing, constant_value}
use Rattle.velab_expr.specs.Resolved.{lower_constant}
use Rattle.velab_expr.specs.Ranges.{span, lower_bounds}
use Rattle.velab_expr.specs.Symbols.{Symbol, symbols_in_head, symbols_by, valueless_by, name_in, events_in, parameter_symbol, event_symbol, instance_symbol}
use Rattle.velab_declaration.specs.Variables.{declared_names}

-- what is said of the parameters of an instance from outside, by their names, and what names mean there (12.2.2)
pub record Overrides : Type 0 where
  pub scope : Scope
  pub values : List NamedConnection

-- 4.10.1: without a range it has the size of its value, and the value's sign unless it is declared to be signed
abbrev pub typed_value : Bool → Option Bounds → ExpressionTree → Vector
typed_value signed (Some bounds) value = with_sign (right_side nothing (span bounds) value) signed
typed_value true None value = with_sign (constant_value value) true
typed_value false None value = constant_value value

-- the bounds that a parameter is declared with, where it is
abbrev pub lower_type : Scope → Option ParameterType → Result (Option Bounds) ElabFault
lower_type scope None = Ok None
lower_type scope (Some (integer long)) = Ok None
lower_type scope (Some (typed type)) = lower_bounds scope type.range

-- 4.8: an integer has 32 bits and a sign, a time 64 and none
abbrev pub integer_length : Bool → ℕ
integer_length long = if long then 64 else 32

abbrev pub parameter_by : Option ParameterType → Option Bounds → ExpressionTree → Vector
parameter_by None bounds value = constant_value value
parameter_by (Some (integer long)) bounds value = with_sign (right_side nothing (integer_length long) value) (not long)
parameter_by (Some (typed type)) bounds value = typed_value type.signed bounds value

-- 12.2.2: a value from outside stands in the place of the one that a parameter is set to, which is a constant all the same
abbrev pub lower_parameter_value : Scope → Scope → text.ExpressionTree → Option text.ExpressionTree → Result ExpressionTree ElabFault
lower_parameter_value outer scope value None = lower_constant scope value
lower_parameter_value outer scope value (Some other) = lower_constant scope value >>= λ own. lower_constant outer other

abbrev pub lower_setting : Overrides → Scope → SettingTree → Result ExpressionTree ElabFault
lower_setting overrides scope setting =
    lower_parameter_value overrides.scope scope setting.value (value_for overrides.values setting.name.letters)

-- Of a parameter the range comes first, then its value. Events are numbered through the whole design, which has fewer than 2^32 of them
-- (own).
abbrev pub lower_meaning : Overrides → Scope → Symbol → Result Meaning ElabFault
lower_meaning overrides scope (parameter_symbol type setting) =
    lower_type scope type >>= λ bounds.
    lower_setting overrides scope setting >>= λ value.
    Ok (Parameter (parameter_by type bounds value) bounds scope.known)
lower_meaning overrides scope (event_symbol name) = require (nat_lt scope.events 4294967295) rule.TooMany (Some name) (Event scope.events)
lower_meaning overrides scope (instance_symbol name) = Ok Instance

-- a parameter is known from its place on, to what stands behind it
abbrev pub with_meaning : Scope → Symbol → Meaning → Scope
with_meaning scope one meaning = record {
  top = scope.top;
  names = scope.names ++ (name_in one).letters ∷ [];
  first = scope.first;
  variables = scope.variables;
  events = scope.events + events_in one;
  others = scope.others ++ meaning ∷ [];
  known = scope.known + 1;
}

-- what it stands for, and then its name, which is new
abbrev pub add_symbol : Overrides → Scope → Symbol → Result Scope ElabFault
add_symbol overrides scope one =
    lower_meaning overrides scope one >>= λ meaning.
    require (not (is_declared scope.names (name_in one).letters)) rule.Doubled (Some (name_in one)) (with_meaning scope one meaning)

-- one after another, each known to those behind it
abbrev pub add_symbols : Overrides → Scope → List Symbol → Result Scope ElabFault
add_symbols overrides scope [] = Ok scope
add_symbols overrides scope (one ∷ more) = add_symbol overrides scope one >>= λ next. add_symbols overrides next more

-- ---- the scope of an instance

-- what an instance is told: the top's name, the numbers of its first variable and of its first named event, and what is said from
-- outside
pub record Base : Type 0 where
  pub top : Text
  pub first : ℕ
  pub events : ℕ
  pub overrides : Overrides

-- the names of variables, and no others
abbrev pub first_scope : Base → ModuleTree → Scope
first_scope base m = record {
  top = base.top;
  names = letters_of (declared_names m);
  first = base.first;
  variables = length (declared_names m);
  events = base.events;
  others = [];
  known = 0;
}

-- Its named events and instances, wherever they are declared, then the parameters of its head, then those of its items. At its first item
-- all names are known, but as constants only the parameters of the head.
abbrev pub item_scope : Base → ModuleTree → Result Scope ElabFault
item_scope base m =
    add_symbols base.overrides (first_scope base m) (flat_map valueless_by m.items) >>= λ valueless.
    add_symbols base.overrides valueless (symbols_in_head m.parameters) >>= λ head.
    add_symbols base.overrides head (flat_map symbols_by m.items) >>= λ whole.
    Ok (at whole head.known)
