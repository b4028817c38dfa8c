-- *trusted*: What a module's names stand for (IEEE 1364-2005, 4.10, 9.7.3, 12.1.2, 12.7).
use Rattle.std.specs.Prelude.{ℕ, ◌+◌, ◌-◌, nat_lt, Bool, if◌then◌else◌, not, ◌||◌, List, slice_get, position, Option, None, Some, unwrap_or, option_and_then, Result, Ok}
use Rattle.std.specs.Str.{bytes_eq}
use Rattle.vbits.specs.Vectors.{Vector}
use Rattle.vwords.specs.Words.{Text}
use Rattle.vast.specs.NumberedWords.{Word}
use Rattle.vdesign.specs.declared.expression.Bounds.{Bounds}
use Rattle.vvalue.specs.Value.{whole_bounds}
use Rattle.velab_expr.specs.Answers.{refuse, require, value_or}
use Rattle.velab_expr.specs.declared.fault.ElabFault.{ElabFault}
use Rattle.velab_expr.specs.declared.fault.Rule.TheVariants.{Unknown, Constant, Kind}
use Rattle.velab_expr.specs.declared.scope.Meaning.{Meaning}
use Rattle.velab_expr.specs.declared.scope.Meaning.TheVariants.{Variable, Parameter, Event, Instance}
use Rattle.velab_expr.specs.declared.scope.Operand.{Operand}
use Rattle.velab_expr.specs.declared.scope.Operand.TheVariants as operand

-- The names of an instance, or of the top: those of its variables, so many, and after them others, parameters, named events and
-- instances, with what they stand for. So many of the others stand before the place that is looked at. Its variables are numbered from
-- `first` on, and `events` is what the next named event goes by. `top` is the name of the top.
pub record Scope : Type 0 where
  pub top : Text
  pub names : List Text
  pub first : ℕ
  pub variables : ℕ
  pub events : ℕ
  pub others : List Meaning
  pub known : ℕ

-- the same where so many others stand before
abbrev pub at : Scope → ℕ → Scope
at scope count = record {
  top = scope.top;
  names = scope.names;
  first = scope.first;
  variables = scope.variables;
  events = scope.events;
  others = scope.others;
  known = count;
}

-- what the name at this place stands for: variables are numbered by their places
abbrev pub meaning_at : Scope → ℕ → Option Meaning
meaning_at scope place =
    if nat_lt place scope.variables then Some (Variable (scope.first + place))
    else slice_get scope.others (place - scope.variables)

-- what a name stands for, where it is declared
abbrev pub meaning_of : Scope → Word → Option Meaning
meaning_of scope name = option_and_then (meaning_at scope) (position (bytes_eq name.letters) scope.names)

-- the bounds of a parameter: as declared, or from its size
abbrev pub bounds_for : Vector → Option Bounds → Bounds
bounds_for value bounds = unwrap_or bounds (whole_bounds value)

-- 5.2: a name in an expression is a variable or a parameter; in a constant expression a parameter that stands before (4.10.1, 12.2). Events
-- and instances have no value.
abbrev pub operand_by : Bool → ℕ → Word → Option Meaning → Result Operand ElabFault
operand_by constant known name None = refuse Unknown (Some name)
operand_by constant known name (Some (Variable number)) = require (not constant) Constant (Some name) (operand.Variable number)
operand_by constant known name (Some (Parameter value bounds before)) =
    require (not constant || nat_lt before known) Unknown (Some name) (operand.Parameter value (bounds_for value bounds))
operand_by constant known name (Some (Event number)) = refuse Kind (Some name)
operand_by constant known name (Some Instance) = refuse Kind (Some name)

abbrev pub lower_name : Bool → Scope → Word → Result Operand ElabFault
lower_name constant scope name = operand_by constant scope.known name (meaning_of scope name)

-- the number of what is written, which is a variable
abbrev pub variable_by : Word → Option Meaning → Result ℕ ElabFault
variable_by name None = refuse Unknown (Some name)
variable_by name (Some (Variable number)) = Ok number
variable_by name (Some (Parameter value bounds before)) = refuse Kind (Some name)
variable_by name (Some (Event number)) = refuse Kind (Some name)
variable_by name (Some Instance) = refuse Kind (Some name)

abbrev pub lower_variable : Scope → Word → Result ℕ ElabFault
lower_variable scope name = variable_by name (meaning_of scope name)

-- the number of what is triggered, which is a named event (9.7.3)
abbrev pub event_by : Word → Option Meaning → Result ℕ ElabFault
event_by name None = refuse Unknown (Some name)
event_by name (Some (Variable number)) = refuse Kind (Some name)
event_by name (Some (Parameter value bounds before)) = refuse Kind (Some name)
event_by name (Some (Event number)) = Ok number
event_by name (Some Instance) = refuse Kind (Some name)

abbrev pub lower_event : Scope → Word → Result ℕ ElabFault
lower_event scope name = event_by name (meaning_of scope name)

-- ---- what an answer has, for those who know that it has something

-- the number of a variable
abbrev pub number_of : Scope → Word → ℕ
number_of scope name = value_or 0 (lower_variable scope name)

-- the number of a named event
abbrev pub event_of : Scope → Word → ℕ
event_of scope name = value_or 0 (lower_event scope name)
