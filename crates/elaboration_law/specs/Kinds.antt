-- *trusted*: E310: names of another kind than their use asks for, bits of what has none, formats that don't fit, and paths of `$dumpvars` to
-- variables (IEEE 1364-2005, 4.2, 4.8, 4.10, 5.2.1, 6.1, 6.2, 9.7.2, 9.7.3, 12.1.2, 12.5, 17.1.1, 18.1.2, A.2.1.2).
use Rattle.std.specs.Prelude.{◌≡◌, ℕ, Bool, true, false, not, ◌&&◌, ◌||◌, if◌then◌else◌, List, [], ◌∷◌, Option, None, Some, is_some, codes}
use Rattle.std.specs.List.{Contains, flat_map, list_all}
use Rattle.vwords.specs.Words.{Text}
use Rattle.vast.specs.NumberedStatements.{ArgumentTree, quoted, printed, left_out}
use Rattle.vast.specs.NumberedModules.{SourceTree, ModuleTree}
use Rattle.vmodules.specs.Names.{is_declared}
use Rattle.vmodules.specs.Hierarchy.{top_of}
use Rattle.vdesign.specs.declared.action.Edge.{Edge}
use Rattle.vdesign.specs.declared.action.Edge.TheVariants.{Any, Rise, Fall}
use Rattle.vvalue.specs.Flaws.{kind_has_bits}
use Rattle.vdesign.specs.declared.print.Form.{Form}
use Rattle.vdesign.specs.declared.print.Notation.{Notation}
use Rattle.vdesign.specs.declared.print.Notation.TheVariants.{Binary, Octal, Hexadecimal, Decimal, Time, Character, Letters}
use Rattle.format_text.specs.declared.letters.Escape.TheVariants.{Plain}
use Rattle.format_text.specs.Formats.{FormatFront, letters_of, front_of}
use Rattle.velab_expr.specs.Selections.{levels_in}
use Rattle.velab_declaration.specs.Right.{is_net}
use Rattle.velab_declaration.specs.Variables.{Declaration}
use Rattle.velab_process.specs.Prints.{between_quotes}
use Rattle.elaboration_law.specs.Doubles.{variable_paths_in, path_in}
use Rattle.elaboration_law.specs.Hierarchy.{Instance}
use Rattle.elaboration_law.specs.ItemPorts.{HasVariableInput, HasValuedNet}
use Rattle.elaboration_law.specs.Uses.{Way, Read, ReadIn, Written, WrittenIn, Driven, DrivenIn, Triggered, Awaited, Use, use_of, use_of_time, use_of_formats, use_of_levels}
use Rattle.elaboration_law.specs.Places.{Thing, a_variable, a_parameter, an_event, an_instance, Place, thing_of, HasMisuse}
use Rattle.elaboration_law.specs.Selected.{paths_in_instance}
use Rattle.elaboration_law.specs.Unknowns.{all_below}

-- ---- names

-- 4.2, 4.8: an `integer` has bits, and so has what is declared with a range
abbrev pub is_ranged : Declaration → Bool
is_ranged d = kind_has_bits d.kind (is_some d.range)

-- a variable, or a net: 6.1, 6.2: processes write variables, continuous assignments drive nets
abbrev pub variable_suits : Way → Declaration → Bool
variable_suits Read d = true
variable_suits ReadIn d = is_ranged d
variable_suits Written d = not (is_net d.kind)
variable_suits WrittenIn d = not (is_net d.kind) && is_ranged d
variable_suits Driven d = is_net d.kind
variable_suits DrivenIn d = is_net d.kind && is_ranged d
variable_suits Triggered d = false
variable_suits (Awaited edge) d = true

-- 4.10: a parameter is read, and has bits
abbrev pub parameter_suits : Way → Bool
parameter_suits Read = true
parameter_suits ReadIn = true
parameter_suits Written = false
parameter_suits WrittenIn = false
parameter_suits Driven = false
parameter_suits DrivenIn = false
parameter_suits Triggered = false
parameter_suits (Awaited edge) = false

abbrev pub is_any : Edge → Bool
is_any Any = true
is_any Rise = false
is_any Fall = false

-- 9.7.3: a named event is triggered, and waited for without an edge
abbrev pub event_suits : Way → Bool
event_suits Read = false
event_suits ReadIn = false
event_suits Written = false
event_suits WrittenIn = false
event_suits Driven = false
event_suits DrivenIn = false
event_suits Triggered = true
event_suits (Awaited edge) = is_any edge

-- 12.1.2: an instance is none of these. A variable in a constant is E307, and what isn't there E303.
abbrev pub suits : Bool → Way → Option Thing → Bool
suits constant way None = true
suits constant way (Some (a_variable d)) = constant || variable_suits way d
suits constant way (Some a_parameter) = parameter_suits way
suits constant way (Some an_event) = event_suits way
suits constant way (Some an_instance) = false

-- ---- formats (17.1.1)

-- no form is left without its argument
abbrev pub is_ended : Option FormatFront → Bool
is_ended None = false
is_ended (Some front) = not (is_some front.form)

-- 17.1.1.7: `%s` alone shows a string
abbrev pub shows_letters : Notation → Bool
shows_letters Binary = false
shows_letters Octal = false
shows_letters Hexadecimal = false
shows_letters Decimal = false
shows_letters Time = false
shows_letters Character = false
shows_letters Letters = true

-- a string is shown by the form that waits for it, or is a format where none does
abbrev pub string_fits : Option Form → Bool
string_fits None = true
string_fits (Some form) = shows_letters form.notation

abbrev pub takes_string : Option FormatFront → Bool
takes_string None = false
takes_string (Some front) = string_fits front.form

-- what is left of the format then: the string, where it is one
abbrev pub left_by : Option Form → List ℕ → List ℕ → List ℕ
left_by None rest letters = letters
left_by (Some form) rest letters = if shows_letters form.notation then rest else []

abbrev pub left_by_string : Option FormatFront → List ℕ → List ℕ
left_by_string None letters = []
left_by_string (Some front) letters = left_by front.form front.rest letters

abbrev pub left_by_value : Option FormatFront → List ℕ
left_by_value None = []
left_by_value (Some front) = front.rest

-- where forms stand, whatever path `%m` shows (17.1.1.6): so it is read with none
abbrev pub forms_of : List ℕ → Option FormatFront
forms_of format = front_of [] format

-- each string is of forms that are known, and each form has an argument that it can show, among what is left of a string and the
-- arguments after it
abbrev pub formats_fit : List ℕ → List ArgumentTree → Bool
formats_fit format [] = is_ended (forms_of format)
formats_fit format (quoted letters ∷ more) =
    takes_string (forms_of format) && formats_fit (left_by_string (forms_of format) (letters_of Plain (between_quotes letters.letters))) more
formats_fit format (left_out ∷ more) = takes_string (forms_of format) && formats_fit (left_by_string (forms_of format) (codes " ")) more
formats_fit format (printed tree ∷ more) = is_some (forms_of format) && formats_fit (left_by_value (forms_of format)) more

-- ---- the rule

abbrev pub is_suited : Place → Use → Bool
is_suited place (use_of way constant name) = suits constant way (thing_of place name)
is_suited place (use_of_time constant) = true
is_suited place (use_of_formats arguments) = formats_fit [] arguments
is_suited place (use_of_levels levels) = is_some (levels_in levels)

-- 12.5, 18.1.2: the path is that of an instance (own: 18.1.2 has variables, too), or of nothing (E303)
abbrev pub is_no_variable : List Instance → Text → Bool
is_no_variable all path = is_declared (flat_map path_in all) path || not (is_declared (flat_map variable_paths_in all) path)

abbrev pub selects_no_variable : Text → List Instance → Bool
selects_no_variable top all = list_all (is_no_variable all) (flat_map (paths_in_instance top) all)

-- There is
pub data HasMiskind (modules : SourceTree) (top : Option Text) : Type 0 where
  -- a use that doesn't suit what is used;
  of_use : HasMisuse is_suited modules top → HasMiskind modules top
  -- in a module, reached or not, an input that is a variable (12.3.3);
  of_input : (m : ModuleTree) → Contains modules m → HasVariableInput m → HasMiskind modules top
  -- in a module, reached or not, a port with a value whose direction says neither `reg` nor `integer` nor `time` (A.2.1.2, A.2.3);
  of_value : (m : ModuleTree) → Contains modules m → HasValuedNet m → HasMiskind modules top
  -- a path to a variable
  of_variable_path : (m : ModuleTree) → top_of modules top ≡ Some m → selects_no_variable m.name.letters (all_below modules m) ≡ false → HasMiskind modules top
