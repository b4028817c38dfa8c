-- Constants that use a variable or the time: what the scope of an instance says of names is what its module does.
use Rattle.std.proofs.Common.{◌≡◌, ◌<◌, ◌≤◌, ℕ, ◌+◌, ◌-◌, nat_lt, Bool, true, false, cond, if◌then◌else◌, not, ◌||◌, ◌&&◌, List, [], ◌∷◌, ◌++◌, length, slice_get, option_and_then, Option, Some, None, Ok, Err, refl, sym, ap, subst, ◌∙◌, arith, append_assoc, length-append}
use Rattle.std.specs.List.{list_any, position_or_len}
use Rattle.std.specs.Str.{bytes_eq}
use Rattle.std.proofs.lemmas.Bool.{lt-ltb, ltb-true}
use Rattle.basis.specs.declared.timescale.Timescale.{Timescale}
use Rattle.vwords.specs.Words.{Text}
use Rattle.vast.specs.NumberedWords.{Word}
use Rattle.vast.specs.NumberedModules.{ModuleTree, SourceTree}
use Rattle.vdesign.specs.Design.{Design}
use Rattle.vdesign.specs.declared.action.Edge.{Edge}
use Rattle.vdesign.specs.declared.action.Edge.TheVariants.{Any, Rise, Fall}
use Rattle.vmodules.specs.Names.{is_declared}
use Rattle.vmodules.specs.Hierarchy.{top_of}
use Rattle.velab_expr.specs.declared.fault.Rule.{Rule}
use Rattle.velab_expr.specs.declared.fault.Rule.TheVariants.{Top, Doubled, Unknown, Drivers, Ports, Width, Constant, Depth, TooMany, Kind}
use Rattle.velab_expr.specs.declared.scope.Meaning.{Meaning}
use Rattle.velab_expr.specs.declared.scope.Meaning.TheVariants.{Variable, Parameter, Event, Instance}
use Rattle.velab_expr.specs.declared.scope.Operand.TheVariants as operand
use Rattle.velab_expr.specs.declared.fault.ElabFault.{ElabFault}
use Rattle.velab_expr.specs.Answers.{require}
use Rattle.velab_expr.specs.Scopes.{Scope, meaning_at, meaning_of, bounds_for, operand_by, variable_by, event_by}
use Rattle.format_text.specs.Pieces.{pieces_of}
use Rattle.velab_expr.specs.FirstWords.{first_argument}
use Rattle.velab_expr.specs.Selections.{levels_in}
use Rattle.velab_process.specs.Waits.{term_by}
use Rattle.vhierarchy.specs.Instances.{elaborate_top, elaborated}
use Rattle.elaboration_law.specs.Uses.{Use, use_of, use_of_time, use_of_formats, use_of_levels}
use Rattle.elaboration_law.specs.Places.{Place, HasMisuse}
use Rattle.elaboration_law.specs.Constants.{is_fixed}
use Rattle.elaboration_law.proofs.UseLemmas.{Judges, required_judges, found_judges, Question}
use Rattle.elaboration_law.proofs.PlaceLemmas.{IsAt}
use Rattle.elaboration_law.proofs.InstanceUses.{UseRule}
use Rattle.elaboration_law.proofs.MisuseLemmas.{misuse_told, misuse_never}

abbrev pub is_constant : Rule → Bool
is_constant Top = false
is_constant Doubled = false
is_constant Unknown = false
is_constant Drivers = false
is_constant Ports = false
is_constant Width = false
is_constant Constant = true
is_constant Depth = false
is_constant TooMany = false
is_constant Kind = false

-- ---- the question

abbrev fixed_by : Bool → Option Meaning → Bool
fixed_by constant None = true
fixed_by constant (Some (Variable number)) = not constant
fixed_by constant (Some (Parameter value bounds before)) = true
fixed_by constant (Some (Event number)) = true
fixed_by constant (Some Instance) = true

abbrev pub fixed_in : Scope → Use → Bool
fixed_in scope (use_of way constant name) = fixed_by constant (meaning_of scope name)
fixed_in scope (use_of_time constant) = not constant
fixed_in scope (use_of_formats arguments) = true
fixed_in scope (use_of_levels levels) = true

required_fits : {A : Type 0} (holds : Bool) (word : Option Word) (x : A) → Judges is_constant holds (require holds Constant word x)
required_fits true word x = refl
required_fits false word x = λ e. refl

name_fits : (constant : Bool) (known : ℕ) (name : Word) (meaning : Option Meaning) → Judges is_constant (fixed_by constant meaning) (operand_by constant known name meaning)
name_fits constant known name None = λ e. absurd cc
name_fits constant known name (Some (Variable number)) = required_fits (not constant) (Some name) (operand.Variable number)
name_fits constant known name (Some (Parameter value bounds before)) =
    required_judges is_constant (not constant || nat_lt before known) Unknown (Some name) (operand.Parameter value (bounds_for value bounds)) refl
name_fits constant known name (Some (Event number)) = λ e. absurd cc
name_fits constant known name (Some Instance) = λ e. absurd cc

variable_fits : (name : Word) (meaning : Option Meaning) → Judges is_constant (fixed_by false meaning) (variable_by name meaning)
variable_fits name None = λ e. absurd cc
variable_fits name (Some (Variable number)) = refl
variable_fits name (Some (Parameter value bounds before)) = λ e. absurd cc
variable_fits name (Some (Event number)) = λ e. absurd cc
variable_fits name (Some Instance) = λ e. absurd cc

event_fits : (name : Word) (meaning : Option Meaning) → Judges is_constant (fixed_by false meaning) (event_by name meaning)
event_fits name None = λ e. absurd cc
event_fits name (Some (Variable number)) = λ e. absurd cc
event_fits name (Some (Parameter value bounds before)) = λ e. absurd cc
event_fits name (Some (Event number)) = refl
event_fits name (Some Instance) = λ e. absurd cc

term_fits : (edge : Edge) (name : Word) (meaning : Option Meaning) → Judges is_constant (fixed_by false meaning) (term_by edge name meaning)
term_fits edge name None = λ e. absurd cc
term_fits edge name (Some (Variable number)) = refl
term_fits edge name (Some (Parameter value bounds before)) = λ e. absurd cc
term_fits Any name (Some (Event number)) = refl
term_fits Rise name (Some (Event number)) = λ e. absurd cc
term_fits Fall name (Some (Event number)) = λ e. absurd cc
term_fits edge name (Some Instance) = λ e. absurd cc

pub constants : Question
constants = record {
  asked = is_constant;
  fits = fixed_in;
  no_width = refl;
  of_value = λ constant scope name. name_fits constant scope.known name (meaning_of scope name);
  of_bits = λ constant scope name. name_fits constant scope.known name (meaning_of scope name);
  of_written = λ scope name. variable_fits name (meaning_of scope name);
  of_written_in = λ scope name. variable_fits name (meaning_of scope name);
  of_driven = λ scope name. variable_fits name (meaning_of scope name);
  of_driven_in = λ scope name. variable_fits name (meaning_of scope name);
  of_event = λ scope name. event_fits name (meaning_of scope name);
  of_term = λ scope edge name. term_fits edge name (meaning_of scope name);
  of_formats = λ scope default ends arguments all is. found_judges is_constant (pieces_of default ends all) Kind (first_argument arguments) refl;
  of_levels = λ scope levels. found_judges is_constant (levels_in levels) Kind (Some levels) refl;
  of_time = λ constant scope word x. required_fits (not constant) word x;
}

-- ---- the scope of a module

module _ {X : Type 0} (p : X → Bool) where
  pub within : (xs ys : List X) → list_any p xs ≡ true → position_or_len p (xs ++ ys) < length xs
  within [] ys e = absurd cc
  within (x ∷ xs) ys e = by (p x) (within xs ys) e
    where
      by : (b : Bool) → (list_any p xs ≡ true → position_or_len p (xs ++ ys) < length xs) → (b || list_any p xs) ≡ true → cond (not b) (1 + position_or_len p (xs ++ ys)) 0 < length (x ∷ xs)
      by true rest e = omega arith
      by false rest e = let h = rest e in omega (arith, h)

  pub behind : (xs ys : List X) → list_any p xs ≡ false → length xs ≤ position_or_len p (xs ++ ys)
  behind [] ys e = omega arith
  behind (x ∷ xs) ys e = by (p x) (behind xs ys) e
    where
      by : (b : Bool) → (list_any p xs ≡ false → length xs ≤ position_or_len p (xs ++ ys)) → (b || list_any p xs) ≡ false → length (x ∷ xs) ≤ cond (not b) (1 + position_or_len p (xs ++ ys)) 0
      by true rest e = absurd cc
      by false rest e = let h = rest e in omega (arith, h)

of_variable_name : (constant : Bool) → not constant ≡ not (constant && true)
of_variable_name true = refl
of_variable_name false = refl

of_other_name : (constant : Bool) → true ≡ not (constant && false)
of_other_name true = refl
of_other_name false = refl

module _ (here : Place) (scope : Scope) (h : IsAt here scope) where
  -- its names begin with those of the variables
  names_are : scope.names ≡ here.variables ++ (h.rest ++ h.later)
  names_are = h.names ∙ h.all ∙ ap (λ (l : List Text). l ++ h.later) h.first ∙ append_assoc here.variables h.rest h.later

  -- and no others stand for variables
  others_fixed : (constant : Bool) (k : ℕ) → fixed_by constant (slice_get scope.others k) ≡ true
  others_fixed constant k = by (slice_get scope.others k) refl
    where
      by : (x : Option Meaning) → slice_get scope.others k ≡ x → fixed_by constant x ≡ true
      by None e = refl
      by (Some (Variable number)) e = absurd (h.others k (Variable number) e)
      by (Some (Parameter value bounds before)) e = refl
      by (Some (Event number)) e = refl
      by (Some Instance) e = refl

  module _ (constant : Bool) (name : Word) where
    abbrev place : ℕ
    place = position_or_len (bytes_eq name.letters) scope.names

    a_variable : list_any (bytes_eq name.letters) here.variables ≡ true → fixed_by constant (meaning_of scope name) ≡ not constant
    a_variable e =
        let more = h.rest ++ h.later in
        let early : place < length here.variables = subst (λ (l : List Text). position_or_len (bytes_eq name.letters) l < length here.variables) (sym names_are) (within (bytes_eq name.letters) here.variables more e) in
        let long : length scope.names ≡ length here.variables + length more = ap length names_are ∙ length-append here.variables more in
        let count = h.variables in
        ap (λ (b : Bool). fixed_by constant (option_and_then (meaning_at scope) (cond b (Some place) None))) (lt-ltb place (length scope.names) (omega (arith, early, long)))
        ∙ ap (λ (b : Bool). fixed_by constant (if b then Some (Variable (scope.first + place)) else slice_get scope.others (place - scope.variables))) (lt-ltb place scope.variables (omega (arith, early, count)))

    another : list_any (bytes_eq name.letters) here.variables ≡ false → fixed_by constant (meaning_of scope name) ≡ true
    another e = by (nat_lt place (length scope.names))
      where
        late : length here.variables ≤ place
        late = subst (λ (l : List Text). length here.variables ≤ position_or_len (bytes_eq name.letters) l) (sym names_are) (behind (bytes_eq name.letters) here.variables (h.rest ++ h.later) e)

        at_place : (b : Bool) → nat_lt place scope.variables ≡ b → fixed_by constant (if b then Some (Variable (scope.first + place)) else slice_get scope.others (place - scope.variables)) ≡ true
        at_place true lt = let early = ltb-true place scope.variables lt in let count = h.variables in let l = late in absurd (omega (arith, early, count, l))
        at_place false lt = others_fixed constant (place - scope.variables)

        by : (b : Bool) → fixed_by constant (option_and_then (meaning_at scope) (cond b (Some place) None)) ≡ true
        by true = at_place (nat_lt place scope.variables) refl
        by false = refl

    fixed_name : (d : Bool) → is_declared here.variables name.letters ≡ d → fixed_by constant (meaning_of scope name) ≡ not (constant && d)
    fixed_name true e = a_variable e ∙ of_variable_name constant
    fixed_name false e = another e ∙ of_other_name constant

  fixed_alike : (one : Use) → fixed_in scope one ≡ is_fixed here one
  fixed_alike (use_of way constant name) = fixed_name constant name (is_declared here.variables name.letters) refl
  fixed_alike (use_of_time constant) = refl
  fixed_alike (use_of_formats arguments) = refl
  fixed_alike (use_of_levels levels) = refl

constants_rule : UseRule
unfolding constants
constants_rule = record {
  question = constants;
  rule = Constant;
  fits = is_fixed;
  alike = fixed_alike;
  is_asked = refl;
  no_top = refl;
  no_doubled = refl;
  no_drivers = refl;
  no_ports = refl;
  no_depth = refl;
  no_many = refl;
  no_width = refl;
}

-- ---- in a text

pub unfixed_told : (modules : SourceTree) (top : Option Text) (fault : ElabFault) (unit : ModuleTree) → fault.rule ≡ Constant → top_of modules top ≡ Some unit → elaborate_top modules unit ≡ Err fault → HasMisuse is_fixed modules top
unfolding constants_rule
unfixed_told modules top fault unit rule is_top err = misuse_told constants_rule modules top fault unit rule is_top err

pub unfixed_never : (modules : SourceTree) (top : Option Text) (scale : Timescale) (design : Design) → elaborated modules top scale ≡ Ok design → ¬ HasMisuse is_fixed modules top
unfolding constants_rule
unfixed_never modules top scale design is = misuse_never constants_rule modules top scale design is
