-- Names of another kind than their use asks for: what a scope says of the kinds of its names, before it is known what variables they are.
use Rattle.std.proofs.Common.{◌≡◌, ◌<◌, ℕ, ◌+◌, ◌-◌, nat_lt, Bool, true, false, cond, if◌then◌else◌, not, ◌||◌, ◌&&◌, List, [], ◌∷◌, length, slice_get, option_and_then, Option, Some, None, Ok, Err, refl, sym, ap, subst, ◌∙◌, arith, codes}
use Rattle.std.specs.Prelude.{position, is_some}
use Rattle.std.specs.List.{position_or_len}
use Rattle.std.specs.Str.{bytes_eq}
use Rattle.std.proofs.lemmas.Bool.{ltb-true, ltb-false}
use Rattle.basis.specs.declared.timescale.Timescale.{Timescale}
use Rattle.vwords.specs.Words.{Text}
use Rattle.vast.specs.NumberedWords.{Word}
use Rattle.vast.specs.NumberedStatements.{ArgumentTree, quoted, printed, left_out}
use Rattle.vast.specs.NumberedModules.{ModuleTree, SourceTree}
use Rattle.vdesign.specs.Design.{Design}
use Rattle.vdesign.specs.Expressions.{ExpressionTree}
use Rattle.vdesign.specs.declared.action.Edge.{Edge}
use Rattle.vdesign.specs.declared.action.Edge.TheVariants.{Any, Rise, Fall}
use Rattle.vdesign.specs.declared.print.Piece.{Piece}
use Rattle.vdesign.specs.declared.print.Form.{Form}
use Rattle.vdesign.specs.declared.print.Notation.{Notation}
use Rattle.vdesign.specs.declared.print.Notation.TheVariants.{Binary, Octal, Hexadecimal, Decimal, Time, Character, Letters}
use Rattle.vdesign.specs.declared.print.Width.{Width as FieldWidth}
use Rattle.format_text.specs.declared.letters.Escape.TheVariants.{Plain}
use Rattle.format_text.specs.Formats.{FormatFront, letters_of, front_of}
use Rattle.format_text.specs.Pieces.{Argument, string, value, Taken, text_piece, without_form, last_pieces, value_taken, string_by, string_shown, string_taken, path_left, format_left, pieces_with_taken, pieces_by, pieces_of, with_line_end}
use Rattle.format_text.proofs.PathLaws.{without_letters, same_forms}
use Rattle.vmodules.specs.Hierarchy.{top_of}
use Rattle.velab_expr.specs.declared.fault.Rule.{Rule}
use Rattle.velab_expr.specs.declared.fault.Rule.TheVariants.{Top, Doubled, Unknown, Drivers, Ports, Width, Constant, Depth, TooMany, Kind}
use Rattle.velab_expr.specs.declared.fault.ElabFault.{ElabFault}
use Rattle.velab_expr.specs.declared.scope.Meaning.{Meaning}
use Rattle.velab_expr.specs.declared.scope.Meaning.TheVariants.{Variable, Parameter, Event, Instance}
use Rattle.velab_expr.specs.declared.scope.Operand.TheVariants as operand
use Rattle.velab_expr.specs.Answers.{◌>>=◌, require, value_or_fault}
use Rattle.velab_expr.specs.FirstWords.{first_argument}
use Rattle.velab_expr.specs.Scopes.{Scope, meaning_at, meaning_of, bounds_for, operand_by, variable_by, event_by}
use Rattle.velab_expr.specs.Resolved.{lower_expression}
use Rattle.velab_expr.specs.Selections.{levels_in}
use Rattle.velab_process.specs.Prints.{between_quotes, arguments_given, is_watched, lower_argument, lower_arguments}
use Rattle.velab_process.proofs.LineLemmas.{given_same}
use Rattle.velab_process.specs.Waits.{term_by}
use Rattle.vhierarchy.specs.Instances.{elaborate_top, elaborated}
use Rattle.elaboration_law.specs.Uses.{Way, Read, ReadIn, Written, WrittenIn, Driven, DrivenIn, Triggered, Awaited, Use, use_of, use_of_time, use_of_formats, use_of_levels}
use Rattle.elaboration_law.specs.Places.{Thing, a_variable, a_parameter, an_event, an_instance, Place, thing_of, HasMisuse}
use Rattle.elaboration_law.specs.Kinds.{parameter_suits, event_suits, is_ended, shows_letters, string_fits, takes_string, left_by, left_by_string, left_by_value, forms_of, formats_fit}
use Rattle.elaboration_law.proofs.StepLemmas.{same_value, then_ok}
use Rattle.elaboration_law.proofs.UseLemmas.{Judges, required_judges, Question}
use Rattle.elaboration_law.proofs.PlaceLemmas.{there_is, MeaningIs, IsAt}
use Rattle.elaboration_law.proofs.InstanceUses.{UseRule}
use Rattle.elaboration_law.proofs.MisuseLemmas.{misuse_told, misuse_never}

abbrev pub is_kind : Rule → Bool
is_kind Top = false
is_kind Doubled = false
is_kind Unknown = false
is_kind Drivers = false
is_kind Ports = false
is_kind Width = false
is_kind Constant = false
is_kind Depth = false
is_kind TooMany = false
is_kind Kind = true

-- ---- what is told of a scope

-- of a variable, whatever it is
abbrev pub any_variable_suits : Way → Bool
any_variable_suits Read = true
any_variable_suits ReadIn = true
any_variable_suits Written = true
any_variable_suits WrittenIn = true
any_variable_suits Driven = true
any_variable_suits DrivenIn = true
any_variable_suits Triggered = false
any_variable_suits (Awaited edge) = true

abbrev pub suits_first : Bool → Way → Option Thing → Bool
suits_first constant way None = true
suits_first constant way (Some (a_variable d)) = constant || any_variable_suits way
suits_first constant way (Some a_parameter) = parameter_suits way
suits_first constant way (Some an_event) = event_suits way
suits_first constant way (Some an_instance) = false

abbrev pub is_suited_first : Place → Use → Bool
is_suited_first place (use_of way constant name) = suits_first constant way (thing_of place name)
is_suited_first place (use_of_time constant) = true
is_suited_first place (use_of_formats arguments) = formats_fit [] arguments
is_suited_first place (use_of_levels levels) = is_some (levels_in levels)

-- ---- the question

abbrev kind_by : Bool → Way → Option Meaning → Bool
kind_by constant way None = true
kind_by constant way (Some (Variable number)) = constant || any_variable_suits way
kind_by constant way (Some (Parameter worth bounds before)) = parameter_suits way
kind_by constant way (Some (Event number)) = event_suits way
kind_by constant way (Some Instance) = false

abbrev kind_in : Scope → Use → Bool
kind_in scope (use_of way constant name) = kind_by constant way (meaning_of scope name)
kind_in scope (use_of_time constant) = true
kind_in scope (use_of_formats arguments) = formats_fit [] arguments
kind_in scope (use_of_levels levels) = is_some (levels_in levels)

variable_read : (constant : Bool) (name : Word) (number : ℕ) → Judges is_kind (constant || true) (require (not constant) Constant (Some name) (operand.Variable number))
variable_read true name number = λ e. absurd cc
variable_read false name number = refl

value_kind : (constant : Bool) (known : ℕ) (name : Word) (meaning : Option Meaning) → Judges is_kind (kind_by constant Read meaning) (operand_by constant known name meaning)
value_kind constant known name None = λ e. absurd cc
value_kind constant known name (Some (Variable number)) = variable_read constant name number
value_kind constant known name (Some (Parameter worth bounds before)) =
    required_judges is_kind (not constant || nat_lt before known) Unknown (Some name) (operand.Parameter worth (bounds_for worth bounds)) refl
value_kind constant known name (Some (Event number)) = λ e. refl
value_kind constant known name (Some Instance) = λ e. refl

bits_kind : (constant : Bool) (known : ℕ) (name : Word) (meaning : Option Meaning) → Judges is_kind (kind_by constant ReadIn meaning) (operand_by constant known name meaning)
bits_kind constant known name None = λ e. absurd cc
bits_kind constant known name (Some (Variable number)) = variable_read constant name number
bits_kind constant known name (Some (Parameter worth bounds before)) =
    required_judges is_kind (not constant || nat_lt before known) Unknown (Some name) (operand.Parameter worth (bounds_for worth bounds)) refl
bits_kind constant known name (Some (Event number)) = λ e. refl
bits_kind constant known name (Some Instance) = λ e. refl

written_kind : (name : Word) (meaning : Option Meaning) → Judges is_kind (kind_by false Written meaning) (variable_by name meaning)
written_kind name None = λ e. absurd cc
written_kind name (Some (Variable number)) = refl
written_kind name (Some (Parameter worth bounds before)) = λ e. refl
written_kind name (Some (Event number)) = λ e. refl
written_kind name (Some Instance) = λ e. refl

written_in_kind : (name : Word) (meaning : Option Meaning) → Judges is_kind (kind_by false WrittenIn meaning) (variable_by name meaning)
written_in_kind name None = λ e. absurd cc
written_in_kind name (Some (Variable number)) = refl
written_in_kind name (Some (Parameter worth bounds before)) = λ e. refl
written_in_kind name (Some (Event number)) = λ e. refl
written_in_kind name (Some Instance) = λ e. refl

driven_kind : (name : Word) (meaning : Option Meaning) → Judges is_kind (kind_by false Driven meaning) (variable_by name meaning)
driven_kind name None = λ e. absurd cc
driven_kind name (Some (Variable number)) = refl
driven_kind name (Some (Parameter worth bounds before)) = λ e. refl
driven_kind name (Some (Event number)) = λ e. refl
driven_kind name (Some Instance) = λ e. refl

driven_in_kind : (name : Word) (meaning : Option Meaning) → Judges is_kind (kind_by false DrivenIn meaning) (variable_by name meaning)
driven_in_kind name None = λ e. absurd cc
driven_in_kind name (Some (Variable number)) = refl
driven_in_kind name (Some (Parameter worth bounds before)) = λ e. refl
driven_in_kind name (Some (Event number)) = λ e. refl
driven_in_kind name (Some Instance) = λ e. refl

event_kind : (name : Word) (meaning : Option Meaning) → Judges is_kind (kind_by false Triggered meaning) (event_by name meaning)
event_kind name None = λ e. absurd cc
event_kind name (Some (Variable number)) = λ e. refl
event_kind name (Some (Parameter worth bounds before)) = λ e. refl
event_kind name (Some (Event number)) = refl
event_kind name (Some Instance) = λ e. refl

term_kind : (edge : Edge) (name : Word) (meaning : Option Meaning) → Judges is_kind (kind_by false (Awaited edge) meaning) (term_by edge name meaning)
term_kind edge name None = λ e. absurd cc
term_kind edge name (Some (Variable number)) = refl
term_kind edge name (Some (Parameter worth bounds before)) = λ e. refl
term_kind Any name (Some (Event number)) = refl
term_kind Rise name (Some (Event number)) = λ e. refl
term_kind Fall name (Some (Event number)) = λ e. refl
term_kind edge name (Some Instance) = λ e. refl

-- ---- formats

last_ended : (front : Option FormatFront) → is_some (last_pieces front) ≡ is_ended front
last_ended None = refl
last_ended (Some front) = by front.form
  where
    by : (form : Option Form) → is_some (without_form form (text_piece front.letters)) ≡ not (is_some form)
    by None = refl
    by (Some form) = refl

taken_some : (taken : Option Taken) (later : Option (List Piece)) → is_some (pieces_with_taken taken later) ≡ (is_some taken && is_some later)
taken_some None later = refl
taken_some (Some taken) None = refl
taken_some (Some taken) (Some later) = refl

value_some : (default : Form) (path : List ℕ) (front : Option FormatFront) (watched : Bool) (e : _) → is_some (value_taken default path front watched e) ≡ is_some front
value_some default path None watched e = refl
value_some default path (Some front) watched e = refl

value_left : (default : Form) (path : List ℕ) (front : Option FormatFront) (watched : Bool) (e : _) → format_left (value_taken default path front watched e) ≡ left_by_value front
value_left default path None watched e = refl
value_left default path (Some front) watched e = refl

module _ (path own letters : List ℕ) where
  shown_some : (front : FormatFront) (width : FieldWidth) (notation : Notation) → is_some (string_shown path front width notation letters) ≡ shows_letters notation
  shown_some front width Binary = refl
  shown_some front width Octal = refl
  shown_some front width Hexadecimal = refl
  shown_some front width Decimal = refl
  shown_some front width Time = refl
  shown_some front width Character = refl
  shown_some front width Letters = refl

  shown_left : (front : FormatFront) (width : FieldWidth) (notation : Notation) →
      format_left (string_shown path front width notation letters) ≡ (if shows_letters notation then front.rest else [])
  shown_left front width Binary = refl
  shown_left front width Octal = refl
  shown_left front width Hexadecimal = refl
  shown_left front width Decimal = refl
  shown_left front width Time = refl
  shown_left front width Character = refl
  shown_left front width Letters = refl

  string_some : (front : Option FormatFront) → is_some (string_taken path front own letters) ≡ takes_string front
  string_some None = refl
  string_some (Some front) = by front.form
    where
      by : (form : Option Form) → is_some (string_by path front form own letters) ≡ string_fits form
      by None = refl
      by (Some form) = shown_some front form.width form.notation

  string_left : (front : Option FormatFront) → format_left (string_taken path front own letters) ≡ left_by_string front letters
  string_left None = refl
  string_left (Some front) = by front.form
    where
      by : (form : Option Form) → format_left (string_by path front form own letters) ≡ left_by form front.rest letters
      by None = refl
      by (Some form) = shown_left front form.width form.notation

-- what is said of a front without its letters is said of it with any path
any_path : {A : Type 0} (f : Option FormatFront → A) → ((front : Option FormatFront) → f (without_letters front) ≡ f front) → (path format : List ℕ) →
    f (front_of path format) ≡ f (forms_of format)
any_path f same path format = sym (same (front_of path format)) ∙ ap f (same_forms path [] format) ∙ same (forms_of format)

forms_ended : (path format : List ℕ) → is_ended (front_of path format) ≡ is_ended (forms_of format)
forms_ended path format = any_path is_ended by path format
  where
    by : (front : Option FormatFront) → is_ended (without_letters front) ≡ is_ended front
    by None = refl
    by (Some front) = refl

forms_some : (path format : List ℕ) → is_some (front_of path format) ≡ is_some (forms_of format)
forms_some path format = any_path (λ front. is_some front) by path format
  where
    by : (front : Option FormatFront) → is_some (without_letters front) ≡ is_some front
    by None = refl
    by (Some front) = refl

forms_take : (path format : List ℕ) → takes_string (front_of path format) ≡ takes_string (forms_of format)
forms_take path format = any_path takes_string by path format
  where
    by : (front : Option FormatFront) → takes_string (without_letters front) ≡ takes_string front
    by None = refl
    by (Some front) = refl

module _ (path own letters format : List ℕ) where
  string_fits_forms : is_some (string_taken path (front_of path format) own letters) ≡ takes_string (forms_of format)
  string_fits_forms = string_some path own letters (front_of path format) ∙ forms_take path format

  left_of_string : format_left (string_taken path (front_of path format) own letters) ≡ left_by_string (forms_of format) letters
  left_of_string = string_left path own letters (front_of path format) ∙ any_path (λ front. left_by_string front letters) by path format
    where
      by : (front : Option FormatFront) → left_by_string (without_letters front) letters ≡ left_by_string front letters
      by None = refl
      by (Some front) = refl

module _ (default : Form) (path format : List ℕ) (watched : Bool) (e : ExpressionTree) where
  value_fits_forms : is_some (value_taken default path (front_of path format) watched e) ≡ is_some (forms_of format)
  value_fits_forms = value_some default path (front_of path format) watched e ∙ forms_some path format

  left_of_value : format_left (value_taken default path (front_of path format) watched e) ≡ left_by_value (forms_of format)
  left_of_value = value_left default path (front_of path format) watched e ∙ any_path left_by_value by path format
    where
      by : (front : Option FormatFront) → left_by_value (without_letters front) ≡ left_by_value front
      by None = refl
      by (Some front) = refl

formats_are : (default : Form) (scope : Scope) (path format : List ℕ) (arguments : List ArgumentTree) (all : List Argument) → lower_arguments scope arguments ≡ Ok all →
    is_some (pieces_by default path format all) ≡ formats_fit format arguments
formats_are default scope path format [] all is =
    sym (ap (λ (l : List Argument). is_some (pieces_by default path format l)) (same_value [] all is)) ∙ last_ended (front_of path format) ∙ forms_ended path format
formats_are default scope path format (quoted letters ∷ more) all is =
    let text = between_quotes letters.letters in
    let plain = letters_of Plain text in
    let others = then_ok (lower_arguments scope more) (λ others. Ok (string letters.path text ∷ others)) all is in
    let taken = string_taken path (front_of path format) letters.path plain in
    sym (ap (λ (l : List Argument). is_some (pieces_by default path format l)) (same_value (string letters.path text ∷ others.0) all others.2))
    ∙ taken_some taken (pieces_by default (path_left taken) (format_left taken) others.0)
    ∙ ap (λ (l : List ℕ). is_some taken && is_some (pieces_by default (path_left taken) l others.0)) (left_of_string path letters.path plain format)
    ∙ (λ i. string_fits_forms path letters.path plain format i
    && formats_are default scope (path_left taken) (left_by_string (forms_of format) plain) more others.0 others.1 i)
formats_are default scope path format (left_out ∷ more) all is =
    let text = codes " " in
    let plain = letters_of Plain text in
    let others = then_ok (lower_arguments scope more) (λ others. Ok (string [] text ∷ others)) all is in
    let taken = string_taken path (front_of path format) [] plain in
    sym (ap (λ (l : List Argument). is_some (pieces_by default path format l)) (same_value (string [] text ∷ others.0) all others.2))
    ∙ taken_some taken (pieces_by default (path_left taken) (format_left taken) others.0)
    ∙ ap (λ (l : List ℕ). is_some taken && is_some (pieces_by default (path_left taken) l others.0)) (left_of_string path [] plain format)
    ∙ (λ i. string_fits_forms path [] plain format i
    && formats_are default scope (path_left taken) (left_by_string (forms_of format) plain) more others.0 others.1 i)
formats_are default scope path format (printed tree ∷ more) all is =
    let one = then_ok (lower_argument scope (printed tree)) (λ argument. lower_arguments scope more >>= λ others. Ok (argument ∷ others)) all is in
    let e = then_ok (lower_expression scope tree) (λ e. Ok (value (is_watched tree) e)) one.0 one.1 in
    let others = then_ok (lower_arguments scope more) (λ others. Ok (one.0 ∷ others)) all one.2 in
    let taken = value_taken default path (front_of path format) (is_watched tree) e.0 in
    sym (ap (λ (l : List Argument). is_some (pieces_by default path format l)) (ap (λ (a : Argument). a ∷ others.0) (same_value (value (is_watched tree) e.0) one.0 e.2) ∙ same_value (one.0 ∷ others.0) all others.2))
    ∙ taken_some taken (pieces_by default (path_left taken) (format_left taken) others.0)
    ∙ ap (λ (l : List ℕ). is_some taken && is_some (pieces_by default (path_left taken) l others.0)) (left_of_value default path format (is_watched tree) e.0)
    ∙ (λ i. value_fits_forms default path format (is_watched tree) e.0 i
    && formats_are default scope (path_left taken) (left_by_value (forms_of format)) more others.0 others.1 i)

ended_some : (ends : Bool) (pieces : Option (List Piece)) → is_some (with_line_end ends pieces) ≡ is_some pieces
ended_some ends None = refl
ended_some ends (Some pieces) = refl

found_kind : {A : Type 0} (x : Option A) (word : Option Word) → Judges is_kind (is_some x) (value_or_fault x Kind word)
found_kind None word = λ e. refl
found_kind (Some x) word = refl

formats_kind : (scope : Scope) (default : Form) (ends : Bool) (arguments : List ArgumentTree) (all : List Argument) → lower_arguments scope (arguments_given arguments) ≡ Ok all →
    Judges is_kind (formats_fit [] arguments) (value_or_fault (pieces_of default ends all) Kind (first_argument arguments))
formats_kind scope default ends arguments all is =
    subst (λ (b : Bool). Judges is_kind b (value_or_fault (pieces_of default ends all) Kind (first_argument arguments)))
    (ended_some ends (pieces_by default [] [] all) ∙ formats_are default scope [] [] (arguments_given arguments) all is ∙ given_same (formats_fit []) refl arguments)
    (found_kind (pieces_of default ends all) (first_argument arguments))

pub kinds : Question
kinds = record {
  asked = is_kind;
  fits = kind_in;
  no_width = refl;
  of_value = λ constant scope name. value_kind constant scope.known name (meaning_of scope name);
  of_bits = λ constant scope name. bits_kind constant scope.known name (meaning_of scope name);
  of_written = λ scope name. written_kind name (meaning_of scope name);
  of_written_in = λ scope name. written_in_kind name (meaning_of scope name);
  of_driven = λ scope name. driven_kind name (meaning_of scope name);
  of_driven_in = λ scope name. driven_in_kind name (meaning_of scope name);
  of_event = λ scope name. event_kind name (meaning_of scope name);
  of_term = λ scope edge name. term_kind edge name (meaning_of scope name);
  of_time = λ constant scope word x. required_judges is_kind (not constant) Constant word x refl;
  of_formats = formats_kind;
  of_levels = λ scope levels. found_kind (levels_in levels) (Some levels);
}

-- ---- what a name stands for

-- in a scope and in the text
abbrev pub Alike : Scope → Place → Option Meaning → Option Thing → Type 0
Alike scope place None None = Unit {0}
Alike scope place None (Some thing) = ⊥
Alike scope place (Some (Variable number)) None = ⊥
Alike scope place (Some (Variable number)) (Some (a_variable d)) = (k : ℕ) × (number ≡ scope.first + k) × (k < scope.variables) × (slice_get place.things k ≡ Some (a_variable d))
Alike scope place (Some (Variable number)) (Some a_parameter) = ⊥
Alike scope place (Some (Variable number)) (Some an_event) = ⊥
Alike scope place (Some (Variable number)) (Some an_instance) = ⊥
Alike scope place (Some (Parameter worth bounds before)) None = ⊥
Alike scope place (Some (Parameter worth bounds before)) (Some thing) = MeaningIs (Parameter worth bounds before) thing
Alike scope place (Some (Event number)) None = ⊥
Alike scope place (Some (Event number)) (Some thing) = MeaningIs (Event number) thing
Alike scope place (Some Instance) None = ⊥
Alike scope place (Some Instance) (Some thing) = MeaningIs Instance thing

module _ (place : Place) (scope : Scope) (h : IsAt place scope) where
  alike_by : (meaning : Meaning) (thing : Thing) → MeaningIs meaning thing → Alike scope place (Some meaning) (Some thing)
  alike_by (Variable number) thing m = absurd m
  alike_by (Parameter worth bounds before) thing m = m
  alike_by (Event number) thing m = m
  alike_by Instance thing m = m

  module _ (name : Word) where
    abbrev p : ℕ
    p = position_or_len (bytes_eq name.letters) scope.names

    at_p : (c : Bool) → nat_lt p scope.variables ≡ c → p < length scope.names → Alike scope place (if c then Some (Variable (scope.first + p)) else slice_get scope.others (p - scope.variables)) (slice_get place.things p)
    at_p true e lt =
        let early = ltb-true p scope.variables e in
        let it = h.declared p early in
        subst (Alike scope place (Some (Variable (scope.first + p)))) (sym it.1) (p, refl, early, it.1)
    at_p false e lt =
        let le = ltb-false p scope.variables e in
        let w = h.whole in
        let it = there_is scope.others (p - scope.variables) (omega (arith, le, lt, w)) in
        let thing = h.kinds (p - scope.variables) it.0 it.1 in
        let same : scope.variables + (p - scope.variables) ≡ p = omega (arith, le) in
        subst (λ (x : Option Meaning). Alike scope place x (slice_get place.things p)) (sym it.1)
        (subst (Alike scope place (Some it.0)) (sym (sym (ap (slice_get place.things) same) ∙ thing.1)) (alike_by it.0 thing.0 thing.2))

    by_place : (b : Bool) → nat_lt p (length scope.names) ≡ b → Alike scope place (option_and_then (meaning_at scope) (cond b (Some p) None)) (option_and_then (slice_get place.things) (cond b (Some p) None))
    by_place true e = at_p (nat_lt p scope.variables) refl (ltb-true p (length scope.names) e)
    by_place false e = tt

    pub stands_alike : Alike scope place (meaning_of scope name) (thing_of place name)
    stands_alike =
        subst (λ (l : List Text). Alike scope place (meaning_of scope name) (option_and_then (slice_get place.things) (position (bytes_eq name.letters) l))) h.names
        (by_place (nat_lt p (length scope.names)) refl)

  kind_alike : (constant : Bool) (way : Way) (meaning : Option Meaning) (thing : Option Thing) → Alike scope place meaning thing → kind_by constant way meaning ≡ suits_first constant way thing
  kind_alike constant way None None a = refl
  kind_alike constant way None (Some thing) a = absurd a
  kind_alike constant way (Some (Variable number)) None a = absurd a
  kind_alike constant way (Some (Variable number)) (Some (a_variable d)) a = refl
  kind_alike constant way (Some (Variable number)) (Some a_parameter) a = absurd a
  kind_alike constant way (Some (Variable number)) (Some an_event) a = absurd a
  kind_alike constant way (Some (Variable number)) (Some an_instance) a = absurd a
  kind_alike constant way (Some (Parameter worth bounds before)) None a = absurd a
  kind_alike constant way (Some (Parameter worth bounds before)) (Some (a_variable d)) a = absurd a
  kind_alike constant way (Some (Parameter worth bounds before)) (Some a_parameter) a = refl
  kind_alike constant way (Some (Parameter worth bounds before)) (Some an_event) a = absurd a
  kind_alike constant way (Some (Parameter worth bounds before)) (Some an_instance) a = absurd a
  kind_alike constant way (Some (Event number)) None a = absurd a
  kind_alike constant way (Some (Event number)) (Some (a_variable d)) a = absurd a
  kind_alike constant way (Some (Event number)) (Some a_parameter) a = absurd a
  kind_alike constant way (Some (Event number)) (Some an_event) a = refl
  kind_alike constant way (Some (Event number)) (Some an_instance) a = absurd a
  kind_alike constant way (Some Instance) None a = absurd a
  kind_alike constant way (Some Instance) (Some (a_variable d)) a = absurd a
  kind_alike constant way (Some Instance) (Some a_parameter) a = absurd a
  kind_alike constant way (Some Instance) (Some an_event) a = absurd a
  kind_alike constant way (Some Instance) (Some an_instance) a = refl

  suited_alike : (one : Use) → kind_in scope one ≡ is_suited_first place one
  suited_alike (use_of way constant name) = kind_alike constant way (meaning_of scope name) (thing_of place name) (stands_alike name)
  suited_alike (use_of_time constant) = refl
  suited_alike (use_of_formats arguments) = refl
  suited_alike (use_of_levels levels) = refl

kinds_rule : UseRule
unfolding kinds
kinds_rule = record {
  question = kinds;
  rule = Kind;
  fits = is_suited_first;
  alike = suited_alike;
  is_asked = refl;
  no_top = refl;
  no_doubled = refl;
  no_drivers = refl;
  no_ports = refl;
  no_depth = refl;
  no_many = refl;
  no_width = refl;
}

-- ---- in a text

pub unsuited_told : (modules : SourceTree) (top : Option Text) (fault : ElabFault) (unit : ModuleTree) → fault.rule ≡ Kind → top_of modules top ≡ Some unit → elaborate_top modules unit ≡ Err fault → HasMisuse is_suited_first modules top
unfolding kinds_rule
unsuited_told modules top fault unit rule is_top err = misuse_told kinds_rule modules top fault unit rule is_top err

pub unsuited_never : (modules : SourceTree) (top : Option Text) (scale : Timescale) (design : Design) → elaborated modules top scale ≡ Ok design → ¬ HasMisuse is_suited_first modules top
unfolding kinds_rule
unsuited_never modules top scale design is = misuse_never kinds_rule modules top scale design is
