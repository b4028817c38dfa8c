-- Names that nothing declares, or that aren't known yet where a constant uses them: what a scope says of them by its names.
use Rattle.std.proofs.Common.{◌≡◌, ◌<◌, ◌≤◌, ℕ, ◌+◌, ◌-◌, nat_lt, Bool, true, false, cond, if◌then◌else◌, not, ◌||◌, List, [], ◌++◌, length, slice_get, option_and_then, Option, Some, None, Ok, Err, refl, sym, ap, subst, ◌∙◌, arith, length-append}
use Rattle.std.specs.List.{position_or_len}
use Rattle.std.specs.Str.{bytes_eq}
use Rattle.std.proofs.lemmas.Bool.{lt-ltb, le-ltb, ltb-true, ltb-false}
use Rattle.std.proofs.lemmas.List.{append-nil}
use Rattle.basis.specs.declared.timescale.Timescale.{Timescale}
use Rattle.vwords.specs.Words.{Text}
use Rattle.vast.specs.NumberedWords.{Word}
use Rattle.vast.specs.NumberedModules.{ModuleTree, SourceTree}
use Rattle.vdesign.specs.Design.{Design}
use Rattle.vdesign.specs.declared.action.Edge.{Edge}
use Rattle.vdesign.specs.declared.action.Edge.TheVariants.{Any, Rise, Fall}
use Rattle.vmodules.specs.Names.{is_declared}
use Rattle.vmodules.specs.Hierarchy.{top_of}
use Rattle.velab_expr.specs.declared.fault.Rule.{Rule}
use Rattle.velab_expr.specs.declared.fault.Rule.TheVariants.{Top, Doubled, Unknown, Drivers, Ports, Width, Constant, Depth, TooMany, Kind}
use Rattle.velab_expr.specs.declared.scope.Meaning.{Meaning}
use Rattle.velab_expr.specs.declared.scope.Meaning.TheVariants.{Variable, Parameter, Event, Instance}
use Rattle.velab_expr.specs.declared.scope.Operand.TheVariants as operand
use Rattle.velab_expr.specs.declared.fault.ElabFault.{ElabFault}
use Rattle.velab_expr.specs.Answers.{require}
use Rattle.velab_expr.specs.Scopes.{Scope, meaning_at, meaning_of, bounds_for, operand_by, variable_by, event_by}
use Rattle.format_text.specs.Pieces.{pieces_of}
use Rattle.velab_expr.specs.FirstWords.{first_argument}
use Rattle.velab_expr.specs.Selections.{levels_in}
use Rattle.velab_process.specs.Waits.{term_by}
use Rattle.vhierarchy.specs.Instances.{elaborate_top, elaborated}
use Rattle.elaboration_law.specs.Uses.{Use, use_of, use_of_time, use_of_formats, use_of_levels}
use Rattle.elaboration_law.proofs.UseLemmas.{Judges, required_judges, found_judges, Question}
use Rattle.elaboration_law.specs.Places.{Place, HasMisuse}
use Rattle.elaboration_law.specs.Unknowns.{is_known}
use Rattle.elaboration_law.proofs.ConstantUses.{within, behind}
use Rattle.elaboration_law.proofs.PlaceLemmas.{StandsIn, there_is, IsAt}
use Rattle.elaboration_law.proofs.InstanceUses.{UseRule}
use Rattle.elaboration_law.proofs.MisuseLemmas.{misuse_told, misuse_never}

abbrev pub is_unknown : Rule → Bool
is_unknown Top = false
is_unknown Doubled = false
is_unknown Unknown = true
is_unknown Drivers = false
is_unknown Ports = false
is_unknown Width = false
is_unknown Constant = false
is_unknown Depth = false
is_unknown TooMany = false
is_unknown Kind = false

-- ---- the question

-- it is declared, and in a constant no parameter from here on
abbrev known_by : Bool → ℕ → Option Meaning → Bool
known_by constant known None = false
known_by constant known (Some (Variable number)) = true
known_by constant known (Some (Parameter value bounds before)) = not constant || nat_lt before known
known_by constant known (Some (Event number)) = true
known_by constant known (Some Instance) = true

abbrev pub known_in : Scope → Use → Bool
known_in scope (use_of way constant name) = known_by constant scope.known (meaning_of scope name)
known_in scope (use_of_time constant) = true
known_in scope (use_of_formats arguments) = true
known_in scope (use_of_levels levels) = true

name_known : (constant : Bool) (known : ℕ) (name : Word) (meaning : Option Meaning) → Judges is_unknown (known_by constant known meaning) (operand_by constant known name meaning)
name_known constant known name None = λ e. refl
name_known constant known name (Some (Variable number)) = required_judges is_unknown (not constant) Constant (Some name) (operand.Variable number) refl
name_known constant known name (Some (Parameter value bounds before)) = by (not constant || nat_lt before known)
  where
    by : (b : Bool) → Judges is_unknown b (require b Unknown (Some name) (operand.Parameter value (bounds_for value bounds)))
    by true = refl
    by false = λ e. refl
name_known constant known name (Some (Event number)) = λ e. absurd cc
name_known constant known name (Some Instance) = λ e. absurd cc

variable_known : (known : ℕ) (name : Word) (meaning : Option Meaning) → Judges is_unknown (known_by false known meaning) (variable_by name meaning)
variable_known known name None = λ e. refl
variable_known known name (Some (Variable number)) = refl
variable_known known name (Some (Parameter value bounds before)) = λ e. absurd cc
variable_known known name (Some (Event number)) = λ e. absurd cc
variable_known known name (Some Instance) = λ e. absurd cc

event_known : (known : ℕ) (name : Word) (meaning : Option Meaning) → Judges is_unknown (known_by false known meaning) (event_by name meaning)
event_known known name None = λ e. refl
event_known known name (Some (Variable number)) = λ e. absurd cc
event_known known name (Some (Parameter value bounds before)) = λ e. absurd cc
event_known known name (Some (Event number)) = refl
event_known known name (Some Instance) = λ e. absurd cc

term_known : (known : ℕ) (edge : Edge) (name : Word) (meaning : Option Meaning) → Judges is_unknown (known_by false known meaning) (term_by edge name meaning)
term_known known edge name None = λ e. refl
term_known known edge name (Some (Variable number)) = refl
term_known known edge name (Some (Parameter value bounds before)) = λ e. absurd cc
term_known known Any name (Some (Event number)) = refl
term_known known Rise name (Some (Event number)) = λ e. absurd cc
term_known known Fall name (Some (Event number)) = λ e. absurd cc
term_known known edge name (Some Instance) = λ e. absurd cc

pub names : Question
names = record {
  asked = is_unknown;
  fits = known_in;
  no_width = refl;
  of_value = λ constant scope name. name_known constant scope.known name (meaning_of scope name);
  of_bits = λ constant scope name. name_known constant scope.known name (meaning_of scope name);
  of_written = λ scope name. variable_known scope.known name (meaning_of scope name);
  of_written_in = λ scope name. variable_known scope.known name (meaning_of scope name);
  of_driven = λ scope name. variable_known scope.known name (meaning_of scope name);
  of_driven_in = λ scope name. variable_known scope.known name (meaning_of scope name);
  of_event = λ scope name. event_known scope.known name (meaning_of scope name);
  of_term = λ scope edge name. term_known scope.known edge name (meaning_of scope name);
  of_formats = λ scope default ends arguments all is. found_judges is_unknown (pieces_of default ends all) Kind (first_argument arguments) refl;
  of_levels = λ scope levels. found_judges is_unknown (levels_in levels) Kind (Some levels) refl;
  of_time = λ constant scope word x. required_judges is_unknown (not constant) Constant word x refl;
}

-- ---- the names of a scope

-- a name at a place that is known
stands_known : (constant : Bool) (firm known place : ℕ) (meaning : Meaning) → StandsIn firm place meaning → place < known → known_by constant known (Some meaning) ≡ true
stands_known constant firm known place (Variable number) s lt = absurd s
stands_known true firm known place (Parameter value bounds before) s lt = lt-ltb before known (omega (arith, s, lt))
stands_known false firm known place (Parameter value bounds before) s lt = refl
stands_known constant firm known place (Event number) s lt = refl
stands_known constant firm known place Instance s lt = refl

-- and at one that isn't
stands_later : (firm known place : ℕ) (meaning : Meaning) → firm ≤ known → StandsIn firm place meaning → known ≤ place → known_by true known (Some meaning) ≡ false
stands_later firm known place (Variable number) few s le = absurd s
stands_later firm known place (Parameter value bounds before) few s le = le-ltb before known (omega (arith, s, le))
stands_later firm known place (Event number) few s le = absurd (omega (arith, few, s, le))
stands_later firm known place Instance few s le = absurd (omega (arith, few, s, le))

stands_anyway : (firm known place : ℕ) (meaning : Meaning) → StandsIn firm place meaning → known_by false known (Some meaning) ≡ true
stands_anyway firm known place (Variable number) s = absurd s
stands_anyway firm known place (Parameter value bounds before) s = refl
stands_anyway firm known place (Event number) s = refl
stands_anyway firm known place Instance s = refl

module _ (here : Place) (scope : Scope) (h : IsAt here scope) (name : Word) where
  abbrev place : ℕ
  place = position_or_len (bytes_eq name.letters) scope.names

  -- what stands at the place, where it is among the variables, the others, or nowhere
  a_variable : (constant : Bool) → place < scope.variables → known_by constant scope.known (meaning_of scope name) ≡ true
  a_variable constant lt =
      let w = h.whole in
      ap (λ (b : Bool). known_by constant scope.known (option_and_then (meaning_at scope) (cond b (Some place) None))) (lt-ltb place (length scope.names) (omega (arith, lt, w)))
      ∙ ap (λ (b : Bool). known_by constant scope.known (if b then Some (Variable (scope.first + place)) else slice_get scope.others (place - scope.variables))) (lt-ltb place scope.variables lt)

  another : (constant : Bool) → scope.variables ≤ place → place < length scope.names → (meaning : Meaning) × StandsIn h.firm (place - scope.variables) meaning × (known_by constant scope.known (meaning_of scope name) ≡ known_by constant scope.known (Some meaning))
  another constant le lt =
      let w = h.whole in
      let it = there_is scope.others (place - scope.variables) (omega (arith, le, lt, w)) in (
        it.0,
        h.others (place - scope.variables) it.0 it.1,
        ap (λ (b : Bool). known_by constant scope.known (option_and_then (meaning_at scope) (cond b (Some place) None))) (lt-ltb place (length scope.names) lt)
            ∙ ap (λ (b : Bool). known_by constant scope.known (if b then Some (Variable (scope.first + place)) else slice_get scope.others (place - scope.variables))) (le-ltb place scope.variables le)
            ∙ ap (known_by constant scope.known) it.1,
      )

  nowhere : (constant : Bool) → length scope.names ≤ place → known_by constant scope.known (meaning_of scope name) ≡ false
  nowhere constant le = ap (λ (b : Bool). known_by constant scope.known (option_and_then (meaning_at scope) (cond b (Some place) None))) (le-ltb place (length scope.names) le)

  -- it stands among the first of the names, or behind them
  module _ (front back : List Text) (is : scope.names ≡ front ++ back) where
    early : is_declared front name.letters ≡ true → place < length front
    early e = subst (λ (l : List Text). position_or_len (bytes_eq name.letters) l < length front) (sym is) (within (bytes_eq name.letters) front back e)

    late : is_declared front name.letters ≡ false → length front ≤ place
    late e = subst (λ (l : List Text). length front ≤ position_or_len (bytes_eq name.letters) l) (sym is) (behind (bytes_eq name.letters) front back e)

  anywhere : (d : Bool) → is_declared scope.names name.letters ≡ d → known_by false scope.known (meaning_of scope name) ≡ d
  anywhere false e = nowhere false (late scope.names [] (sym (append-nil scope.names)) e)
  anywhere true e = by (nat_lt place scope.variables) refl (early scope.names [] (sym (append-nil scope.names)) e)
    where
      by : (c : Bool) → nat_lt place scope.variables ≡ c → place < length scope.names → known_by false scope.known (meaning_of scope name) ≡ true
      by true c lt = a_variable false (ltb-true place scope.variables c)
      by false c lt =
          let it = another false (ltb-false place scope.variables c) lt in
          it.2 ∙ stands_anyway h.firm scope.known (place - scope.variables) it.0 it.1

  before : (d : Bool) → is_declared here.known name.letters ≡ d → known_by true scope.known (meaning_of scope name) ≡ d
  before true e = by (nat_lt place scope.variables) refl (early here.known h.later (h.names ∙ h.all) e)
    where
      by : (c : Bool) → nat_lt place scope.variables ≡ c → place < length here.known → known_by true scope.known (meaning_of scope name) ≡ true
      by true c lt = a_variable true (ltb-true place scope.variables c)
      by false c lt =
          let long = ap length (h.names ∙ h.all) ∙ length-append here.known h.later in
          let count = h.known in
          let le = ltb-false place scope.variables c in
          let it = another true le (omega (arith, long, lt)) in
          it.2 ∙ stands_known true h.firm scope.known (place - scope.variables) it.0 it.1 (omega (arith, le, lt, count))
  before false e = by (nat_lt place (length scope.names)) refl (late here.known h.later (h.names ∙ h.all) e)
    where
      by : (c : Bool) → nat_lt place (length scope.names) ≡ c → length here.known ≤ place → known_by true scope.known (meaning_of scope name) ≡ false
      by true c le =
          let count = h.known in
          let it = another true (omega (arith, le, count)) (ltb-true place (length scope.names) c) in
          it.2 ∙ stands_later h.firm scope.known (place - scope.variables) it.0 h.early it.1 (omega (arith, le, count))
      by false c le = nowhere true (ltb-false place (length scope.names) c)

known_alike : (here : Place) (scope : Scope) → IsAt here scope → (one : Use) → known_in scope one ≡ is_known here one
known_alike here scope h (use_of way true name) = before here scope h name (is_declared here.known name.letters) refl
known_alike here scope h (use_of way false name) = anywhere here scope h name (is_declared scope.names name.letters) refl ∙ ap (λ (l : List Text). is_declared l name.letters) h.names
known_alike here scope h (use_of_time constant) = refl
known_alike here scope h (use_of_formats arguments) = refl
known_alike here scope h (use_of_levels levels) = refl

names_rule : UseRule
unfolding names
names_rule = record {
  question = names;
  rule = Unknown;
  fits = is_known;
  alike = known_alike;
  is_asked = refl;
  no_top = refl;
  no_doubled = refl;
  no_drivers = refl;
  no_ports = refl;
  no_depth = refl;
  no_many = refl;
  no_width = refl;
}

-- ---- in a text

pub unknown_told : (modules : SourceTree) (top : Option Text) (fault : ElabFault) (unit : ModuleTree) → fault.rule ≡ Unknown → top_of modules top ≡ Some unit → elaborate_top modules unit ≡ Err fault → HasMisuse is_known modules top
unfolding names_rule
unknown_told modules top fault unit rule is_top err = misuse_told names_rule modules top fault unit rule is_top err

pub unknown_never : (modules : SourceTree) (top : Option Text) (scale : Timescale) (design : Design) → elaborated modules top scale ≡ Ok design → ¬ HasMisuse is_known modules top
unfolding names_rule
unknown_never modules top scale design is = misuse_never names_rule modules top scale design is
