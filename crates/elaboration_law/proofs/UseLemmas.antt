-- What answers say of a question: where there is one it holds, and where a rule that is asked for is told it doesn't.
use Rattle.std.proofs.Common.{◌≡◌, Bool, true, false, ◌&&◌, not, List, ◌∷◌, [], ◌++◌, Option, Some, None, Result, Ok, Err, refl, sym, subst}
use Rattle.std.specs.List.{list_all}
use Rattle.std.proofs.lemmas.List.Folds.{list_all-append}
use Rattle.std.proofs.lemmas.List.{append-nil}
use Rattle.basis.proofs.Bools.{and_both}
use Rattle.vast.specs.NumberedWords.{Word}
use Rattle.velab_expr.specs.declared.fault.Rule.{Rule}
use Rattle.velab_expr.specs.declared.fault.ElabFault.{ElabFault}
use Rattle.velab_expr.specs.declared.fault.Rule.TheVariants.{Width, Constant, Kind}
use Rattle.velab_expr.specs.Answers.{◌>>=◌, require, answer_if, value_or_fault}
use Rattle.velab_expr.specs.Scopes.{Scope, lower_name, lower_variable, lower_event}
use Rattle.vast.specs.NumberedStatements.{ArgumentTree}
use Rattle.vdesign.specs.declared.print.Form.{Form}
use Rattle.format_text.specs.Pieces.{Argument, pieces_of}
use Rattle.velab_expr.specs.FirstWords.{first_argument}
use Rattle.velab_expr.specs.Selections.{levels_in}
use Rattle.velab_process.specs.Prints.{lower_arguments, arguments_given}
use Rattle.velab_process.specs.Waits.{lower_term}
use Rattle.vdesign.specs.declared.action.Edge.{Edge}
use Rattle.vhierarchy.specs.Instances.{unless_word}
use Rattle.elaboration_law.specs.Uses.{Use, Read, ReadIn, Written, WrittenIn, Driven, DrivenIn, Triggered, Awaited, use_of, use_of_time, use_of_formats, use_of_levels}

abbrev pub Judges : {A : Type 0} → (Rule → Bool) → Bool → Result A ElabFault → Type 0
Judges asked holds (Ok x) = holds ≡ true
Judges asked holds (Err fault) = asked fault.rule ≡ true → holds ≡ false

pub first_false : (a b : Bool) → a ≡ false → (a && b) ≡ false
first_false true b e = absurd cc
first_false false b e = refl

pub second_false : (a b : Bool) → b ≡ false → (a && b) ≡ false
second_false true b e = e
second_false false b e = refl

module _ (asked : Rule → Bool) where
  -- two questions, of an answer and of what comes behind it
  pub two_judge : {A B : Type 0} (one other : Bool) (a : Result A ElabFault) (next : A → Result B ElabFault) → Judges asked one a → ((x : A) → Judges asked other (next x)) →
      Judges asked (one && other) (a >>= next)
  two_judge {B = B} one other (Ok x) next h more = by (next x) (more x)
    where
      by : (b : Result B ElabFault) → Judges asked other b → Judges asked (one && other) b
      by (Ok y) j = and_both one other h j
      by (Err fault) j = λ e. second_false one other (j e)
  two_judge one other (Err fault) next h more = λ e. first_false one other (h e)

  -- behind it no such rule is told
  pub last_judges : {A B : Type 0} (one : Bool) (a : Result A ElabFault) (next : A → Result B ElabFault) → Judges asked one a → ((x : A) → Judges asked true (next x)) → Judges asked one (a >>= next)
  last_judges {B = B} one (Ok x) next h more = by (next x) (more x)
    where
      by : (b : Result B ElabFault) → Judges asked true b → Judges asked one b
      by (Ok y) j = h
      by (Err fault) j = λ e. absurd (let it = j e in cc)
  last_judges one (Err fault) next h more = h

  pub required_judges : {A : Type 0} (holds : Bool) (rule : Rule) (word : Option Word) (x : A) → asked rule ≡ false → Judges asked true (require holds rule word x)
  required_judges true rule word x not = refl
  required_judges false rule word x not = λ e. absurd cc

  pub provided_judges : {A : Type 0} (one holds : Bool) (rule : Rule) (word : Option Word) (a : Result A ElabFault) → asked rule ≡ false → Judges asked one a → Judges asked one (answer_if holds rule word a)
  provided_judges one true rule word a not h = h
  provided_judges one false rule word a not h = λ e. absurd cc

  pub barring_judges : {A : Type 0} (one : Bool) (word : Option Word) (rule : Rule) (a : Result A ElabFault) → asked rule ≡ false → Judges asked one a → Judges asked one (unless_word word rule a)
  barring_judges one None rule a not h = h
  barring_judges one (Some word) rule a not h = λ e. absurd cc

  pub found_judges : {A : Type 0} (x : Option A) (rule : Rule) (word : Option Word) → asked rule ≡ false → Judges asked true (value_or_fault x rule word)
  found_judges None rule word not = λ e. absurd cc
  found_judges (Some x) rule word not = refl

  -- ---- the same question of each of several things

  module _ {U : Type 0} (test : U → Bool) where
    pub then_judges : {A B : Type 0} (xs ys : List U) (a : Result A ElabFault) (next : A → Result B ElabFault) → Judges asked (list_all test xs) a → ((x : A) → Judges asked (list_all test ys) (next x)) →
        Judges asked (list_all test (xs ++ ys)) (a >>= next)
    then_judges xs ys a next h more =
        subst (λ (b : Bool). Judges asked b (a >>= next)) (sym (list_all-append test xs ys)) (two_judge (list_all test xs) (list_all test ys) a next h more)

    -- what comes behind may use what the answer is
    pub known_judges : {A B : Type 0} (xs ys : List U) (a : Result A ElabFault) (next : A → Result B ElabFault) → Judges asked (list_all test xs) a → ((x : A) → a ≡ Ok x → Judges asked (list_all test ys) (next x)) →
        Judges asked (list_all test (xs ++ ys)) (a >>= next)
    known_judges xs ys (Ok x) next h more = then_judges xs ys (Ok x) (λ y. next x) h (λ y. more x refl)
    known_judges xs ys (Err fault) next h more =
        subst (λ (b : Bool). asked fault.rule ≡ true → b ≡ false) (sym (list_all-append test xs ys)) (λ e. first_false (list_all test xs) (list_all test ys) (h e))

    pub nothing_more : {A : Type 0} (xs : List U) (a : Result A ElabFault) → Judges asked (list_all test xs) a → Judges asked (list_all test (xs ++ [])) a
    nothing_more xs a h = subst (λ (l : List U). Judges asked (list_all test l) a) (sym (append-nil xs)) h

    pub one_judges : {A : Type 0} (x : U) (a : Result A ElabFault) → Judges asked (test x) a → Judges asked (list_all test (x ∷ [])) a
    one_judges x (Ok y) h = and_both (test x) true h refl
    one_judges x (Err fault) h = λ e. first_false (test x) true (h e)

-- a question of all that is used, which one rule or several are told for alone
pub record Question : Type 1 where
  pub asked : Rule → Bool
  pub fits : Scope → Use → Bool
  pub no_width : asked Width ≡ false
  pub of_value : (constant : Bool) (scope : Scope) (name : Word) → Judges asked (fits scope (use_of Read constant name)) (lower_name constant scope name)
  pub of_bits : (constant : Bool) (scope : Scope) (name : Word) → Judges asked (fits scope (use_of ReadIn constant name)) (lower_name constant scope name)
  pub of_written : (scope : Scope) (name : Word) → Judges asked (fits scope (use_of Written false name)) (lower_variable scope name)
  pub of_written_in : (scope : Scope) (name : Word) → Judges asked (fits scope (use_of WrittenIn false name)) (lower_variable scope name)
  pub of_driven : (scope : Scope) (name : Word) → Judges asked (fits scope (use_of Driven false name)) (lower_variable scope name)
  pub of_driven_in : (scope : Scope) (name : Word) → Judges asked (fits scope (use_of DrivenIn false name)) (lower_variable scope name)
  pub of_event : (scope : Scope) (name : Word) → Judges asked (fits scope (use_of Triggered false name)) (lower_event scope name)
  pub of_term : (scope : Scope) (edge : Edge) (name : Word) → Judges asked (fits scope (use_of (Awaited edge) false name)) (lower_term scope edge name)
  pub of_time : {A : Type 0} (constant : Bool) (scope : Scope) (word : Option Word) (x : A) → Judges asked (fits scope (use_of_time constant)) (require (not constant) Constant word x)
  pub of_formats : (scope : Scope) (default : Form) (ends : Bool) (arguments : List ArgumentTree) (all : List Argument) → lower_arguments scope (arguments_given arguments) ≡ Ok all →
      Judges asked (fits scope (use_of_formats arguments)) (value_or_fault (pieces_of default ends all) Kind (first_argument arguments))
  pub of_levels : (scope : Scope) (levels : Word) → Judges asked (fits scope (use_of_levels levels)) (value_or_fault (levels_in levels) Kind (Some levels))

-- the answer is one only where the question holds of all of these, and a fault of its rules only where it doesn't of one
abbrev pub Fits : {A : Type 0} → Question → Scope → List Use → Result A ElabFault → Type 0
Fits q scope uses answer = Judges q.asked (list_all (q.fits scope) uses) answer

module _ (q : Question) (scope : Scope) where
  -- one after another, and the last
  abbrev pub both : {A B : Type 0} (xs ys : List Use) (a : Result A ElabFault) (next : A → Result B ElabFault) → Fits q scope xs a → ((x : A) → Fits q scope ys (next x)) → Fits q scope (xs ++ ys) (a >>= next)
  both xs ys a next h more = then_judges q.asked (q.fits scope) xs ys a next h more

  abbrev pub last : {A B : Type 0} (xs : List Use) (a : Result A ElabFault) (next : A → Result B ElabFault) → Fits q scope xs a → ((x : A) → Judges q.asked true (next x)) → Fits q scope xs (a >>= next)
  last xs a next h more = last_judges q.asked (list_all (q.fits scope) xs) a next h more

  abbrev pub single : {A : Type 0} (x : Use) (a : Result A ElabFault) → Judges q.asked (q.fits scope x) a → Fits q scope (x ∷ []) a
  single x a h = one_judges q.asked (q.fits scope) x a h
