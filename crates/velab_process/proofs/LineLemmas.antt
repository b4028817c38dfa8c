-- Lines on their way: what is left of their arguments.
use Rattle.std.proofs.Common.{◌≡◌, Bool, true, false, ◌&&◌, List, [], ◌∷◌, Option, None, Some, Result, Ok, Err, IsErrAnd, refl, sym, ap, subst, ◌∙◌}
use Rattle.basis.specs.declared.memory.OrMemory.{OrMemory}
use Rattle.vdesign.specs.declared.print.Form.{Form}
use Rattle.vdesign.specs.declared.print.Piece.{Piece}
use Rattle.vast.specs.NumberedWords.{Word}
use Rattle.vast.specs.NumberedStatements.{ArgumentTree, quoted, printed, left_out}
use Rattle.vast.specs.declared.statement.Printing.{Printing}
use Rattle.velab_process.specs.Prints.{default_form, ends_line, arguments_given, lower_arguments, lower_line}
use Rattle.velab_expr.specs.declared.fault.Rule.TheVariants.{Kind}
use Rattle.velab_expr.specs.declared.fault.ElabFault.{ElabFault}
use Rattle.velab_expr.specs.Answers.{◌>>=◌, value_or_fault, Refuses, Gives}
use Rattle.velab_expr.specs.FirstWords.{first_argument}
use Rattle.velab_expr.specs.Scopes.{Scope}
use Rattle.velab_expr.proofs.AnswerLemmas.{still_refused}
use Rattle.velab_process.specs.Inner.{Prints, HasOk, right_pieces}
use Rattle.format_text.specs.Pieces.{Argument, PrintedText, TakesArgument, pieces_with, pieces_of, with_line_end}
use Rattle.format_text.proofs.ArgumentLaws.{none_taken}

-- with what is left behind it, a line has the pieces of all; or all have none
abbrev pub GoesOn : PrintedText → List Argument → List Argument → Bool → PrintedText → Type 0
GoesOn old all left true new = pieces_with new left ≡ pieces_with old all
GoesOn old all left false new = pieces_with old all ≡ None

-- the same of answers: what is left has the fault that all have
abbrev pub Continues : PrintedText → Result (List Argument) ElabFault → Result (List Argument) ElabFault → Bool → PrintedText → Type 0
Continues old (Ok all) (Ok left) is_right new = GoesOn old all left is_right new
Continues old (Err fault) (Err other) is_right new = fault ≡ other
Continues old (Ok all) (Err fault) is_right new = ⊥
Continues old (Err fault) (Ok left) is_right new = ⊥

-- nothing was taken
pub begun : (old : PrintedText) (all : Result (List Argument) ElabFault) → Continues old all all true old
begun old (Ok all) = refl
begun old (Err fault) = refl

-- one was taken, or it isn't right
pub goes : (old : PrintedText) (all : Result (List Argument) ElabFault) (one : Result Argument ElabFault) (rest : Result (List Argument) ElabFault) (is_right taken : Bool) (now after : PrintedText) →
    Continues old all (one >>= λ argument. rest >>= λ others. Ok (argument ∷ others)) is_right now →
    HasOk one (λ argument. TakesArgument now argument taken after) → Continues old all rest (is_right && taken) after
goes old (Ok xs) (Ok x) (Ok left) true true now after h takes = takes left ∙ h
goes old (Ok xs) (Ok x) (Ok left) true false now after h takes = sym h ∙ takes left
goes old (Ok xs) (Ok x) (Ok left) false taken now after h takes = h
goes old (Ok xs) (Ok x) (Err fault) is_right taken now after h takes = h
goes old (Err f) (Ok x) (Ok left) is_right taken now after h takes = h
goes old (Err f) (Ok x) (Err fault) is_right taken now after h takes = h
goes old all (Err fault) rest is_right taken now after h takes = absurd takes

-- one has a fault
pub refused_there : (old : PrintedText) (all : Result (List Argument) ElabFault) (one : Result Argument ElabFault) (rest : Result (List Argument) ElabFault) (is_right : Bool) (now : PrintedText) (fault : ElabFault) →
    Continues old all (one >>= λ argument. rest >>= λ others. Ok (argument ∷ others)) is_right now → one ≡ Err fault → all ≡ Err fault
refused_there old all (Ok x) rest is_right now fault h is = absurd cc
refused_there old (Ok xs) (Err other) rest is_right now fault h is = absurd h
refused_there old (Err f) (Err other) rest is_right now fault h is = let same : other ≡ fault = cc in ap Err (h ∙ same)

-- none is left
pub ended : (old : PrintedText) (all : Result (List Argument) ElabFault) (is_right : Bool) (new : PrintedText) → Continues old all (Ok []) is_right new → HasOk all (λ xs. Prints old xs is_right new)
ended old (Ok xs) true new goes = goes
ended old (Ok xs) false new goes = goes
ended old (Err fault) is_right new goes = absurd goes

-- the pieces of a text are those of its arguments, where it is right
whole_line : (default : Form) (ends : Bool) (old : PrintedText) (arguments : List Argument) (is_right : Bool) (new : PrintedText) (pieces : Option (List Piece)) →
    old ≡ record { pieces = []; path = []; format = []; default = default } → Prints old arguments is_right new → pieces ≡ with_line_end ends (pieces_with new []) →
    pieces_of default ends arguments ≡ right_pieces is_right pieces
whole_line default ends old arguments true new pieces starts prints is =
    ap (with_line_end ends) (sym (prints ∙ ap (λ (o : PrintedText). pieces_with o arguments) starts ∙ none_taken default arguments)) ∙ sym is
whole_line default ends old arguments false new pieces starts prints is =
    ap (with_line_end ends) (sym (none_taken default arguments) ∙ sym (ap (λ (o : PrintedText). pieces_with o arguments) starts) ∙ prints)

pub line_by : (default form : Form) (ends line_ends : Bool) (answer : Result (List Argument) ElabFault) (is_right : Bool) (old new : PrintedText)
    (pieces right : Option (List Piece)) (word : Option Word) → form ≡ default → line_ends ≡ ends →
    old ≡ record { pieces = []; path = []; format = []; default = form } → HasOk answer (λ all. Prints old all is_right new) →
    pieces ≡ with_line_end line_ends (pieces_with new []) → right ≡ right_pieces is_right pieces →
    (answer >>= λ all. value_or_fault (pieces_of default ends all) Kind word) ≡ value_or_fault right Kind word
line_by default form ends line_ends (Ok all) is_right old new pieces right word form_is ends_is starts prints is same =
    ap (λ (ps : Option (List Piece)). value_or_fault ps Kind word)
    (whole_line default ends old all is_right new pieces
    (starts ∙ ap (λ (f : Form). record { pieces = []; path = []; format = []; default = f }) form_is) prints
    (is ∙ ap (λ (e : Bool). with_line_end e (pieces_with new [])) ends_is)
    ∙ sym same)
line_by default form ends line_ends (Err fault) is_right old new pieces right word form_is ends_is starts prints is same = absurd prints

-- what is said of empty parentheses as of no argument is said of what is given
pub given_same : {A : Type 0} (f : List ArgumentTree → A) → f [] ≡ f (left_out ∷ []) → (arguments : List ArgumentTree) → f (arguments_given arguments) ≡ f arguments
given_same f alike [] = refl
given_same f alike (left_out ∷ []) = alike
given_same f alike (quoted letters ∷ []) = refl
given_same f alike (printed tree ∷ []) = refl
given_same f alike (one ∷ other ∷ more) = refl

-- a fault of the arguments that are given is the line's
pub line_refused : (scope : Scope) (kind : Printing) (arguments trees : List ArgumentTree) (result : Result (List Piece) (OrMemory ElabFault)) (e : OrMemory ElabFault) →
    IsErrAnd result (λ y. y ≡ e) → trees ≡ arguments_given arguments → Refuses e (lower_arguments scope trees) → Gives result (lower_line scope kind arguments)
line_refused scope kind arguments trees (Ok x) e h is refused = absurd h
line_refused scope kind arguments trees (Err y) e h is refused =
    subst (λ (o : OrMemory ElabFault). Refuses o (lower_line scope kind arguments)) (sym h)
    (still_refused (lower_arguments scope trees) (lower_line scope kind arguments)
    (λ fault same. ap (λ (a : Result (List Argument) ElabFault). a >>= λ all. value_or_fault (pieces_of (default_form kind) (ends_line kind) all) Kind (first_argument arguments))
    (ap (lower_arguments scope) (sym is) ∙ same)) e refused)
