-- What statements use, and the actions that they are lowered to: the actions are right where the uses suit what names stand for.
use Rattle.std.proofs.Common.{◌≡◌, ℕ, Bool, true, false, not, ◌&&◌, List, [], ◌∷◌, ◌++◌, Option, None, Some, Result, refl, sym, ap, subst, ◌∙◌}
use Rattle.std.specs.List.{list_all}
use Rattle.std.proofs.lemmas.List.Folds.{list_all-append}
use Rattle.std.proofs.Math.Bool.{and-false}
use Rattle.basis.proofs.Bools.{and_assoc}
use Rattle.vast.specs.NumberedExpressions as text
use Rattle.vast.specs.NumberedStatements.{TargetTree, SelectionTree, ArgumentTree, quoted, printed, left_out, TaskTree, print, idle, dump_file, dump_vars, dump, end_run, DelayTree, by_number, by_name, by_value, FurtherTerm, EventTree, by_event, by_any, by_any_enclosed, by_terms, StatementTree, StatementTrees, empty, block, assign, nonblocking, trigger, if_true, if_else, case_of, while_true, repeat_times, forever, for_loop, wait_for, delay, event, task, no_statement, first_statement, BranchTree, BranchTrees, labelled, default, no_branch, first_branch}
use Rattle.vast.specs.declared.statement.Dumping.TheVariants as dumps
use Rattle.vdesign.specs.Design.{Variable}
use Rattle.vdesign.specs.Expressions.{ExpressionTree}
use Rattle.std.specs.Prelude.{unwrap_or}
use Rattle.vdesign.specs.declared.print.Piece.TheVariants.{Value}
use Rattle.vdesign.specs.declared.action.Action.{Action}
use Rattle.vdesign.specs.declared.action.Action.TheVariants.{Forever, EventControl, Case}
use Rattle.vdesign.specs.declared.action.Target.{Target}
use Rattle.vdesign.specs.declared.action.Edge.TheVariants.{Any}
use Rattle.vdesign.specs.declared.print.Piece.{Piece}
use Rattle.vdesign.specs.declared.print.Form.{Form}
use Rattle.vdesign.specs.declared.print.Notation.{Notation}
use Rattle.vdesign.specs.declared.print.Notation.TheVariants.{Binary, Octal, Hexadecimal, Decimal, Time, Character, Letters}
use Rattle.vdesign.specs.declared.print.Width.{Width}
use Rattle.vast.specs.declared.statement.Printing.{Printing}
use Rattle.format_text.specs.declared.letters.Escape.TheVariants.{Plain}
use Rattle.format_text.specs.Formats.{FormatFront, letters_of, letters_in, front_of}
use Rattle.format_text.specs.Pieces.{Argument, string, value, Taken, text_piece, without_form, last_pieces, value_taken, string_by, string_shown, string_taken, path_left, format_left, pieces_with_taken, pieces_by, pieces_of, line_end, with_line_end}
use Rattle.velab_expr.specs.declared.fault.Rule.TheVariants.{Kind}
use Rattle.velab_expr.specs.declared.fault.ElabFault.{ElabFault}
use Rattle.velab_expr.specs.Answers.{◌>>=◌, value_or_fault}
use Rattle.velab_expr.specs.FirstWords.{first_argument}
use Rattle.velab_expr.specs.Scopes.{Scope, lower_event}
use Rattle.velab_expr.specs.Resolved.{lower_expression}
use Rattle.velab_expr.specs.Written.{lower_target, lower_net_target}
use Rattle.velab_expr.specs.Selections.{lower_selection}
use Rattle.velab_declaration.specs.Right.{writes_net, writes_variables}
use Rattle.velab_process.specs.Waits.{edge_of, lower_control}
use Rattle.velab_process.specs.Prints.{default_form, ends_line, arguments_given, lower_argument, lower_arguments, lower_line}
use Rattle.velab_process.proofs.LineLemmas.{given_same}
use Rattle.velab_process.specs.Statements.{Table, Lowered, LoweredBranches, with_places_before, assignment_action, lower_amount, lower_own_amount, lower_assignment, lower_task, lower_label, lower_labels, lower_statement, lower_all, lower_branch, lower_branches}
use Rattle.velab_process.specs.Processes.{ProcessTree, procedural, continuous, Processes, with_begins_before, lower_process, lower_processes}
use Rattle.elaboration_law.specs.Uses.{Use, Triggered, use_of, use_of_formats, used_in, used_in_parts, used_in_target, used_in_target_by, used_in_delay, used_in_own, used_in_assignment, used_in_further, used_in_control, used_in_argument, used_in_arguments, used_in_selection, used_in_task, used_by, used_by_all, used_by_branch, used_by_branches, used_by_process, used_by_processes}
use Rattle.elaboration_law.specs.Places.{Place, thing_of}
use Rattle.elaboration_law.proofs.PlaceLemmas.{IsAt}
use Rattle.elaboration_law.proofs.RightLemmas.{all_of_both, bits_in, target_bits, branch_bits, piece_bits, is_right}
use Rattle.elaboration_law.proofs.RightUses.{Says, reorder, silent_says, through, then_says, last_says, front_says, and_true, Real, is_suited_later, awaited_holds, triggered_holds, lower_says, row_right, driven_right, target_says}

-- ---- truths in another order

-- a test, which its action asks for behind the body
test_behind : (a c b : Bool) → ((a && b) && c) ≡ (a && (c && b))
test_behind false c b = refl
test_behind true true true = refl
test_behind true true false = refl
test_behind true false true = refl
test_behind true false false = refl

test_behind_two : (a c b o : Bool) → (((a && b) && o) && c) ≡ (a && (c && (b && o)))
test_behind_two a c b o = ap (λ (x : Bool). x && c) (and_assoc a b o) ∙ test_behind a c (b && o)

-- what is written, and a delay
rows_first : (w a t v : Bool) → (w && (a && (t && v))) ≡ ((w && t) && (a && v))
rows_first false a t v = refl
rows_first true a true v = refl
rows_first true a false v = and-false a

-- ---- a row of targets

module _ (vs : List Variable) (place : Place) (scope : Scope) (h : IsAt place scope) (real : Real vs place scope) where
  abbrev hold : List Use → Bool
  hold uses = list_all (is_suited_later place) uses

  abbrev row : List Target → Bool
  row targets = list_all (λ target. not (writes_net vs target) && target_bits vs target) targets

  row_is : (targets : List Target) → row targets ≡ (writes_variables vs targets && list_all (target_bits vs) targets)
  row_is targets = all_of_both (λ target. not (writes_net vs target)) (target_bits vs) targets

  -- ---- the table

  abbrev all : Table → Bool
  all table = list_all (is_right vs) table.actions

  abbrev of_lowered : Lowered → Bool
  of_lowered l = all l.table

  abbrev of_branches : LoweredBranches → Bool
  of_branches l = all l.table && list_all (branch_bits vs) l.branches

  -- an action
  acted : (table : Table) (action : Action) → list_all (is_right vs) (table.actions ++ action ∷ []) ≡ (all table && is_right vs action)
  acted table action = list_all-append (is_right vs) table.actions (action ∷ []) ∙ ap (λ (b : Bool). all table && b) (sym (and_true (is_right vs action)))

  -- whatever it does, it is right
  acted_anyway : (table : Table) (action : Action) → is_right vs action ≡ true → list_all (is_right vs) (table.actions ++ action ∷ []) ≡ (all table && true)
  acted_anyway table action e = acted table action ∙ ap (λ (b : Bool). all table && b) e

  abbrev Grows : Table → Bool → Result Lowered ElabFault → Type 0
  Grows table b a = Says of_lowered (all table && b) a

  split : (table : Table) (xs ys : List Use) (a : Result Lowered ElabFault) → Grows table (hold xs && hold ys) a → Grows table (hold (xs ++ ys)) a
  split table xs ys a s = subst (λ (b : Bool). Grows table b a) (sym (list_all-append (is_suited_later place) xs ys)) s

  anyway : (table : Table) (b : Bool) (a : Result Lowered ElabFault) → b ≡ true → Grows table true a → Grows table b a
  anyway table b a e s = subst (λ (x : Bool). Grows table x a) (sym e) s

  placed : (b : Bool) (places : List ℕ) (a : Result Lowered ElabFault) → Says of_lowered b a → Says of_lowered b (with_places_before places a)
  placed b places a s = last_says of_lowered of_lowered b a _ s (λ lowered. refl)

  -- ---- waits: what is waited for is of no kind that the finished design is told for

  further_holds : (list : List FurtherTerm) → hold (used_in_further list) ≡ true
  further_holds [] = refl
  further_holds (one ∷ more) = λ i. awaited_holds (edge_of one.term.edge) (thing_of place one.term.name) i && further_holds more i

  control_holds : (control : EventTree) → hold (used_in_control control) ≡ true
  control_holds (by_event letters) = λ i. awaited_holds Any (thing_of place letters) i && true
  control_holds by_any = refl
  control_holds by_any_enclosed = refl
  control_holds (by_terms term further) = λ i. awaited_holds (edge_of term.edge) (thing_of place term.name) i && further_holds further i

  -- ---- lines

  abbrev argument_bits : Argument → Bool
  argument_bits (string path letters) = true
  argument_bits (value watched e) = bits_in vs e

  argument_says : (argument : ArgumentTree) → Says argument_bits (hold (used_in_argument argument)) (lower_argument scope argument)
  argument_says (quoted letters) = refl
  argument_says (printed tree) = last_says (bits_in vs) argument_bits (hold (used_in false tree)) (lower_expression scope tree) _ (lower_says vs place scope h real false tree) (λ e. refl)
  argument_says left_out = refl

  arguments_say : (list : List ArgumentTree) → Says (λ l. list_all argument_bits l) (hold (used_in_arguments list)) (lower_arguments scope list)
  arguments_say [] = refl
  arguments_say (one ∷ more) =
      subst (λ (b : Bool). Says (λ l. list_all argument_bits l) b (lower_arguments scope (one ∷ more))) (sym (list_all-append (is_suited_later place) (used_in_argument one) (used_in_arguments more)))
      (then_says argument_bits (λ l. list_all argument_bits l) (hold (used_in_argument one)) (hold (used_in_arguments more)) (lower_argument scope one) _ (argument_says one) (λ argument.
      front_says (λ l. list_all argument_bits l) (λ l. list_all argument_bits l) (argument_bits argument) (hold (used_in_arguments more)) (lower_arguments scope more) _ (arguments_say more) (λ others. refl)))

  abbrev Pieces : Bool → Option (List Piece) → Type 0
  Pieces b None = Unit {0}
  Pieces b (Some pieces) = list_all (piece_bits vs) pieces ≡ b

  text_bits : (letters : List ℕ) → list_all (piece_bits vs) (text_piece letters) ≡ true
  text_bits [] = refl
  text_bits (c ∷ cs) = refl

  last_bits : (front : Option FormatFront) → Pieces true (last_pieces front)
  last_bits None = tt
  last_bits (Some front) = by front.form
    where
      by : (form : Option Form) → Pieces true (without_form form (text_piece front.letters))
      by None = text_bits front.letters
      by (Some form) = tt

  abbrev TakenBits : Bool → Option Taken → Type 0
  TakenBits b None = Unit {0}
  TakenBits b (Some taken) = list_all (piece_bits vs) taken.pieces ≡ b

  value_bits : (usual : Form) (path : List ℕ) (front : Option FormatFront) (watched : Bool) (e : ExpressionTree) →
      TakenBits (bits_in vs e) (value_taken usual path front watched e)
  value_bits usual path None watched e = tt
  value_bits usual path (Some front) watched e =
      list_all-append (piece_bits vs) (text_piece front.letters) (Value (unwrap_or front.form usual) watched e ∷ [])
      ∙ ap (λ (b : Bool). b && (bits_in vs e && true)) (text_bits front.letters) ∙ sym (and_true (bits_in vs e))

  shown_bits : (path : List ℕ) (front : FormatFront) (width : Width) (notation : Notation) (letters : List ℕ) → TakenBits true (string_shown path front width notation letters)
  shown_bits path front width Binary letters = tt
  shown_bits path front width Octal letters = tt
  shown_bits path front width Hexadecimal letters = tt
  shown_bits path front width Decimal letters = tt
  shown_bits path front width Time letters = tt
  shown_bits path front width Character letters = tt
  shown_bits path front width Letters letters =
      list_all-append (piece_bits vs) (text_piece front.letters) (text_piece (letters_in width letters))
      ∙ λ i. text_bits front.letters i && text_bits (letters_in width letters) i

  string_bits : (path : List ℕ) (front : Option FormatFront) (own letters : List ℕ) → TakenBits true (string_taken path front own letters)
  string_bits path None own letters = tt
  string_bits path (Some front) own letters = by front.form
    where
      by : (form : Option Form) → TakenBits true (string_by path front form own letters)
      by None = text_bits front.letters
      by (Some form) = shown_bits path front form.width form.notation letters

  both_bits : (b c : Bool) (taken : Option Taken) (later : Option (List Piece)) → TakenBits b taken → Pieces c later → Pieces (b && c) (pieces_with_taken taken later)
  both_bits b c None later s t = tt
  both_bits b c (Some taken) None s t = tt
  both_bits b c (Some taken) (Some later) s t = list_all-append (piece_bits vs) taken.pieces later ∙ λ i. s i && t i

  pieces_are : (usual : Form) (path format : List ℕ) (all : List Argument) → Pieces (list_all argument_bits all) (pieces_by usual path format all)
  pieces_are usual path format [] = last_bits (front_of path format)
  pieces_are usual path format (string own letters ∷ more) =
      let taken = string_taken path (front_of path format) own (letters_of Plain letters) in
      both_bits true (list_all argument_bits more) taken (pieces_by usual (path_left taken) (format_left taken) more)
      (string_bits path (front_of path format) own (letters_of Plain letters)) (pieces_are usual (path_left taken) (format_left taken) more)
  pieces_are usual path format (value watched e ∷ more) =
      let taken = value_taken usual path (front_of path format) watched e in
      both_bits (bits_in vs e) (list_all argument_bits more) taken (pieces_by usual (path_left taken) (format_left taken) more)
      (value_bits usual path (front_of path format) watched e) (pieces_are usual (path_left taken) (format_left taken) more)

  end_bits : (ends : Bool) → list_all (piece_bits vs) (line_end ends) ≡ true
  end_bits true = refl
  end_bits false = refl

  ended_bits : (ends b : Bool) (pieces : Option (List Piece)) → Pieces b pieces → Pieces b (with_line_end ends pieces)
  ended_bits ends b None s = tt
  ended_bits ends b (Some pieces) s =
      list_all-append (piece_bits vs) pieces (line_end ends) ∙ (λ i. s i && end_bits ends i) ∙ sym (and_true b)

  line_says : (kind : Printing) (arguments : List ArgumentTree) → Says (λ l. list_all (piece_bits vs) l) (hold (used_in_arguments arguments)) (lower_line scope kind arguments)
  line_says kind arguments =
      subst (λ (uses : List Use). Says (λ l. list_all (piece_bits vs) l) (hold uses) (lower_line scope kind arguments)) (given_same used_in_arguments refl arguments)
      (last_says (λ l. list_all argument_bits l) (λ l. list_all (piece_bits vs) l) (hold (used_in_arguments (arguments_given arguments))) (lower_arguments scope (arguments_given arguments)) _ (arguments_say (arguments_given arguments)) (λ all. by (list_all argument_bits all) (pieces_of (default_form kind) (ends_line kind) all)
      (ended_bits (ends_line kind) (list_all argument_bits all) (pieces_by (default_form kind) [] [] all) (pieces_are (default_form kind) [] [] all))))
    where
      by : (b : Bool) (pieces : Option (List Piece)) → Pieces b pieces → Says (λ l. list_all (piece_bits vs) l) b (value_or_fault pieces Kind (first_argument arguments))
      by b None s = tt
      by b (Some pieces) s = s

  -- ---- assignments and delays

  amount_says : (amount : DelayTree) → Says (bits_in vs) (hold (used_in_delay amount)) (lower_amount scope amount)
  amount_says (by_number digits) = lower_says vs place scope h real false (text.number digits)
  amount_says (by_name letters) = lower_says vs place scope h real false (text.name letters)
  amount_says (by_value amount) = lower_says vs place scope h real false amount

  abbrev own_bits : Option ExpressionTree → Bool
  own_bits None = true
  own_bits (Some e) = bits_in vs e

  own_says : (amount : Option DelayTree) → Says own_bits (hold (used_in_own amount)) (lower_own_amount scope amount)
  own_says None = refl
  own_says (Some amount) = last_says (bits_in vs) own_bits (hold (used_in_delay amount)) (lower_amount scope amount) _ (amount_says amount) (λ e. refl)

  assignment_right : (blocking : Bool) (amount : Option ExpressionTree) (targets : List Target) (e : ExpressionTree) →
      is_right vs (assignment_action blocking amount targets e) ≡ (row targets && (own_bits amount && bits_in vs e))
  assignment_right blocking amount targets e = by blocking amount ∙ ap (λ (b : Bool). b && (own_bits amount && bits_in vs e)) (sym (row_is targets))
    where
      w : Bool
      w = writes_variables vs targets

      t : Bool
      t = list_all (target_bits vs) targets

      by : (b : Bool) (a : Option ExpressionTree) → is_right vs (assignment_action b a targets e) ≡ ((w && t) && (own_bits a && bits_in vs e))
      by true None = rows_first w true t (bits_in vs e)
      by true (Some a) = rows_first w (bits_in vs a) t (bits_in vs e)
      by false None = rows_first w true t (bits_in vs e)
      by false (Some a) = rows_first w (bits_in vs a) t (bits_in vs e)

  assignment_grows : (blocking : Bool) (table : Table) (target : TargetTree) (amount : Option DelayTree) (v : text.ExpressionTree) →
      Grows table (hold (used_in_assignment target amount v)) (lower_assignment blocking scope table target amount v)
  assignment_grows blocking table target amount v =
      split table (used_in_target target) (used_in_own amount ++ used_in false v) _
      (subst (λ (b : Bool). Grows table (hold (used_in_target target) && b) (lower_assignment blocking scope table target amount v)) (sym (list_all-append (is_suited_later place) (used_in_own amount) (used_in false v)))
      (through row of_lowered (λ d. all table && (d && (hold (used_in_own amount) && hold (used_in false v)))) (hold (used_in_target target)) (lower_target scope target) _ (target_says vs place scope h real false target) (λ targets.
      through own_bits of_lowered (λ d. all table && (row targets && (d && hold (used_in false v)))) (hold (used_in_own amount)) (lower_own_amount scope amount) _ (own_says amount) (λ own.
      through (bits_in vs) of_lowered (λ d. all table && (row targets && (own_bits own && d))) (hold (used_in false v)) (lower_expression scope v) _ (lower_says vs place scope h real false v) (λ e.
      acted table (assignment_action blocking own targets e) ∙ ap (λ (b : Bool). all table && b) (assignment_right blocking own targets e))))))

  -- ---- tasks

  selection_holds : (selection : Option SelectionTree) → hold (used_in_selection selection) ≡ true
  selection_holds None = refl
  selection_holds (Some selection) = refl

  task_grows : (table : Table) (call : TaskTree) → Grows table (hold (used_in_task call)) (lower_task scope table call)
  task_grows table (print kind arguments) =
      split table (used_in_arguments arguments) (use_of_formats arguments ∷ []) _
      (subst (λ (b : Bool). Grows table b (lower_task scope table (print kind arguments))) (and_true (hold (used_in_arguments arguments)))
      (through (λ l. list_all (piece_bits vs) l) of_lowered (λ d. all table && d) (hold (used_in_arguments arguments)) (lower_line scope kind arguments) _ (line_says kind arguments) (λ pieces. acted table _)))
  task_grows table (idle kind arguments) = acted table _
  task_grows table (dump_file letters) = acted table _
  task_grows table (dump_vars selection) = anyway table (hold (used_in_selection selection)) _ (selection_holds selection) (silent_says of_lowered (all table && true) (lower_selection scope selection) _ (λ chosen. acted table _))
  task_grows table (dump dumps.On) = acted table _
  task_grows table (dump dumps.Off) = acted table _
  task_grows table (dump dumps.All) = acted table _
  task_grows table (dump dumps.Flush) = acted table _
  task_grows table (end_run true digits) = acted table _
  task_grows table (end_run false digits) = acted table _

  -- ---- statements

  -- a test, a body, and an action that asks for the test
  tested : (table : Table) (c b : Bool) (a : Result ExpressionTree ElabFault) (body : Result Lowered ElabFault) (next : ExpressionTree → Lowered → Result Lowered ElabFault) → Says (bits_in vs) c a → Grows table b body →
      ((e : ExpressionTree) (inner : Lowered) → Says of_lowered (all inner.table && bits_in vs e) (next e inner)) → Grows table (c && b) (a >>= λ e. body >>= λ inner. next e inner)
  tested table c b a body next s t more =
      through (bits_in vs) of_lowered (λ d. all table && (d && b)) c a _ s (λ e.
      subst (λ (x : Bool). Says of_lowered x (body >>= λ inner. next e inner)) (test_behind (all table) (bits_in vs e) b)
      (through of_lowered of_lowered (λ d. d && bits_in vs e) (all table && b) body _ t (λ inner. more e inner)))

  labels_say : (places : List ℕ) (items : text.ExpressionTrees) → Says (λ l. list_all (branch_bits vs) l) (hold (used_in_parts false items)) (lower_labels scope places items)
  labels_say places text.none = refl
  labels_say places (text.first item more) =
      subst (λ (b : Bool). Says (λ l. list_all (branch_bits vs) l) b (lower_labels scope places (text.first item more))) (sym (list_all-append (is_suited_later place) (used_in false item) (used_in_parts false more)))
      (then_says (λ l. list_all (branch_bits vs) l) (λ l. list_all (branch_bits vs) l) (hold (used_in false item)) (hold (used_in_parts false more)) (lower_label scope places item) _
      (last_says (bits_in vs) (λ l. list_all (branch_bits vs) l) (hold (used_in false item)) (lower_expression scope item) _ (lower_says vs place scope h real false item) (λ e. sym (and_true (bits_in vs e)))) (λ front.
      front_says (λ l. list_all (branch_bits vs) l) (λ l. list_all (branch_bits vs) l) (list_all (branch_bits vs) front) (hold (used_in_parts false more)) (lower_labels scope places more) _ (labels_say places more) (λ others.
      list_all-append (branch_bits vs) front others)))

  mutual
    statement_grows : (table : Table) (statement : StatementTree) → Grows table (hold (used_by statement)) (lower_statement scope table statement)
    statement_grows table empty = and_true (all table)
    statement_grows table (block label statements) = all_grow table statements
    statement_grows table (assign target amount v) = assignment_grows true table target amount v
    statement_grows table (nonblocking target amount v) = assignment_grows false table target amount v
    statement_grows table (trigger letters) =
        anyway table (hold (use_of Triggered false letters ∷ [])) _ (λ i. triggered_holds (thing_of place letters) i && true) (silent_says of_lowered (all table && true) (lower_event scope letters) _ (λ number. acted table _))
    statement_grows table (if_true condition body) =
        split table (used_in false condition) (used_by body) _ (tested table (hold (used_in false condition)) (hold (used_by body)) (lower_expression scope condition) (lower_statement scope table body) _
        (lower_says vs place scope h real false condition) (statement_grows table body) (λ test inner. acted inner.table _))
    statement_grows table (if_else condition body other) =
        split table (used_in false condition) (used_by body ++ used_by other) _
        (subst (λ (b : Bool). Grows table (hold (used_in false condition) && b) (lower_statement scope table (if_else condition body other))) (sym (list_all-append (is_suited_later place) (used_by body) (used_by other)))
        (through (bits_in vs) of_lowered (λ d. all table && (d && (hold (used_by body) && hold (used_by other)))) (hold (used_in false condition)) (lower_expression scope condition) _ (lower_says vs place scope h real false condition) (λ test.
        reorder of_lowered _ (test_behind_two (all table) (bits_in vs test) (hold (used_by body)) (hold (used_by other)))
        (through of_lowered of_lowered (λ d. (d && hold (used_by other)) && bits_in vs test) (all table && hold (used_by body)) (lower_statement scope table body) _ (statement_grows table body) (λ one.
        through of_lowered of_lowered (λ d. d && bits_in vs test) (all one.table && hold (used_by other)) (lower_statement scope one.table other) _ (statement_grows one.table other) (λ two. acted two.table _))))))
    statement_grows table (case_of kind v branches) =
        split table (used_in false v) (used_by_branches branches) _
        (through (bits_in vs) of_lowered (λ d. all table && (d && hold (used_by_branches branches))) (hold (used_in false v)) (lower_expression scope v) _ (lower_says vs place scope h real false v) (λ e.
        reorder of_lowered _ (test_behind (all table) (bits_in vs e) (hold (used_by_branches branches)))
        (through of_branches of_lowered (λ d. d && bits_in vs e) (all table && hold (used_by_branches branches)) (lower_branches scope table branches) _ (branches_grow table branches) (λ inner.
        acted inner.table (Case kind e inner.branches inner.otherwise) ∙ sym (test_behind (all inner.table) (bits_in vs e) (list_all (branch_bits vs) inner.branches))))))
    statement_grows table (while_true condition body) =
        split table (used_in false condition) (used_by body) _ (tested table (hold (used_in false condition)) (hold (used_by body)) (lower_expression scope condition) (lower_statement scope table body) _
        (lower_says vs place scope h real false condition) (statement_grows table body) (λ test inner. acted inner.table _))
    statement_grows table (repeat_times count body) =
        split table (used_in false count) (used_by body) _ (tested table (hold (used_in false count)) (hold (used_by body)) (lower_expression scope count) (lower_statement scope table body) _
        (lower_says vs place scope h real false count) (statement_grows table body) (λ turns inner. acted inner.table _))
    statement_grows table (forever body) =
        last_says of_lowered of_lowered (all table && hold (used_by body)) (lower_statement scope table body) _ (statement_grows table body) (λ inner. acted inner.table (Forever inner.places) ∙ sym (and_true (all inner.table)))
    statement_grows table (for_loop target v condition next_target next_value body) =
        let c = hold (used_in false condition) in
        let b = hold (used_by body) in
        let n = hold (used_in_assignment next_target None next_value) in
        split table (used_in_assignment target None v) (used_in false condition ++ (used_by body ++ used_in_assignment next_target None next_value)) _
        (subst (λ (x : Bool). Grows table (hold (used_in_assignment target None v) && x) (lower_statement scope table (for_loop target v condition next_target next_value body)))
        (ap (λ (x : Bool). c && x) (sym (list_all-append (is_suited_later place) (used_by body) (used_in_assignment next_target None next_value)))
        ∙ sym (list_all-append (is_suited_later place) (used_in false condition) (used_by body ++ used_in_assignment next_target None next_value)))
        (subst (λ (x : Bool). Says of_lowered x (lower_statement scope table (for_loop target v condition next_target next_value body))) (and_assoc (all table) (hold (used_in_assignment target None v)) (c && (b && n)))
        (through of_lowered of_lowered (λ d. d && (c && (b && n))) (all table && hold (used_in_assignment target None v)) (lower_assignment true scope table target None v) _ (assignment_grows true table target None v) (λ begun.
        placed (all begun.table && (c && (b && n))) begun.places _
        (through (bits_in vs) of_lowered (λ d. all begun.table && (d && (b && n))) c (lower_expression scope condition) _ (lower_says vs place scope h real false condition) (λ test.
        reorder of_lowered _ (test_behind_two (all begun.table) (bits_in vs test) b n)
        (through of_lowered of_lowered (λ d. (d && n) && bits_in vs test) (all begun.table && b) (lower_statement scope begun.table body) _ (statement_grows begun.table body) (λ inner.
        through of_lowered of_lowered (λ d. d && bits_in vs test) (all inner.table && n) (with_places_before inner.places (lower_assignment true scope inner.table next_target None next_value)) _
        (placed (all inner.table && n) inner.places (lower_assignment true scope inner.table next_target None next_value) (assignment_grows true inner.table next_target None next_value)) (λ turn. acted turn.table _)))))))))
    statement_grows table (wait_for condition body) =
        split table (used_in false condition) (used_by body) _ (tested table (hold (used_in false condition)) (hold (used_by body)) (lower_expression scope condition) (lower_statement scope table body) _
        (lower_says vs place scope h real false condition) (statement_grows table body) (λ test inner. acted inner.table _))
    statement_grows table (delay amount body) =
        split table (used_in_delay amount) (used_by body) _ (tested table (hold (used_in_delay amount)) (hold (used_by body)) (lower_amount scope amount) (lower_statement scope table body) _
        (amount_says amount) (statement_grows table body) (λ e inner. acted inner.table _))
    statement_grows table (event control body) =
        split table (used_in_control control) (used_by body) _
        (subst (λ (x : Bool). Grows table (x && hold (used_by body)) (lower_statement scope table (event control body))) (sym (control_holds control))
        (silent_says of_lowered (all table && hold (used_by body)) (lower_control scope control body) _ (λ terms.
        last_says of_lowered of_lowered (all table && hold (used_by body)) (lower_statement scope table body) _ (statement_grows table body) (λ inner. acted inner.table (EventControl terms inner.places) ∙ sym (and_true (all inner.table))))))
    statement_grows table (task call) = task_grows table call

    all_grow : (table : Table) (statements : StatementTrees) → Grows table (hold (used_by_all statements)) (lower_all scope table statements)
    all_grow table no_statement = and_true (all table)
    all_grow table (first_statement statement rest) =
        split table (used_by statement) (used_by_all rest) _
        (subst (λ (x : Bool). Says of_lowered x (lower_all scope table (first_statement statement rest))) (and_assoc (all table) (hold (used_by statement)) (hold (used_by_all rest)))
        (through of_lowered of_lowered (λ d. d && hold (used_by_all rest)) (all table && hold (used_by statement)) (lower_statement scope table statement) _ (statement_grows table statement) (λ front.
        placed (all front.table && hold (used_by_all rest)) front.places (lower_all scope front.table rest) (all_grow front.table rest))))

    branch_grows : (table : Table) (branch : BranchTree) → Says of_branches (all table && hold (used_by_branch branch)) (lower_branch scope table branch)
    branch_grows table (labelled items body) =
        subst (λ (x : Bool). Says of_branches x (lower_branch scope table (labelled items body)))
        (and_assoc (all table) (hold (used_by body)) (hold (used_in_parts false items)) ∙ ap (λ (x : Bool). all table && x) (sym (list_all-append (is_suited_later place) (used_by body) (used_in_parts false items))))
        (through of_lowered of_branches (λ d. d && hold (used_in_parts false items)) (all table && hold (used_by body)) (lower_statement scope table body) _ (statement_grows table body) (λ inner.
        through (λ l. list_all (branch_bits vs) l) of_branches (λ d. all inner.table && d) (hold (used_in_parts false items)) (lower_labels scope inner.places items) _ (labels_say inner.places items) (λ branches. refl)))
    branch_grows table (default colon body) =
        last_says of_lowered of_branches (all table && hold (used_by body)) (lower_statement scope table body) _ (statement_grows table body) (λ inner. sym (and_true (all inner.table)))

    branches_grow : (table : Table) (branches : BranchTrees) → Says of_branches (all table && hold (used_by_branches branches)) (lower_branches scope table branches)
    branches_grow table no_branch = refl
    branches_grow table (first_branch branch rest) =
        subst (λ (x : Bool). Says of_branches x (lower_branches scope table (first_branch branch rest)))
        (and_assoc (all table) (hold (used_by_branch branch)) (hold (used_by_branches rest)) ∙ ap (λ (x : Bool). all table && x) (sym (list_all-append (is_suited_later place) (used_by_branch branch) (used_by_branches rest))))
        (through of_branches of_branches (λ d. d && hold (used_by_branches rest)) (all table && hold (used_by_branch branch)) (lower_branch scope table branch) _ (branch_grows table branch) (λ front.
        reorder of_branches _ (by_front (all front.table) (list_all (branch_bits vs) front.branches) (hold (used_by_branches rest)))
        (through of_branches of_branches (λ d. d && list_all (branch_bits vs) front.branches) (all front.table && hold (used_by_branches rest)) (lower_branches scope front.table rest) _ (branches_grow front.table rest) (λ others.
        ap (λ (x : Bool). all others.table && x) (list_all-append (branch_bits vs) front.branches others.branches) ∙ sym (test_behind (all others.table) (list_all (branch_bits vs) front.branches) (list_all (branch_bits vs) others.branches))))))
      where
        by_front : (t b r : Bool) → ((t && r) && b) ≡ ((t && b) && r)
        by_front t b r = test_behind t b r ∙ sym (and_assoc t b r)

  -- ---- processes

  abbrev of_processes : Processes → Bool
  of_processes p = all p.table

  process_grows : (table : Table) (process : ProcessTree) → Grows table (hold (used_by_process process)) (lower_process scope table process)
  process_grows table (procedural statement) = statement_grows table statement
  process_grows table (continuous target v) =
      split table (used_in_target_by true target) (used_in false v) _
      (through (row_right vs true) of_lowered (λ d. all table && (d && hold (used_in false v))) (hold (used_in_target_by true target)) (lower_net_target scope target) _ (target_says vs place scope h real true target) (λ targets.
      through (bits_in vs) of_lowered (λ d. all table && (row_right vs true targets && d)) (hold (used_in false v)) (lower_expression scope v) _ (lower_says vs place scope h real false v) (λ e.
      acted table _ ∙ ap (λ (b : Bool). all table && b) (driven_right vs targets e))))

  begun : (b : Bool) (before : List (List ℕ)) (a : Result Processes ElabFault) → Says of_processes b a → Says of_processes b (with_begins_before before a)
  begun b before a s = last_says of_processes of_processes b a _ s (λ processes. refl)

  pub processes_grow : (table : Table) (list : List ProcessTree) → Says of_processes (all table && hold (used_by_processes list)) (lower_processes scope table list)
  processes_grow table [] = and_true (all table)
  processes_grow table (process ∷ rest) =
      subst (λ (x : Bool). Says of_processes x (lower_processes scope table (process ∷ rest)))
      (and_assoc (all table) (hold (used_by_process process)) (hold (used_by_processes rest)) ∙ ap (λ (x : Bool). all table && x) (sym (list_all-append (is_suited_later place) (used_by_process process) (used_by_processes rest))))
      (through of_lowered of_processes (λ d. d && hold (used_by_processes rest)) (all table && hold (used_by_process process)) (lower_process scope table process) _ (process_grows table process) (λ front.
      begun (all front.table && hold (used_by_processes rest)) (front.places ∷ []) (lower_processes scope front.table rest) (processes_grow front.table rest)))
