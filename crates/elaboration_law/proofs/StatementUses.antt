-- Names that statements and processes use: lowered, a question holds of each; and where its rule is told, it doesn't of one.
use Rattle.std.proofs.Common.{ℕ, Bool, true, false, List, [], ◌∷◌, ◌++◌, Option, Some, None, Result, refl, subst}
use Rattle.vast.specs.NumberedWords.{Word}
use Rattle.vast.specs.NumberedExpressions as text
use Rattle.vast.specs.NumberedStatements.{TargetTree, ArgumentTree, quoted, printed, left_out, TaskTree, print, idle, dump_file, dump_vars, dump, end_run, DelayTree, by_number, by_name, by_value, FurtherTerm, EventTree, by_event, by_any, by_any_enclosed, by_terms, StatementTree, StatementTrees, empty, block, assign, nonblocking, trigger, if_true, if_else, case_of, while_true, repeat_times, forever, for_loop, wait_for, delay, event, task, no_statement, first_statement, BranchTree, BranchTrees, labelled, default, no_branch, first_branch}
use Rattle.vdesign.specs.declared.action.Edge.{Edge}
use Rattle.vdesign.specs.declared.action.Edge.TheVariants.{Any}
use Rattle.format_text.specs.Pieces.{pieces_of}
use Rattle.velab_expr.specs.declared.fault.Rule.TheVariants.{Kind}
use Rattle.velab_expr.specs.declared.fault.ElabFault.{ElabFault}
use Rattle.velab_expr.specs.Answers.{value_or_fault}
use Rattle.velab_expr.specs.FirstWords.{first_argument}
use Rattle.velab_expr.specs.Scopes.{Scope, lower_event}
use Rattle.velab_expr.specs.Resolved.{lower_expression}
use Rattle.velab_expr.specs.Written.{lower_target, lower_net_target}
use Rattle.velab_expr.specs.Selections.{lower_selection}
use Rattle.velab_process.specs.Waits.{edge_of, lower_term, lower_further, lower_control}
use Rattle.velab_process.specs.Prints.{default_form, ends_line, arguments_given, lower_argument, lower_arguments, lower_line}
use Rattle.velab_process.proofs.LineLemmas.{given_same}
use Rattle.vast.specs.declared.statement.Printing.{Printing}
use Rattle.velab_process.specs.Statements.{Table, Lowered, with_places_before, lower_amount, lower_own_amount, lower_assignment, lower_task, lower_label, lower_labels, lower_statement, lower_all, lower_branch, lower_branches}
use Rattle.velab_process.specs.Processes.{ProcessTree, procedural, continuous, Processes, with_begins_before, lower_process, lower_processes}
use Rattle.elaboration_law.specs.Uses.{Use, Triggered, Awaited, use_of, use_of_formats, used_in_selection, used_in, used_in_parts, used_in_target, used_in_target_by, used_in_delay, used_in_own, used_in_assignment, used_in_further, used_in_control, used_in_argument, used_in_arguments, used_in_task, used_by, used_by_all, used_by_branch, used_by_branches, used_by_process, used_by_processes}
use Rattle.elaboration_law.proofs.UseLemmas.{known_judges, Question, Fits, both, last, single}
use Rattle.elaboration_law.proofs.ExpressionUses.{event_knows, expression_knows, target_knows, selection_knows}

module _ (q : Question) (scope : Scope) where
  -- ---- waits

  term_knows : (edge : Edge) (name : Word) → Fits q scope (use_of (Awaited edge) false name ∷ []) (lower_term scope edge name)
  term_knows edge name = single q scope (use_of (Awaited edge) false name) (lower_term scope edge name) (q.of_term scope edge name)

  further_knows : (list : List FurtherTerm) → Fits q scope (used_in_further list) (lower_further scope list)
  further_knows [] = refl
  further_knows (one ∷ more) =
      both q scope (use_of (Awaited (edge_of one.term.edge)) false one.term.name ∷ []) (used_in_further more) (lower_term scope (edge_of one.term.edge) one.term.name) _ (term_knows (edge_of one.term.edge) one.term.name) (λ front.
      last q scope (used_in_further more) (lower_further scope more) _ (further_knows more) (λ others. refl))

  control_knows : (control : EventTree) (body : StatementTree) → Fits q scope (used_in_control control) (lower_control scope control body)
  control_knows (by_event letters) body = term_knows Any letters
  control_knows by_any body = refl
  control_knows by_any_enclosed body = refl
  control_knows (by_terms term further) body =
      both q scope (use_of (Awaited (edge_of term.edge)) false term.name ∷ []) (used_in_further further) (lower_term scope (edge_of term.edge) term.name) _ (term_knows (edge_of term.edge) term.name) (λ front.
      last q scope (used_in_further further) (lower_further scope further) _ (further_knows further) (λ others. refl))

  -- ---- tasks

  argument_knows : (argument : ArgumentTree) → Fits q scope (used_in_argument argument) (lower_argument scope argument)
  argument_knows (quoted letters) = refl
  argument_knows (printed tree) = last q scope (used_in false tree) (lower_expression scope tree) _ (expression_knows q scope tree) (λ e. refl)
  argument_knows left_out = refl

  arguments_know : (list : List ArgumentTree) → Fits q scope (used_in_arguments list) (lower_arguments scope list)
  arguments_know [] = refl
  arguments_know (one ∷ more) =
      both q scope (used_in_argument one) (used_in_arguments more) (lower_argument scope one) _ (argument_knows one) (λ argument.
      last q scope (used_in_arguments more) (lower_arguments scope more) _ (arguments_know more) (λ others. refl))

  line_knows : (kind : Printing) (arguments : List ArgumentTree) → Fits q scope (used_in_arguments arguments ++ use_of_formats arguments ∷ []) (lower_line scope kind arguments)
  line_knows kind arguments =
      subst (λ (uses : List Use). Fits q scope (uses ++ use_of_formats arguments ∷ []) (lower_line scope kind arguments)) (given_same used_in_arguments refl arguments)
      (known_judges q.asked (q.fits scope) (used_in_arguments (arguments_given arguments)) (use_of_formats arguments ∷ []) (lower_arguments scope (arguments_given arguments)) _ (arguments_know (arguments_given arguments)) (λ all is.
      single q scope (use_of_formats arguments) (value_or_fault (pieces_of (default_form kind) (ends_line kind) all) Kind (first_argument arguments))
      (q.of_formats scope (default_form kind) (ends_line kind) arguments all is)))

  task_knows : (table : Table) (call : TaskTree) → Fits q scope (used_in_task call) (lower_task scope table call)
  task_knows table (print kind arguments) = last q scope (used_in_arguments arguments ++ use_of_formats arguments ∷ []) (lower_line scope kind arguments) _ (line_knows kind arguments) (λ pieces. refl)
  task_knows table (idle kind arguments) = refl
  task_knows table (dump_file letters) = refl
  task_knows table (dump_vars selection) = last q scope (used_in_selection selection) (lower_selection scope selection) _ (selection_knows q scope selection) (λ chosen. refl)
  task_knows table (dump kind) = refl
  task_knows table (end_run stops digits) = refl

  -- ---- statements

  amount_knows : (amount : DelayTree) → Fits q scope (used_in_delay amount) (lower_amount scope amount)
  amount_knows (by_number digits) = expression_knows q scope (text.number digits)
  amount_knows (by_name letters) = expression_knows q scope (text.name letters)
  amount_knows (by_value amount) = expression_knows q scope amount

  own_amount_knows : (amount : Option DelayTree) → Fits q scope (used_in_own amount) (lower_own_amount scope amount)
  own_amount_knows None = refl
  own_amount_knows (Some amount) = last q scope (used_in_delay amount) (lower_amount scope amount) _ (amount_knows amount) (λ e. refl)

  assignment_knows : (blocking : Bool) (table : Table) (target : TargetTree) (amount : Option DelayTree) (value : text.ExpressionTree) →
      Fits q scope (used_in_assignment target amount value) (lower_assignment blocking scope table target amount value)
  assignment_knows blocking table target amount value =
      both q scope (used_in_target target) (used_in_own amount ++ used_in false value) (lower_target scope target) _ (target_knows q scope false target) (λ targets.
      both q scope (used_in_own amount) (used_in false value) (lower_own_amount scope amount) _ (own_amount_knows amount) (λ delay.
      last q scope (used_in false value) (lower_expression scope value) _ (expression_knows q scope value) (λ e. refl)))

  placed_knows : (uses : List Use) (places : List ℕ) (a : Result Lowered ElabFault) → Fits q scope uses a → Fits q scope uses (with_places_before places a)
  placed_knows uses places a h = last q scope uses a _ h (λ lowered. refl)

  labels_know : (places : List ℕ) (items : text.ExpressionTrees) → Fits q scope (used_in_parts false items) (lower_labels scope places items)
  labels_know places text.none = refl
  labels_know places (text.first item more) =
      both q scope (used_in false item) (used_in_parts false more) (lower_label scope places item) _ (last q scope (used_in false item) (lower_expression scope item) _ (expression_knows q scope item) (λ e. refl)) (λ front.
      last q scope (used_in_parts false more) (lower_labels scope places more) _ (labels_know places more) (λ others. refl))

  mutual
    statement_knows : (table : Table) (statement : StatementTree) → Fits q scope (used_by statement) (lower_statement scope table statement)
    statement_knows table empty = refl
    statement_knows table (block label statements) = all_know table statements
    statement_knows table (assign target amount value) = assignment_knows true table target amount value
    statement_knows table (nonblocking target amount value) = assignment_knows false table target amount value
    statement_knows table (trigger letters) = last q scope (use_of Triggered false letters ∷ []) (lower_event scope letters) _ (event_knows q scope letters) (λ number. refl)
    statement_knows table (if_true condition body) =
        both q scope (used_in false condition) (used_by body) (lower_expression scope condition) _ (expression_knows q scope condition) (λ test.
        last q scope (used_by body) (lower_statement scope table body) _ (statement_knows table body) (λ inner. refl))
    statement_knows table (if_else condition body other) =
        both q scope (used_in false condition) (used_by body ++ used_by other) (lower_expression scope condition) _ (expression_knows q scope condition) (λ test.
        both q scope (used_by body) (used_by other) (lower_statement scope table body) _ (statement_knows table body) (λ one.
        last q scope (used_by other) (lower_statement scope one.table other) _ (statement_knows one.table other) (λ two. refl)))
    statement_knows table (case_of kind value branches) =
        both q scope (used_in false value) (used_by_branches branches) (lower_expression scope value) _ (expression_knows q scope value) (λ e.
        last q scope (used_by_branches branches) (lower_branches scope table branches) _ (branches_know table branches) (λ inner. refl))
    statement_knows table (while_true condition body) =
        both q scope (used_in false condition) (used_by body) (lower_expression scope condition) _ (expression_knows q scope condition) (λ test.
        last q scope (used_by body) (lower_statement scope table body) _ (statement_knows table body) (λ inner. refl))
    statement_knows table (repeat_times count body) =
        both q scope (used_in false count) (used_by body) (lower_expression scope count) _ (expression_knows q scope count) (λ turns.
        last q scope (used_by body) (lower_statement scope table body) _ (statement_knows table body) (λ inner. refl))
    statement_knows table (forever body) = last q scope (used_by body) (lower_statement scope table body) _ (statement_knows table body) (λ inner. refl)
    statement_knows table (for_loop target value condition next_target next_value body) =
        both q scope (used_in_assignment target None value) (used_in false condition ++ (used_by body ++ used_in_assignment next_target None next_value))
        (lower_assignment true scope table target None value) _ (assignment_knows true table target None value) (λ begun.
        placed_knows (used_in false condition ++ (used_by body ++ used_in_assignment next_target None next_value)) begun.places _
        (both q scope (used_in false condition) (used_by body ++ used_in_assignment next_target None next_value) (lower_expression scope condition) _ (expression_knows q scope condition) (λ test.
        both q scope (used_by body) (used_in_assignment next_target None next_value) (lower_statement scope begun.table body) _ (statement_knows begun.table body) (λ inner.
        last q scope (used_in_assignment next_target None next_value) (with_places_before inner.places (lower_assignment true scope inner.table next_target None next_value)) _
        (placed_knows (used_in_assignment next_target None next_value) inner.places (lower_assignment true scope inner.table next_target None next_value) (assignment_knows true inner.table next_target None next_value))
        (λ turn. refl)))))
    statement_knows table (wait_for condition body) =
        both q scope (used_in false condition) (used_by body) (lower_expression scope condition) _ (expression_knows q scope condition) (λ test.
        last q scope (used_by body) (lower_statement scope table body) _ (statement_knows table body) (λ inner. refl))
    statement_knows table (delay amount body) =
        both q scope (used_in_delay amount) (used_by body) (lower_amount scope amount) _ (amount_knows amount) (λ e.
        last q scope (used_by body) (lower_statement scope table body) _ (statement_knows table body) (λ inner. refl))
    statement_knows table (event control body) =
        both q scope (used_in_control control) (used_by body) (lower_control scope control body) _ (control_knows control body) (λ terms.
        last q scope (used_by body) (lower_statement scope table body) _ (statement_knows table body) (λ inner. refl))
    statement_knows table (task call) = task_knows table call

    all_know : (table : Table) (statements : StatementTrees) → Fits q scope (used_by_all statements) (lower_all scope table statements)
    all_know table no_statement = refl
    all_know table (first_statement statement rest) =
        both q scope (used_by statement) (used_by_all rest) (lower_statement scope table statement) _ (statement_knows table statement) (λ front.
        placed_knows (used_by_all rest) front.places (lower_all scope front.table rest) (all_know front.table rest))

    branch_knows : (table : Table) (branch : BranchTree) → Fits q scope (used_by_branch branch) (lower_branch scope table branch)
    branch_knows table (labelled items body) =
        both q scope (used_by body) (used_in_parts false items) (lower_statement scope table body) _ (statement_knows table body) (λ inner.
        last q scope (used_in_parts false items) (lower_labels scope inner.places items) _ (labels_know inner.places items) (λ branches. refl))
    branch_knows table (default colon body) = last q scope (used_by body) (lower_statement scope table body) _ (statement_knows table body) (λ inner. refl)

    branches_know : (table : Table) (branches : BranchTrees) → Fits q scope (used_by_branches branches) (lower_branches scope table branches)
    branches_know table no_branch = refl
    branches_know table (first_branch branch rest) =
        both q scope (used_by_branch branch) (used_by_branches rest) (lower_branch scope table branch) _ (branch_knows table branch) (λ front.
        last q scope (used_by_branches rest) (lower_branches scope front.table rest) _ (branches_know front.table rest) (λ others. refl))

  -- ---- processes

  process_knows : (table : Table) (process : ProcessTree) → Fits q scope (used_by_process process) (lower_process scope table process)
  process_knows table (procedural statement) = statement_knows table statement
  process_knows table (continuous target value) =
      both q scope (used_in_target_by true target) (used_in false value) (lower_net_target scope target) _ (target_knows q scope true target) (λ targets.
      last q scope (used_in false value) (lower_expression scope value) _ (expression_knows q scope value) (λ e. refl))

  begun_knows : (uses : List Use) (before : List (List ℕ)) (a : Result Processes ElabFault) → Fits q scope uses a → Fits q scope uses (with_begins_before before a)
  begun_knows uses before a h = last q scope uses a _ h (λ processes. refl)

  pub processes_know : (table : Table) (list : List ProcessTree) → Fits q scope (used_by_processes list) (lower_processes scope table list)
  processes_know table [] = refl
  processes_know table (process ∷ rest) =
      both q scope (used_by_process process) (used_by_processes rest) (lower_process scope table process) _ (process_knows table process) (λ front.
      begun_knows (used_by_processes rest) (front.places ∷ []) (lower_processes scope front.table rest) (processes_know front.table rest))
