-- The rules that statements and processes tell.
use Rattle.std.proofs.Common.{ℕ, Bool, true, false, if◌then◌else◌, List, [], ◌∷◌, Option, Some, None, Result, refl}
use Rattle.vast.specs.NumberedWords.{Word}
use Rattle.vast.specs.NumberedExpressions as text
use Rattle.vast.specs.NumberedStatements.{TargetTree, whole, ArgumentTree, quoted, printed, left_out, TaskTree, print, idle, dump_file, dump_vars, dump, end_run, DelayTree, by_number, by_name, by_value, FurtherTerm, EventTree, by_event, by_any, by_any_enclosed, by_terms, StatementTree, StatementTrees, empty, block, assign, nonblocking, trigger, if_true, if_else, case_of, while_true, repeat_times, forever, for_loop, wait_for, delay, event, task, no_statement, first_statement, BranchTree, BranchTrees, labelled, default, no_branch, first_branch}
use Rattle.vast.specs.NumberedModules.{ItemTree}
use Rattle.vmodules.specs.Ports.{Port}
use Rattle.vmodules.specs.Connected.{NamedConnection, value_for}
use Rattle.vdesign.specs.declared.action.Edge.{Edge}
use Rattle.vdesign.specs.declared.action.Edge.TheVariants.{Any, Rise, Fall}
use Rattle.format_text.specs.Pieces.{pieces_of}
use Rattle.velab_expr.specs.declared.fault.Rule.{Rule}
use Rattle.velab_expr.specs.declared.fault.Rule.TheVariants.{Kind}
use Rattle.velab_expr.specs.declared.fault.ElabFault.{ElabFault}
use Rattle.velab_expr.specs.declared.scope.Meaning.{Meaning}
use Rattle.velab_expr.specs.declared.scope.Meaning.TheVariants.{Variable, Parameter, Event, Instance}
use Rattle.velab_expr.specs.FirstWords.{first_argument}
use Rattle.velab_expr.specs.Scopes.{Scope, meaning_of, lower_event}
use Rattle.velab_expr.specs.Symbols.{behind_item}
use Rattle.velab_expr.specs.Resolved.{lower_expression}
use Rattle.velab_expr.specs.Written.{lower_target, lower_net_target, target_of}
use Rattle.velab_expr.specs.Selections.{lower_selection}
use Rattle.velab_process.specs.Waits.{edge_of, term_by, lower_term, lower_further, lower_control}
use Rattle.velab_process.specs.Prints.{default_form, ends_line, arguments_given, lower_argument, lower_arguments, lower_line}
use Rattle.vast.specs.declared.statement.Printing.{Printing}
use Rattle.velab_process.specs.Statements.{Table, Lowered, with_places_before, lower_amount, lower_own_amount, lower_assignment, lower_task, lower_label, lower_labels, lower_statement, lower_all, lower_branch, lower_branches}
use Rattle.velab_process.specs.Processes.{ProcessTree, procedural, continuous, Processes, with_begins_before, lower_process, lower_processes, process_trees_by, lower_items}
use Rattle.velab_process.specs.Connections.{lower_input, lower_output, lower_connection, lower_join, lower_joins}
use Rattle.elaboration_law.proofs.ToldLemmas.{Tells, is_local, is_of_connections, local_connections, wider, then_tells, found_tells}
use Rattle.elaboration_law.proofs.ExpressionRules.{event_tells, expression_tells, target_tells, selection_tells}

-- ---- waits

term_tells : (scope : Scope) (edge : Edge) (name : Word) → Tells is_local (lower_term scope edge name)
term_tells scope edge name = by edge (meaning_of scope name)
  where
    by : (edge : Edge) (meaning : Option Meaning) → Tells is_local (term_by edge name meaning)
    by edge None = refl
    by edge (Some (Variable number)) = tt
    by edge (Some (Parameter value bounds before)) = refl
    by Any (Some (Event number)) = tt
    by Rise (Some (Event number)) = refl
    by Fall (Some (Event number)) = refl
    by edge (Some Instance) = refl

further_tells : (scope : Scope) (list : List FurtherTerm) → Tells is_local (lower_further scope list)
further_tells scope [] = tt
further_tells scope (one ∷ more) =
    then_tells is_local (lower_term scope (edge_of one.term.edge) one.term.name) _ (term_tells scope (edge_of one.term.edge) one.term.name) (λ front.
    then_tells is_local (lower_further scope more) _ (further_tells scope more) (λ others. tt))

control_tells : (scope : Scope) (control : EventTree) (body : StatementTree) → Tells is_local (lower_control scope control body)
control_tells scope (by_event letters) body = term_tells scope Any letters
control_tells scope by_any body = tt
control_tells scope by_any_enclosed body = tt
control_tells scope (by_terms term further) body =
    then_tells is_local (lower_term scope (edge_of term.edge) term.name) _ (term_tells scope (edge_of term.edge) term.name) (λ front.
    then_tells is_local (lower_further scope further) _ (further_tells scope further) (λ others. tt))

-- ---- tasks

argument_tells : (scope : Scope) (argument : ArgumentTree) → Tells is_local (lower_argument scope argument)
argument_tells scope (quoted letters) = tt
argument_tells scope (printed tree) = then_tells is_local (lower_expression scope tree) _ (expression_tells scope tree) (λ e. tt)
argument_tells scope left_out = tt

arguments_tell : (scope : Scope) (list : List ArgumentTree) → Tells is_local (lower_arguments scope list)
arguments_tell scope [] = tt
arguments_tell scope (one ∷ more) =
    then_tells is_local (lower_argument scope one) _ (argument_tells scope one) (λ argument.
    then_tells is_local (lower_arguments scope more) _ (arguments_tell scope more) (λ others. tt))

line_tells : (scope : Scope) (kind : Printing) (arguments : List ArgumentTree) → Tells is_local (lower_line scope kind arguments)
line_tells scope kind arguments =
    then_tells is_local (lower_arguments scope (arguments_given arguments)) _ (arguments_tell scope (arguments_given arguments)) (λ all. found_tells is_local (pieces_of (default_form kind) (ends_line kind) all) Kind (first_argument arguments) refl)

task_tells : (scope : Scope) (table : Table) (call : TaskTree) → Tells is_local (lower_task scope table call)
task_tells scope table (print kind arguments) = then_tells is_local (lower_line scope kind arguments) _ (line_tells scope kind arguments) (λ pieces. tt)
task_tells scope table (idle kind arguments) = tt
task_tells scope table (dump_file letters) = tt
task_tells scope table (dump_vars selection) = then_tells is_local (lower_selection scope selection) _ (selection_tells scope selection) (λ chosen. tt)
task_tells scope table (dump kind) = tt
task_tells scope table (end_run stops digits) = tt

-- ---- statements

amount_tells : (scope : Scope) (amount : DelayTree) → Tells is_local (lower_amount scope amount)
amount_tells scope (by_number digits) = expression_tells scope (text.number digits)
amount_tells scope (by_name letters) = expression_tells scope (text.name letters)
amount_tells scope (by_value amount) = expression_tells scope amount

own_amount_tells : (scope : Scope) (amount : Option DelayTree) → Tells is_local (lower_own_amount scope amount)
own_amount_tells scope None = tt
own_amount_tells scope (Some amount) = then_tells is_local (lower_amount scope amount) _ (amount_tells scope amount) (λ e. tt)

assignment_tells : (blocking : Bool) (scope : Scope) (table : Table) (target : TargetTree) (amount : Option DelayTree) (value : text.ExpressionTree) →
    Tells is_local (lower_assignment blocking scope table target amount value)
assignment_tells blocking scope table target amount value =
    then_tells is_local (lower_target scope target) _ (target_tells false scope target) (λ targets.
    then_tells is_local (lower_own_amount scope amount) _ (own_amount_tells scope amount) (λ delay.
    then_tells is_local (lower_expression scope value) _ (expression_tells scope value) (λ e. tt)))

placed_tells : (places : List ℕ) (a : Result Lowered ElabFault) → Tells is_local a → Tells is_local (with_places_before places a)
placed_tells places a h = then_tells is_local a _ h (λ lowered. tt)

labels_tell : (scope : Scope) (places : List ℕ) (items : text.ExpressionTrees) → Tells is_local (lower_labels scope places items)
labels_tell scope places text.none = tt
labels_tell scope places (text.first item more) =
    then_tells is_local (lower_label scope places item) _ (then_tells is_local (lower_expression scope item) _ (expression_tells scope item) (λ e. tt)) (λ front.
    then_tells is_local (lower_labels scope places more) _ (labels_tell scope places more) (λ others. tt))

mutual
  statement_tells : (scope : Scope) (table : Table) (statement : StatementTree) → Tells is_local (lower_statement scope table statement)
  statement_tells scope table empty = tt
  statement_tells scope table (block label statements) = all_tell scope table statements
  statement_tells scope table (assign target amount value) = assignment_tells true scope table target amount value
  statement_tells scope table (nonblocking target amount value) = assignment_tells false scope table target amount value
  statement_tells scope table (trigger letters) = then_tells is_local (lower_event scope letters) _ (event_tells scope letters) (λ number. tt)
  statement_tells scope table (if_true condition body) =
      then_tells is_local (lower_expression scope condition) _ (expression_tells scope condition) (λ test.
      then_tells is_local (lower_statement scope table body) _ (statement_tells scope table body) (λ inner. tt))
  statement_tells scope table (if_else condition body other) =
      then_tells is_local (lower_expression scope condition) _ (expression_tells scope condition) (λ test.
      then_tells is_local (lower_statement scope table body) _ (statement_tells scope table body) (λ one.
      then_tells is_local (lower_statement scope one.table other) _ (statement_tells scope one.table other) (λ two. tt)))
  statement_tells scope table (case_of kind value branches) =
      then_tells is_local (lower_expression scope value) _ (expression_tells scope value) (λ e.
      then_tells is_local (lower_branches scope table branches) _ (branches_tell scope table branches) (λ inner. tt))
  statement_tells scope table (while_true condition body) =
      then_tells is_local (lower_expression scope condition) _ (expression_tells scope condition) (λ test.
      then_tells is_local (lower_statement scope table body) _ (statement_tells scope table body) (λ inner. tt))
  statement_tells scope table (repeat_times count body) =
      then_tells is_local (lower_expression scope count) _ (expression_tells scope count) (λ turns.
      then_tells is_local (lower_statement scope table body) _ (statement_tells scope table body) (λ inner. tt))
  statement_tells scope table (forever body) = then_tells is_local (lower_statement scope table body) _ (statement_tells scope table body) (λ inner. tt)
  statement_tells scope table (for_loop target value condition next_target next_value body) =
      then_tells is_local (lower_assignment true scope table target None value) _ (assignment_tells true scope table target None value) (λ begun.
      placed_tells begun.places _
      (then_tells is_local (lower_expression scope condition) _ (expression_tells scope condition) (λ test.
      then_tells is_local (lower_statement scope begun.table body) _ (statement_tells scope begun.table body) (λ inner.
      then_tells is_local (with_places_before inner.places (lower_assignment true scope inner.table next_target None next_value)) _
      (placed_tells inner.places (lower_assignment true scope inner.table next_target None next_value) (assignment_tells true scope inner.table next_target None next_value))
      (λ turn. tt)))))
  statement_tells scope table (wait_for condition body) =
      then_tells is_local (lower_expression scope condition) _ (expression_tells scope condition) (λ test.
      then_tells is_local (lower_statement scope table body) _ (statement_tells scope table body) (λ inner. tt))
  statement_tells scope table (delay amount body) =
      then_tells is_local (lower_amount scope amount) _ (amount_tells scope amount) (λ e.
      then_tells is_local (lower_statement scope table body) _ (statement_tells scope table body) (λ inner. tt))
  statement_tells scope table (event control body) =
      then_tells is_local (lower_control scope control body) _ (control_tells scope control body) (λ terms.
      then_tells is_local (lower_statement scope table body) _ (statement_tells scope table body) (λ inner. tt))
  statement_tells scope table (task call) = task_tells scope table call

  all_tell : (scope : Scope) (table : Table) (statements : StatementTrees) → Tells is_local (lower_all scope table statements)
  all_tell scope table no_statement = tt
  all_tell scope table (first_statement statement rest) =
      then_tells is_local (lower_statement scope table statement) _ (statement_tells scope table statement) (λ front.
      placed_tells front.places (lower_all scope front.table rest) (all_tell scope front.table rest))

  branch_tells : (scope : Scope) (table : Table) (branch : BranchTree) → Tells is_local (lower_branch scope table branch)
  branch_tells scope table (labelled items body) =
      then_tells is_local (lower_statement scope table body) _ (statement_tells scope table body) (λ inner.
      then_tells is_local (lower_labels scope inner.places items) _ (labels_tell scope inner.places items) (λ branches. tt))
  branch_tells scope table (default colon body) = then_tells is_local (lower_statement scope table body) _ (statement_tells scope table body) (λ inner. tt)

  branches_tell : (scope : Scope) (table : Table) (branches : BranchTrees) → Tells is_local (lower_branches scope table branches)
  branches_tell scope table no_branch = tt
  branches_tell scope table (first_branch branch rest) =
      then_tells is_local (lower_branch scope table branch) _ (branch_tells scope table branch) (λ front.
      then_tells is_local (lower_branches scope front.table rest) _ (branches_tell scope front.table rest) (λ others. tt))

-- ---- processes

process_tells : (scope : Scope) (table : Table) (process : ProcessTree) → Tells is_local (lower_process scope table process)
process_tells scope table (procedural statement) = statement_tells scope table statement
process_tells scope table (continuous target value) =
    then_tells is_local (lower_net_target scope target) _ (target_tells true scope target) (λ targets.
    then_tells is_local (lower_expression scope value) _ (expression_tells scope value) (λ e. tt))

begun_tells : (rules : Rule → Bool) (before : List (List ℕ)) (a : Result Processes ElabFault) → Tells rules a → Tells rules (with_begins_before before a)
begun_tells rules before a h = then_tells rules a _ h (λ processes. tt)

processes_tell : (scope : Scope) (table : Table) (list : List ProcessTree) → Tells is_local (lower_processes scope table list)
processes_tell scope table [] = tt
processes_tell scope table (process ∷ rest) =
    then_tells is_local (lower_process scope table process) _ (process_tells scope table process) (λ front.
    begun_tells is_local (front.places ∷ []) (lower_processes scope front.table rest) (processes_tell scope front.table rest))

pub items_tell : (scope : Scope) (table : Table) (items : List ItemTree) → Tells is_local (lower_items scope table items)
items_tell scope table [] = tt
items_tell scope table (item ∷ more) =
    then_tells is_local (lower_processes scope table (process_trees_by item)) _ (processes_tell scope table (process_trees_by item)) (λ front.
    begun_tells is_local front.begins (lower_items (behind_item scope item) front.table more) (items_tell (behind_item scope item) front.table more))

-- ---- connections

output_tells : (whose : Word) (outer inner : Scope) (port : Word) (target : Option TargetTree) → Tells is_of_connections (lower_output whose outer inner port target)
output_tells whose outer inner port None = refl
output_tells whose outer inner port (Some target) =
    then_tells is_of_connections (lower_net_target outer target) _ (wider is_local is_of_connections local_connections (lower_net_target outer target) (target_tells true outer target)) (λ targets.
    then_tells is_of_connections (lower_expression inner (text.name port)) _
    (wider is_local is_of_connections local_connections (lower_expression inner (text.name port)) (expression_tells inner (text.name port))) (λ e. tt))

pub input_tells : (outer inner : Scope) (port : Word) (value : text.ExpressionTree) → Tells is_local (lower_input outer inner port value)
input_tells outer inner port value =
    then_tells is_local (lower_net_target inner (whole port)) _ (target_tells true inner (whole port)) (λ targets.
    then_tells is_local (lower_expression outer value) _ (expression_tells outer value) (λ e. tt))

connection_tells : (whose : Word) (outer inner : Scope) (p : Port) (value : text.ExpressionTree) → Tells is_of_connections (lower_connection whose outer inner p value)
connection_tells whose outer inner p value = by p.output
  where
    by : (out : Bool) → Tells is_of_connections (if out then lower_output whose outer inner p.name (target_of value) else lower_input outer inner p.name value)
    by true = output_tells whose outer inner p.name (target_of value)
    by false = wider is_local is_of_connections local_connections (lower_input outer inner p.name value) (input_tells outer inner p.name value)

join_tells : (whose : Word) (outer inner : Scope) (table : Table) (p : Port) (value : Option text.ExpressionTree) → Tells is_of_connections (lower_join whose outer inner table p value)
join_tells whose outer inner table p None = tt
join_tells whose outer inner table p (Some value) =
    then_tells is_of_connections (lower_connection whose outer inner p value) _ (connection_tells whose outer inner p value) (λ action. tt)

pub joins_tell : (whose : Word) (outer inner : Scope) (connections : List NamedConnection) (table : Table) (ports : List Port) →
    Tells is_of_connections (lower_joins whose outer inner connections table ports)
joins_tell whose outer inner connections table [] = tt
joins_tell whose outer inner connections table (p ∷ more) =
    let value = value_for connections p.name.letters in
    then_tells is_of_connections (lower_join whose outer inner table p value) _ (join_tells whose outer inner table p value) (λ front.
    begun_tells is_of_connections front.begins (lower_joins whose outer inner connections front.table more) (joins_tell whose outer inner connections front.table more))
