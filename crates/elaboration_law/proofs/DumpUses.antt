-- The paths that `$dumpvars` names in statements: those that stand in the actions of what they are lowered to.
use Rattle.std.proofs.Common.{◌≡◌, ℕ, Bool, true, false, List, [], ◌∷◌, ◌++◌, map, Option, None, Some, Result, Ok, Err, refl, sym, ap, subst, ◌∙◌, append_assoc, if◌then◌else◌}
use Rattle.std.specs.List.{flat_map}
use Rattle.std.proofs.lemmas.List.{append-nil}
use Rattle.std.proofs.lemmas.List.Concat.{flat_map-append}
use Rattle.vwords.specs.Words.{Text}
use Rattle.vast.specs.NumberedWords.{Word}
use Rattle.vast.specs.NumberedExpressions as text
use Rattle.vast.specs.NumberedStatements.{TargetTree, whole, SelectionTree, TaskTree, print, idle, dump_file, dump_vars, dump, end_run, DelayTree, StatementTree, StatementTrees, empty, block, assign, nonblocking, trigger, if_true, if_else, case_of, while_true, repeat_times, forever, for_loop, wait_for, delay, event, task, no_statement, first_statement, BranchTree, BranchTrees, labelled, default, no_branch, first_branch}
use Rattle.vast.specs.declared.statement.Dumping.TheVariants as dumps
use Rattle.vdesign.specs.declared.action.Action.{Action}
use Rattle.vdesign.specs.declared.action.Action.TheVariants.{Assign, Nonblocking, AssignDelayed, NonblockingDelayed, Trigger, Test, Case, While, Repeat, Forever, Delay, EventControl, Wait, ContinuousAssign, Print, DumpVars, Dump, NoOperation, Finish, Stop}
use Rattle.vdesign.specs.declared.action.Target.{Target}
use Rattle.vdesign.specs.Expressions.{ExpressionTree}
use Rattle.vdesign.specs.declared.dump.Chosen.{Chosen}
use Rattle.velab_expr.specs.declared.fault.Rule.TheVariants.{Kind}
use Rattle.velab_expr.specs.declared.fault.ElabFault.{ElabFault}
use Rattle.velab_expr.specs.Answers.{◌>>=◌, value_or_fault}
use Rattle.velab_expr.specs.Scopes.{Scope, lower_event}
use Rattle.velab_expr.specs.Symbols.{behind_item}
use Rattle.vast.specs.NumberedModules.{ItemTree}
use Rattle.velab_process.specs.Processes.{ProcessTree, procedural, continuous, Processes, with_begins_before, lower_process, lower_processes, process_trees_by, lower_items}
use Rattle.elaboration_law.specs.Selected.{paths_of, paths_in, paths_in_task, paths_by, paths_by_all, paths_by_branch, paths_by_branches, paths_by_process, paths_by_item}
use Rattle.velab_expr.specs.Resolved.{lower_expression}
use Rattle.velab_expr.specs.Written.{lower_target, lower_net_target, target_of}
use Rattle.velab_expr.specs.Selections.{levels_in, dotted_path, chosen_by, chosen_of, lower_selection}
use Rattle.vmodules.specs.Ports.{Port}
use Rattle.vmodules.specs.Placed.{placed_items}
use Rattle.vmodules.specs.Connected.{NamedConnection, value_for}
use Rattle.velab_process.specs.Connections.{lower_input, lower_output, lower_connection, one_process, lower_join, lower_joins}
use Rattle.vhierarchy.specs.Instances.{lower_own_processes, Context}
use Rattle.velab_process.specs.Waits.{lower_control}
use Rattle.velab_process.specs.Prints.{lower_line}
use Rattle.velab_process.specs.Statements.{Table, Lowered, LoweredBranches, lowered_action, with_places_before, assignment_action, lower_amount, lower_own_amount, lower_assignment, lower_task, lower_labels, lower_statement, lower_all, lower_branch, lower_branches}

-- ---- in actions

abbrev pub dumped_by : Action → List Text
dumped_by (DumpVars selection) = map (λ (c : Chosen). c.path) selection
dumped_by (Assign targets value) = []
dumped_by (Nonblocking targets value) = []
dumped_by (AssignDelayed amount targets value) = []
dumped_by (NonblockingDelayed amount targets value) = []
dumped_by (Trigger number) = []
dumped_by (Test condition when_true otherwise) = []
dumped_by (Case kind value branches otherwise) = []
dumped_by (While condition body) = []
dumped_by (Repeat count body) = []
dumped_by (Forever body) = []
dumped_by (Delay amount body) = []
dumped_by (EventControl terms body) = []
dumped_by (Wait condition terms body) = []
dumped_by (ContinuousAssign targets value terms) = []
dumped_by (Print when pieces) = []
dumped_by (Dump command) = []
dumped_by NoOperation = []
dumped_by Finish = []
dumped_by Stop = []

abbrev pub dumped : Table → List Text
dumped table = flat_map dumped_by table.actions

-- ---- what an answer adds

abbrev pub Adds : {A : Type 0} → (A → Table) → Table → List Text → Result A ElabFault → Type 0
Adds table_of table paths (Ok x) = dumped (table_of x) ≡ dumped table ++ paths
Adds table_of table paths (Err fault) = Unit {0}

silent_adds : {A B : Type 0} (table_of : B → Table) (table : Table) (paths : List Text) (a : Result A ElabFault) (next : A → Result B ElabFault) → ((x : A) → Adds table_of table paths (next x)) → Adds table_of table paths (a >>= next)
silent_adds table_of table paths (Ok x) next more = more x
silent_adds table_of table paths (Err fault) next more = tt

then_adds : {A B : Type 0} (first_of : A → Table) (table_of : B → Table) (table : Table) (ps qs : List Text) (a : Result A ElabFault) (next : A → Result B ElabFault) →
    Adds first_of table ps a → ((x : A) → Adds table_of (first_of x) qs (next x)) → Adds table_of table (ps ++ qs) (a >>= next)
then_adds {B = B} first_of table_of table ps qs (Ok x) next h more = by (next x) (more x)
  where
    by : (b : Result B ElabFault) → Adds table_of (first_of x) qs b → Adds table_of table (ps ++ qs) b
    by (Ok y) j = j ∙ ap (λ (l : List Text). l ++ qs) h ∙ append_assoc (dumped table) ps qs
    by (Err fault) j = tt
then_adds first_of table_of table ps qs (Err fault) next h more = tt

last_adds : {A B : Type 0} (first_of : A → Table) (table_of : B → Table) (table : Table) (ps : List Text) (a : Result A ElabFault) (next : A → Result B ElabFault) →
    Adds first_of table ps a → ((x : A) → Adds table_of (first_of x) [] (next x)) → Adds table_of table ps (a >>= next)
last_adds {B = B} first_of table_of table ps (Ok x) next h more = by (next x) (more x)
  where
    by : (b : Result B ElabFault) → Adds table_of (first_of x) [] b → Adds table_of table ps b
    by (Ok y) j = j ∙ append-nil (dumped (first_of x)) ∙ h
    by (Err fault) j = tt
last_adds first_of table_of table ps (Err fault) next h more = tt

-- an action
acted : (table : Table) (action : Action) → flat_map dumped_by (table.actions ++ action ∷ []) ≡ dumped table ++ dumped_by action
acted table action = flat_map-append dumped_by table.actions (action ∷ []) ∙ ap (λ (l : List Text). dumped table ++ l) (append-nil (dumped_by action))

nothing_more : (table : Table) → dumped table ≡ dumped table ++ []
nothing_more table = sym (append-nil (dumped table))

abbrev of_lowered : Lowered → Table
of_lowered l = l.table

abbrev of_branches : LoweredBranches → Table
of_branches l = l.table

-- ---- statements

placed_adds : (table : Table) (ps : List Text) (places : List ℕ) (a : Result Lowered ElabFault) → Adds of_lowered table ps a → Adds of_lowered table ps (with_places_before places a)
placed_adds table ps places a h = last_adds of_lowered of_lowered table ps a _ h (λ lowered. nothing_more lowered.table)

module _ (scope : Scope) where
  selection_adds : (table : Table) (word : Option Word) (selection : Option SelectionTree) → Adds of_lowered table (paths_in scope.top selection) (lower_selection scope selection >>= λ chosen. Ok (lowered_action table word (DumpVars chosen)))
  selection_adds table word None = acted table (DumpVars [])
  selection_adds table word (Some selection) = by (levels_in selection.levels)
    where
      same : (levels : ℕ) (paths : List (List Word)) → map (λ (c : Chosen). c.path) (chosen_by scope.top levels paths) ≡ paths_of scope.top paths
      same levels [] = refl
      same levels (path ∷ more) = all levels (path ∷ more)
        where
          all : (levels : ℕ) (list : List (List Word)) → map (λ (c : Chosen). c.path) (map (λ names. chosen_of levels (dotted_path names)) list) ≡ map dotted_path list
          all levels [] = refl
          all levels (names ∷ others) = ap (λ (l : List Text). dotted_path names ∷ l) (all levels others)

      by : (levels : Option ℕ) → Adds of_lowered table (paths_of scope.top selection.paths)
          ((value_or_fault levels Kind (Some selection.levels) >>= λ levels. Ok (chosen_by scope.top levels selection.paths)) >>= λ chosen. Ok (lowered_action table word (DumpVars chosen)))
      by None = tt
      by (Some levels) = acted table (DumpVars (chosen_by scope.top levels selection.paths)) ∙ ap (λ (l : List Text). dumped table ++ l) (same levels selection.paths)

  assignment_adds : (blocking : Bool) (table : Table) (target : TargetTree) (amount : Option DelayTree) (value : text.ExpressionTree) → Adds of_lowered table [] (lower_assignment blocking scope table target amount value)
  assignment_adds blocking table target amount value =
      silent_adds of_lowered table [] (lower_target scope target) _ (λ targets.
      silent_adds of_lowered table [] (lower_own_amount scope amount) _ (λ delay.
      silent_adds of_lowered table [] (lower_expression scope value) _ (λ e.
      acted table (assignment_action blocking delay targets e) ∙ ap (λ (l : List Text). dumped table ++ l) (by blocking delay targets e))))
    where
      by : (b : Bool) (delay : Option ExpressionTree) (targets : List Target) (e : ExpressionTree) → dumped_by (assignment_action b delay targets e) ≡ []
      by true None targets e = refl
      by true (Some amount) targets e = refl
      by false None targets e = refl
      by false (Some amount) targets e = refl

  task_adds : (table : Table) (call : TaskTree) → Adds of_lowered table (paths_in_task scope.top call) (lower_task scope table call)
  task_adds table (print kind arguments) = silent_adds of_lowered table [] (lower_line scope kind arguments) _ (λ pieces. acted table _)
  task_adds table (idle kind arguments) = acted table _
  task_adds table (dump_file letters) = acted table _
  task_adds table (dump_vars selection) = selection_adds table _ selection
  task_adds table (dump dumps.On) = acted table _
  task_adds table (dump dumps.Off) = acted table _
  task_adds table (dump dumps.All) = acted table _
  task_adds table (dump dumps.Flush) = acted table _
  task_adds table (end_run true digits) = acted table _
  task_adds table (end_run false digits) = acted table _

  mutual
    statement_adds : (table : Table) (statement : StatementTree) → Adds of_lowered table (paths_by scope.top statement) (lower_statement scope table statement)
    statement_adds table empty = nothing_more table
    statement_adds table (block label statements) = all_add table statements
    statement_adds table (assign target amount value) = assignment_adds true table target amount value
    statement_adds table (nonblocking target amount value) = assignment_adds false table target amount value
    statement_adds table (trigger letters) = silent_adds of_lowered table [] (lower_event scope letters) _ (λ number. acted table _)
    statement_adds table (if_true condition body) =
        silent_adds of_lowered table (paths_by scope.top body) (lower_expression scope condition) _ (λ test.
        last_adds of_lowered of_lowered table (paths_by scope.top body) (lower_statement scope table body) _ (statement_adds table body) (λ inner. acted inner.table _))
    statement_adds table (if_else condition body other) =
        silent_adds of_lowered table (paths_by scope.top body ++ paths_by scope.top other) (lower_expression scope condition) _ (λ test.
        then_adds of_lowered of_lowered table (paths_by scope.top body) (paths_by scope.top other) (lower_statement scope table body) _ (statement_adds table body) (λ one.
        last_adds of_lowered of_lowered one.table (paths_by scope.top other) (lower_statement scope one.table other) _ (statement_adds one.table other) (λ two. acted two.table _)))
    statement_adds table (case_of kind value branches) =
        silent_adds of_lowered table (paths_by_branches scope.top branches) (lower_expression scope value) _ (λ e.
        last_adds of_branches of_lowered table (paths_by_branches scope.top branches) (lower_branches scope table branches) _ (branches_add table branches) (λ inner. acted inner.table _))
    statement_adds table (while_true condition body) =
        silent_adds of_lowered table (paths_by scope.top body) (lower_expression scope condition) _ (λ test.
        last_adds of_lowered of_lowered table (paths_by scope.top body) (lower_statement scope table body) _ (statement_adds table body) (λ inner. acted inner.table _))
    statement_adds table (repeat_times count body) =
        silent_adds of_lowered table (paths_by scope.top body) (lower_expression scope count) _ (λ turns.
        last_adds of_lowered of_lowered table (paths_by scope.top body) (lower_statement scope table body) _ (statement_adds table body) (λ inner. acted inner.table _))
    statement_adds table (forever body) = last_adds of_lowered of_lowered table (paths_by scope.top body) (lower_statement scope table body) _ (statement_adds table body) (λ inner. acted inner.table _)
    statement_adds table (for_loop target value condition next_target next_value body) =
        then_adds of_lowered of_lowered table [] (paths_by scope.top body) (lower_assignment true scope table target None value) _ (assignment_adds true table target None value) (λ begun.
        placed_adds begun.table (paths_by scope.top body) begun.places _
        (silent_adds of_lowered begun.table (paths_by scope.top body) (lower_expression scope condition) _ (λ test.
        last_adds of_lowered of_lowered begun.table (paths_by scope.top body) (lower_statement scope begun.table body) _ (statement_adds begun.table body) (λ inner.
        last_adds of_lowered of_lowered inner.table [] (with_places_before inner.places (lower_assignment true scope inner.table next_target None next_value)) _
        (placed_adds inner.table [] inner.places (lower_assignment true scope inner.table next_target None next_value) (assignment_adds true inner.table next_target None next_value))
        (λ turn. acted turn.table _)))))
    statement_adds table (wait_for condition body) =
        silent_adds of_lowered table (paths_by scope.top body) (lower_expression scope condition) _ (λ test.
        last_adds of_lowered of_lowered table (paths_by scope.top body) (lower_statement scope table body) _ (statement_adds table body) (λ inner. acted inner.table _))
    statement_adds table (delay amount body) =
        silent_adds of_lowered table (paths_by scope.top body) (lower_amount scope amount) _ (λ e.
        last_adds of_lowered of_lowered table (paths_by scope.top body) (lower_statement scope table body) _ (statement_adds table body) (λ inner. acted inner.table _))
    statement_adds table (event control body) =
        silent_adds of_lowered table (paths_by scope.top body) (lower_control scope control body) _ (λ terms.
        last_adds of_lowered of_lowered table (paths_by scope.top body) (lower_statement scope table body) _ (statement_adds table body) (λ inner. acted inner.table _))
    statement_adds table (task call) = task_adds table call

    all_add : (table : Table) (statements : StatementTrees) → Adds of_lowered table (paths_by_all scope.top statements) (lower_all scope table statements)
    all_add table no_statement = nothing_more table
    all_add table (first_statement statement rest) =
        then_adds of_lowered of_lowered table (paths_by scope.top statement) (paths_by_all scope.top rest) (lower_statement scope table statement) _ (statement_adds table statement) (λ front.
        placed_adds front.table (paths_by_all scope.top rest) front.places (lower_all scope front.table rest) (all_add front.table rest))

    branch_adds : (table : Table) (branch : BranchTree) → Adds of_branches table (paths_by_branch scope.top branch) (lower_branch scope table branch)
    branch_adds table (labelled items body) =
        last_adds of_lowered of_branches table (paths_by scope.top body) (lower_statement scope table body) _ (statement_adds table body) (λ inner.
        silent_adds of_branches inner.table [] (lower_labels scope inner.places items) _ (λ branches. nothing_more inner.table))
    branch_adds table (default colon body) =
        last_adds of_lowered of_branches table (paths_by scope.top body) (lower_statement scope table body) _ (statement_adds table body) (λ inner. nothing_more inner.table)

    branches_add : (table : Table) (branches : BranchTrees) → Adds of_branches table (paths_by_branches scope.top branches) (lower_branches scope table branches)
    branches_add table no_branch = nothing_more table
    branches_add table (first_branch branch rest) =
        then_adds of_branches of_branches table (paths_by_branch scope.top branch) (paths_by_branches scope.top rest) (lower_branch scope table branch) _ (branch_adds table branch) (λ front.
        last_adds of_branches of_branches front.table (paths_by_branches scope.top rest) (lower_branches scope front.table rest) _ (branches_add front.table rest) (λ others. nothing_more others.table))

-- ---- processes

abbrev of_processes : Processes → Table
of_processes p = p.table

begun_adds : (table : Table) (ps : List Text) (before : List (List ℕ)) (a : Result Processes ElabFault) → Adds of_processes table ps a → Adds of_processes table ps (with_begins_before before a)
begun_adds table ps before a h = last_adds of_processes of_processes table ps a _ h (λ processes. nothing_more processes.table)

process_adds : (scope : Scope) (table : Table) (process : ProcessTree) → Adds of_lowered table (paths_by_process scope.top process) (lower_process scope table process)
process_adds scope table (procedural statement) = statement_adds scope table statement
process_adds scope table (continuous target value) =
    silent_adds of_lowered table [] (lower_net_target scope target) _ (λ targets. silent_adds of_lowered table [] (lower_expression scope value) _ (λ e. acted table _))

processes_add : (scope : Scope) (table : Table) (list : List ProcessTree) → Adds of_processes table (flat_map (paths_by_process scope.top) list) (lower_processes scope table list)
processes_add scope table [] = nothing_more table
processes_add scope table (process ∷ rest) =
    then_adds of_lowered of_processes table (paths_by_process scope.top process) (flat_map (paths_by_process scope.top) rest) (lower_process scope table process) _ (process_adds scope table process) (λ front.
    begun_adds front.table (flat_map (paths_by_process scope.top) rest) (front.places ∷ []) (lower_processes scope front.table rest) (processes_add scope front.table rest))

items_add : (scope : Scope) (table : Table) (items : List ItemTree) → Adds of_processes table (flat_map (paths_by_item scope.top) items) (lower_items scope table items)
items_add scope table [] = nothing_more table
items_add scope table (item ∷ more) =
    then_adds of_processes of_processes table (paths_by_item scope.top item) (flat_map (paths_by_item scope.top) more) (lower_processes scope table (process_trees_by item)) _ (processes_add scope table (process_trees_by item)) (λ front.
    begun_adds front.table (flat_map (paths_by_item scope.top) more) front.begins (lower_items (behind_item scope item) front.table more) (items_add (behind_item scope item) front.table more))

-- ---- connections

-- an action that dumps nothing
abbrev Quiet : Result Action ElabFault → Type 0
Quiet (Ok action) = dumped_by action ≡ []
Quiet (Err fault) = Unit {0}

quiet_then : {A : Type 0} (a : Result A ElabFault) (next : A → Result Action ElabFault) → ((x : A) → Quiet (next x)) → Quiet (a >>= next)
quiet_then (Ok x) next more = more x
quiet_then (Err fault) next more = tt

quiet_adds : (table : Table) (word : Option Word) (a : Result Action ElabFault) → Quiet a → Adds of_processes table [] (a >>= λ action. Ok (one_process table word action))
quiet_adds table word (Ok action) q = acted table action ∙ ap (λ (l : List Text). dumped table ++ l) q
quiet_adds table word (Err fault) q = tt

module _ (whose : Word) (outer inner : Scope) where
  input_quiet : (port : Word) (value : text.ExpressionTree) → Quiet (lower_input outer inner port value)
  input_quiet port value = quiet_then (lower_net_target inner (whole port)) _ (λ targets. quiet_then (lower_expression outer value) _ (λ e. refl))

  output_quiet : (port : Word) (target : Option TargetTree) → Quiet (lower_output whose outer inner port target)
  output_quiet port None = tt
  output_quiet port (Some target) = quiet_then (lower_net_target outer target) _ (λ targets. quiet_then (lower_expression inner (text.name port)) _ (λ e. refl))

  connection_quiet : (p : Port) (value : text.ExpressionTree) → Quiet (lower_connection whose outer inner p value)
  connection_quiet p value = by p.output
    where
      by : (out : Bool) → Quiet (if out then lower_output whose outer inner p.name (target_of value) else lower_input outer inner p.name value)
      by true = output_quiet p.name (target_of value)
      by false = input_quiet p.name value

  join_adds : (table : Table) (p : Port) (value : Option text.ExpressionTree) → Adds of_processes table [] (lower_join whose outer inner table p value)
  join_adds table p None = nothing_more table
  join_adds table p (Some value) = quiet_adds table (Some whose) (lower_connection whose outer inner p value) (connection_quiet p value)

  joins_add : (connections : List NamedConnection) (table : Table) (ports : List Port) → Adds of_processes table [] (lower_joins whose outer inner connections table ports)
  joins_add connections table [] = nothing_more table
  joins_add connections table (p ∷ more) =
      then_adds of_processes of_processes table [] [] (lower_join whose outer inner table p (value_for connections p.name.letters)) _ (join_adds table p (value_for connections p.name.letters)) (λ front.
      begun_adds front.table [] front.begins (lower_joins whose outer inner connections front.table more) (joins_add connections front.table more))

-- ---- an instance

own_adds : (context : Context) (ports : List Port) (scope : Scope) (table : Table) → Adds of_processes table (flat_map (paths_by_item scope.top) (placed_items context.path context.unit)) (lower_own_processes context ports scope table)
own_adds context ports scope table =
    let paths = flat_map (paths_by_item scope.top) (placed_items context.path context.unit) in
    then_adds of_processes of_processes table [] paths (lower_joins context.name context.overrides.scope scope context.connections table ports) _
    (joins_add context.name context.overrides.scope scope context.connections table ports) (λ joins.
    begun_adds joins.table paths joins.begins (lower_items scope joins.table (placed_items context.path context.unit)) (items_add scope joins.table (placed_items context.path context.unit)))

pub own_dumps : (context : Context) (ports : List Port) (scope : Scope) (table : Table) (processes : Processes) → lower_own_processes context ports scope table ≡ Ok processes →
    dumped processes.table ≡ dumped table ++ flat_map (paths_by_item scope.top) (placed_items context.path context.unit)
own_dumps context ports scope table processes is = subst (Adds of_processes table (flat_map (paths_by_item scope.top) (placed_items context.path context.unit))) is (own_adds context ports scope table)
