-- *internal*: What the steps of elaboration are told by and answer.
use Rattle.std.specs.Prelude.{◌≡◌, ℕ, List, [], ◌∷◌, ◌++◌, Vec, map, Option, None, Result, Ok, Err, Bool, true, false}
use Rattle.std.specs.List.{filter_map}
use Rattle.basis.specs.declared.memory.OrMemory.{OrMemory}
use Rattle.vwords.specs.Words.{Text}
use Rattle.vast.specs.NumberedWords.{Word, word_of}
use Rattle.vast.specs.NumberedModules.{ItemTree, variables}
use Rattle.vast.specs.NumberedTrees.{argument_tree, task_tree, statement_tree, statement_trees, branch_tree, branch_trees, declared_tree, net_assignment, item_tree, port_tree}
use Rattle.vast.specs.declared.statement.Argument.{Argument as Written}
use Rattle.vast.specs.declared.statement.Task.{Task}
use Rattle.vast.specs.declared.statement.Statement.{Statement}
use Rattle.vast.specs.declared.statement.Branch.{Branch}
use Rattle.vast.specs.declared.module.NetKind.{NetKind}
use Rattle.vast.specs.declared.module.NetKind.TheVariants as net
use Rattle.vast.specs.declared.module.Port.{Port}
use Rattle.vast.specs.declared.module.ModuleItem.{ModuleItem}
use Rattle.vast.specs.declared.module.Declared.{Declared}
use Rattle.vast.specs.declared.module.NetAssignment.{NetAssignment}
use Rattle.vast.specs.declared.token.Token.{Token}
use Rattle.vdesign.specs.declared.print.Piece.{Piece}
use Rattle.vmodules.specs.Connected.{value_for}
use Rattle.vmodules.specs.Inner.{ConnectionEntry, entries_tree, port_form, optional_ports}
use Rattle.vmodules.specs.Ports.{bare, port_declared, ports_declared}
use Rattle.vmodules.specs.Placed.{placed_argument, placed_task, placed, placed_all, placed_branch, placed_branches, placed_item}
use Rattle.vmodules.specs.declared.ports.PortForm.{PortForm}
use Rattle.format_text.specs.Pieces.{Argument, PrintedText, pieces_with}
use Rattle.velab_expr.specs.declared.fault.ElabFault.{ElabFault}
use Rattle.velab_expr.specs.Answers.{◌>>=◌, Refuses}
use Rattle.velab_expr.specs.Scopes.{Scope}
use Rattle.vast.specs.NumberedExpressions as text
use Rattle.vast.specs.NumberedStatements.{ArgumentTree, TaskTree, StatementTree, StatementTrees, BranchTree, BranchTrees, TargetTree, empty, block, assign, nonblocking, trigger, if_true, if_else, case_of, while_true, repeat_times, forever, for_loop, wait_for, delay, event, task}
use Rattle.vdesign.specs.declared.action.Action.{Action}
use Rattle.vdesign.specs.declared.action.Action.TheVariants.{While, ContinuousAssign}
use Rattle.velab_expr.specs.FirstWords.{first_in}
use Rattle.velab_expr.specs.Resolved.{lower_expression}
use Rattle.velab_expr.specs.InnerTargets.{lower_connected}
use Rattle.velab_process.specs.Waits.{any_of, names_in, read_by_delay, read_by_assignment, read_by_task, read_by, read_by_all, read_by_branches}
use Rattle.velab_process.specs.Statements.{Table, Lowered, lowered_action, with_places_before, lower_assignment, lower_statement}
use Rattle.velab_process.specs.Processes.{Processes, lower_processes, lower_items, process_trees_by, ProcessTree, process_of, starts_of, driven_by}
use Rattle.velab_process.specs.Connections.{lower_join, lower_joins}

-- ---- what a call says of places

-- a statement that stands inside another begins at these places of the table, as the answer says
abbrev pub Begins : {A : Type 0} → Result (Vec ℕ A) (OrMemory ElabFault) → Table → Result Lowered ElabFault → Type 0
Begins (Ok places) table answer = answer ≡ Ok (record { table = table; places = places.items })
Begins (Err e) table answer = Refuses e answer

-- an `if`, a `case` or a loop (9.4 to 9.6)
abbrev pub is_control_flow : StatementTree → Bool
is_control_flow empty = false
is_control_flow (block label statements) = false
is_control_flow (assign target amount value) = false
is_control_flow (nonblocking target amount value) = false
is_control_flow (trigger letters) = false
is_control_flow (if_true condition body) = true
is_control_flow (if_else condition body other) = true
is_control_flow (case_of kind value branches) = true
is_control_flow (while_true condition body) = true
is_control_flow (repeat_times count body) = true
is_control_flow (forever body) = true
is_control_flow (for_loop target value condition next_target next_value body) = true
is_control_flow (wait_for condition body) = false
is_control_flow (delay amount body) = false
is_control_flow (event control body) = false
is_control_flow (task call) = false

-- a `for` behind its first assignment
abbrev pub lower_loop : Scope → Table → text.ExpressionTree → StatementTree → TargetTree → text.ExpressionTree → Result Lowered ElabFault
lower_loop scope table condition body next_target next_value =
    lower_expression scope condition >>= λ test.
    lower_statement scope table body >>= λ inner.
    with_places_before inner.places (lower_assignment true scope inner.table next_target None next_value) >>= λ turn.
    Ok (lowered_action turn.table (first_in condition) (While test turn.places))

-- ---- what a statement reads, in two parts

-- outside of the statements that stand in it
abbrev pub own_read : StatementTree → List Word
own_read empty = []
own_read (block label statements) = []
own_read (assign target amount value) = read_by_assignment target amount value
own_read (nonblocking target amount value) = read_by_assignment target amount value
own_read (trigger letters) = []
own_read (if_true condition body) = names_in condition
own_read (if_else condition body other) = names_in condition
own_read (case_of kind value branches) = names_in value
own_read (while_true condition body) = names_in condition
own_read (repeat_times count body) = names_in count
own_read (forever body) = []
own_read (for_loop target value condition next_target next_value body) =
    read_by_assignment target None value ++ (names_in condition ++ read_by_assignment next_target None next_value)
own_read (wait_for condition body) = []
own_read (delay amount body) = read_by_delay amount
own_read (event control body) = []
own_read (task call) = read_by_task call

-- in the statements that stand in it
abbrev pub inner_read : StatementTree → List Word
inner_read empty = []
inner_read (block label statements) = read_by_all statements
inner_read (assign target amount value) = []
inner_read (nonblocking target amount value) = []
inner_read (trigger letters) = []
inner_read (if_true condition body) = read_by body
inner_read (if_else condition body other) = read_by body ++ read_by other
inner_read (case_of kind value branches) = read_by_branches branches
inner_read (while_true condition body) = read_by body
inner_read (repeat_times count body) = read_by body
inner_read (forever body) = read_by body
inner_read (for_loop target value condition next_target next_value body) = read_by body
inner_read (wait_for condition body) = read_by body
inner_read (delay amount body) = read_by body
inner_read (event control body) = read_by body
inner_read (task call) = []

-- ---- the trees of program's values

-- what stands in the scope of a path
module _ (words : List Text) (path : Text) where
  abbrev pub statement_at : Statement → StatementTree
  statement_at statement = placed path (statement_tree words statement)

  abbrev pub statements_at : List Statement → StatementTrees
  statements_at list = placed_all path (statement_trees words list)

  abbrev pub branch_at : Branch → BranchTree
  branch_at branch = placed_branch path (branch_tree words branch)

  abbrev pub branches_at : List Branch → BranchTrees
  branches_at list = placed_branches path (branch_trees words list)

  abbrev pub task_at : Task → TaskTree
  task_at call = placed_task path (task_tree words call)

  abbrev pub argument_at : Written → ArgumentTree
  argument_at argument = placed_argument path (argument_tree words argument)

  abbrev pub arguments_at : List Written → List ArgumentTree
  arguments_at list = map (placed_argument path) (map (argument_tree words) list)

  abbrev pub item_at : ModuleItem → ItemTree
  item_at item = placed_item path (item_tree words item)

-- the processes by which names are declared with a value, and those of an `assign`
abbrev pub starts_in : List Text → NetKind → List Declared → List ProcessTree
starts_in words word list = filter_map (process_of word) (map (declared_tree words) list)

-- those of the values of ports (6.2.1, A.2.3)
abbrev pub values_in : List Text → List Port → List ProcessTree
values_in words list = filter_map (process_of net.Reg) (map port_declared (map (port_tree words) list))

abbrev pub drives_in : List Text → List NetAssignment → List ProcessTree
drives_in words list = map driven_by (map (net_assignment words) list)

-- the processes of an item, and of items
abbrev pub processes_of_item : List Text → Text → Scope → Table → ModuleItem → Result Processes ElabFault
processes_of_item words path scope table item = lower_processes scope table (process_trees_by (item_at words path item))

abbrev pub processes_of : List Text → Text → Scope → Table → List ModuleItem → Result Processes ElabFault
processes_of words path scope table items = lower_items scope table (map (placed_item path) (map (item_tree words) items))

-- of the ports of a module's list, where it has one: those of their values
abbrev pub values_of : {X : Type 0} → List Text → Scope → Table → Option (Vec Port X) → Result Processes ElabFault
values_of words scope table ports = lower_processes scope table (starts_of (variables net.Reg bare) (ports_declared (optional_ports words ports)))

-- those of port connections
abbrev pub joins_of : List Text → Token → Scope → Scope → List ConnectionEntry → Table → List PortForm → Result Processes ElabFault
joins_of words whose outer inner connections table ports =
    lower_joins (word_of words whose) outer inner (entries_tree words connections) table (map (port_form words) ports)

abbrev pub join_of : List Text → Token → Scope → Scope → List ConnectionEntry → Table → PortForm → Result Processes ElabFault
join_of words whose outer inner connections table port =
    lower_join (word_of words whose) outer inner table (port_form words port) (value_for (entries_tree words connections) (port_form words port).name.letters)

-- what an output drives outside, where that can be driven
abbrev pub lower_driven : Scope → Scope → Word → text.ExpressionTree → Result Action ElabFault
lower_driven outer inner port value =
    lower_connected outer value >>= λ targets.
    lower_expression inner (text.name port) >>= λ e.
    Ok (ContinuousAssign targets e (any_of inner (port ∷ [])))

-- ---- lines

-- what there is, where it is right
abbrev pub right_pieces : Bool → Option (List Piece) → Option (List Piece)
right_pieces true pieces = pieces
right_pieces false pieces = None

-- a line takes these arguments, or has no pieces by them
abbrev pub Prints : PrintedText → List Argument → Bool → PrintedText → Type 0
Prints old arguments true new = pieces_with new [] ≡ pieces_with old arguments
Prints old arguments false new = pieces_with old arguments ≡ None

-- the answer has something of which this holds
abbrev pub HasOk : {A F : Type 0} → Result A F → (A → Type 0) → Type 0
HasOk (Ok x) P = P x
HasOk (Err fault) P = ⊥

-- a call says this of what the answer has, or gives its fault
abbrev pub TakesAnswer : {T A F : Type 0} → Result T (OrMemory F) → Result A F → (A → T → Type 0) → Type 0
TakesAnswer (Ok t) answer P = HasOk answer (λ x. P x t)
TakesAnswer (Err e) answer P = Refuses e answer
