-- *internal*: The tree that a statement of the program stands for.
use Rattle.std.specs.Prelude.{List, [], ◌∷◌, map, option_map}
use Rattle.vwords.specs.Words.{Text}
use Rattle.vast.specs.TokenTexts.{token_text}
use Rattle.vast.specs.declared.token.Token.{Token}
use Rattle.vast.specs.ExpressionTrees.{boxed_told, expressions_told}
use Rattle.vast.specs.Statements.{TargetOf, TargetsOf, DelayOf, TermOf, FurtherOf, EventOf, ArgumentOf, SelectionOf, TaskOf, StatementOf, StatementsOf, BranchOf, BranchesOf, TargetTree, whole, bit, part, joined, TargetTrees, none, first, DelayTree, by_number, by_name, by_value, TermTree, FurtherTerm, EventTree, by_event, by_any, by_any_enclosed, by_terms, ArgumentTree, quoted, printed, left_out, SelectionTree, TaskTree, print, idle, dump_file, dump_vars, dump, end_run, StatementTree, empty, block, assign, nonblocking, trigger, if_true, if_else, case_of, while_true, repeat_times, forever, for_loop, wait_for, delay, event, task, StatementTrees, no_statement, first_statement, BranchTree, labelled, default, BranchTrees, no_branch, first_branch}
use Rattle.vast.specs.declared.statement.Target.{Target, Whole, Bit, Part, Joined', Row_of-Target, end_of-Target, more_of-Target}
use Rattle.vast.specs.declared.statement.Delay.{Delay}
use Rattle.vast.specs.declared.statement.Delay.TheVariants as delays
use Rattle.vast.specs.declared.statement.Term.{Term}
use Rattle.vast.specs.declared.statement.FurtherTerm.{FurtherTerm as FurtherWords}
use Rattle.vast.specs.declared.statement.Event.{Event}
use Rattle.vast.specs.declared.statement.Event.TheVariants as events
use Rattle.vast.specs.declared.statement.Argument.{Argument}
use Rattle.vast.specs.declared.statement.Argument.TheVariants as arguments
use Rattle.vast.specs.declared.statement.Path.{Path}
use Rattle.vast.specs.declared.statement.Selection.{Selection}
use Rattle.vast.specs.declared.statement.Task.{Task}
use Rattle.vast.specs.declared.statement.Task.TheVariants as tasks
use Rattle.vast.specs.declared.statement.Statement.{Statement, Empty, Block', Assign, Nonblocking, Trigger, If', IfElse', Case', While', Repeat', Forever', For', Wait', Delayed', OnEvent', Task as Call, Row_of-Statement, end_of-Statement, more_of-Statement, Row_of-Branch, end_of-Branch, more_of-Branch}
use Rattle.vast.specs.declared.statement.Branch.{Branch, Labelled, Default}

-- with words that are told so
module _ {W : Type 0} (told : Token → W) where
  abbrev mutual
    pub target_told : Target → TargetOf W
    target_told (Whole word) = whole (told word)
    target_told (Bit word index) = bit (told word) (boxed_told told index)
    target_told (Part word left right) = part (told word) (boxed_told told left) (boxed_told told right)
    target_told (Joined' at shape row) = joined (target_row_told row)

    pub target_row_told : {m : _} → Row_of-Target m → TargetsOf W
    target_row_told end_of-Target = none
    target_row_told (more_of-Target one more) = first (target_told one) (target_row_told more)

  -- the trees of the parts of a joined target
  abbrev pub targets_told : List Target → TargetsOf W
  targets_told [] = none
  targets_told (one ∷ more) = first (target_told one) (targets_told more)

  abbrev pub delay_told : Delay → DelayOf W
  delay_told (delays.Number word) = by_number (told word)
  delay_told (delays.Name word) = by_name (told word)
  delay_told (delays.Value value) = by_value (boxed_told told value)

  abbrev pub term_told : Term → TermOf W
  term_told term = record { edge = term.edge; name = told term.name }

  abbrev pub further_told : FurtherWords → FurtherOf W
  further_told further = record { by_comma = further.by_comma; term = term_told further.term }

  abbrev pub event_told : Event → EventOf W
  event_told (events.Named word) = by_event (told word)
  event_told events.Any = by_any
  event_told events.AnyEnclosed = by_any_enclosed
  event_told (events.Terms term further) = by_terms (term_told term) (map further_told further.items)

  abbrev pub argument_told : Argument → ArgumentOf W
  argument_told (arguments.Text word) = quoted (told word)
  argument_told (arguments.Value value) = printed (boxed_told told value)
  argument_told arguments.LeftOut = left_out

  abbrev pub path_told : Path → List W
  path_told path = map told path.names.items

  abbrev pub selection_told : Selection → SelectionOf W
  selection_told selection = record { levels = told selection.levels; paths = map path_told selection.paths.items }

  abbrev pub task_told : Task → TaskOf W
  task_told (tasks.Print kind arguments) = print kind (map argument_told arguments.items)
  task_told (tasks.Idle kind arguments) = idle kind (map argument_told arguments.items)
  task_told (tasks.DumpFile word) = dump_file (told word)
  task_told (tasks.DumpVars selection) = dump_vars (option_map selection_told selection)
  task_told (tasks.Dump kind) = dump kind
  task_told (tasks.End stops number) = end_run stops (option_map told number)

  abbrev mutual
    pub statement_told : Statement → StatementOf W
    statement_told Empty = empty
    statement_told (Block' label shape row) = block (option_map told label) (statement_row_told row)
    statement_told (Assign at target amount value) = assign (target_told target) (option_map delay_told amount) (boxed_told told value)
    statement_told (Nonblocking at target amount value) = nonblocking (target_told target) (option_map delay_told amount) (boxed_told told value)
    statement_told (Trigger at word) = trigger (told word)
    statement_told (If' at condition place body) = if_true (boxed_told told condition) (statement_told body)
    statement_told (IfElse' at condition place body place_too other) = if_else (boxed_told told condition) (statement_told body) (statement_told other)
    statement_told (Case' at kind value shape row) = case_of kind (boxed_told told value) (branch_row_told row)
    statement_told (While' at condition place body) = while_true (boxed_told told condition) (statement_told body)
    statement_told (Repeat' at count place body) = repeat_times (boxed_told told count) (statement_told body)
    statement_told (Forever' at place body) = forever (statement_told body)
    statement_told (For' at target value condition next_target next_value place body) =
        for_loop (target_told target) (boxed_told told value) (boxed_told told condition) (target_told next_target) (boxed_told told next_value) (statement_told body)
    statement_told (Wait' at condition place body) = wait_for (boxed_told told condition) (statement_told body)
    statement_told (Delayed' at amount place body) = delay (delay_told amount) (statement_told body)
    statement_told (OnEvent' at control place body) = event (event_told control) (statement_told body)
    statement_told (Call at call) = task (task_told call)

    pub branch_told : Branch → BranchOf W
    branch_told (Labelled labels body) = labelled (expressions_told told labels.items) (statement_told body)
    branch_told (Default colon body) = default colon (statement_told body)

    pub statement_row_told : {m : _} → Row_of-Statement m → StatementsOf W
    statement_row_told end_of-Statement = no_statement
    statement_row_told (more_of-Statement one more) = first_statement (statement_told one) (statement_row_told more)

    pub branch_row_told : {m : _} → Row_of-Branch m → BranchesOf W
    branch_row_told end_of-Branch = no_branch
    branch_row_told (more_of-Branch one more) = first_branch (branch_told one) (branch_row_told more)

  -- the trees of the statements of a block
  abbrev pub statements_told : List Statement → StatementsOf W
  statements_told [] = no_statement
  statements_told (one ∷ more) = first_statement (statement_told one) (statements_told more)

  -- the trees of the branches of a case
  abbrev pub branches_told : List Branch → BranchesOf W
  branches_told [] = no_branch
  branches_told (one ∷ more) = first_branch (branch_told one) (branches_told more)

-- with words that are told by their letters
module _ (words : List Text) where
  abbrev pub target_tree : Target → TargetTree
  target_tree = target_told (token_text words)

  abbrev pub delay_tree : Delay → DelayTree
  delay_tree = delay_told (token_text words)

  abbrev pub term_tree : Term → TermTree
  term_tree = term_told (token_text words)

  abbrev pub further_term : FurtherWords → FurtherTerm
  further_term = further_told (token_text words)

  abbrev pub event_tree : Event → EventTree
  event_tree = event_told (token_text words)

  abbrev pub argument_tree : Argument → ArgumentTree
  argument_tree = argument_told (token_text words)

  abbrev pub path_tree : Path → List Text
  path_tree = path_told (token_text words)

  abbrev pub selection_tree : Selection → SelectionTree
  selection_tree = selection_told (token_text words)

  abbrev pub task_tree : Task → TaskTree
  task_tree = task_told (token_text words)

  abbrev pub statement_tree : Statement → StatementTree
  statement_tree = statement_told (token_text words)

  abbrev pub branch_tree : Branch → BranchTree
  branch_tree = branch_told (token_text words)

  abbrev pub target_trees : List Target → TargetTrees
  target_trees = targets_told (token_text words)

  abbrev pub statement_trees : List Statement → StatementTrees
  statement_trees = statements_told (token_text words)

  abbrev pub branch_trees : List Branch → BranchTrees
  branch_trees = branches_told (token_text words)

  abbrev pub target_row : {m : _} → Row_of-Target m → TargetTrees
  target_row = target_row_told (token_text words)

  abbrev pub statement_row : {m : _} → Row_of-Statement m → StatementTrees
  statement_row = statement_row_told (token_text words)

  abbrev pub branch_row : {m : _} → Row_of-Branch m → BranchTrees
  branch_row = branch_row_told (token_text words)
