-- The words of statements of the program, as their trees tell them.
use Rattle.std.proofs.Common.{◌≡◌, [], ◌∷◌, map, Option, Box, refl}
use Rattle.std.specs.Option.{option_map}
use Rattle.vast.specs.Statements.{TargetOf, TargetsOf, by_value, TermOf, FurtherOf, by_terms, printed, SelectionOf, print, idle, dump_vars, end_run, block, assign, nonblocking, if_true, if_else, case_of, while_true, repeat_times, forever, for_loop, wait_for, delay, event, task, first_statement, labelled, default, first_branch}
use Rattle.vast.specs.Statements as written
use Rattle.vast.specs.ExpressionTrees.{boxed_told}
use Rattle.vast.specs.StatementTrees.{target_told, target_row_told, delay_told, term_told, further_told, event_told, argument_told, path_told, selection_told, task_told, statement_told, branch_told, statement_row_told, branch_row_told}
use Rattle.vast.specs.Leaves.{target_leaves, target_row_leaves, delay_leaves, further_leaves, event_leaves, argument_leaves, path_leaves, selection_leaves, task_leaves, assignment_leaves, pair_leaves, statement_leaves, branch_leaves, statement_row_leaves, branch_row_leaves}
use Rattle.vast.specs.TreeWords.{target_with, targets_with, target_words, targets_words, delay_with, delay_words, further_with, further_words, event_with, event_words, argument_with, argument_words, selection_with, path_words, selection_words, digits_words, task_with, task_words, assignment_words, pair_words, statement_with, statement_words, statements_with, statements_words, branch_with, branch_words, branches_with, branches_words, name_words}
use Rattle.vast.specs.declared.token.Token.{Token}
use Rattle.vast.specs.declared.expression.Expression.{Expression}
use Rattle.vast.specs.declared.statement.Target.{Target, Whole, Bit, Part, Joined', Row_of-Target, end_of-Target, more_of-Target}
use Rattle.vast.specs.declared.statement.Delay.{Delay}
use Rattle.vast.specs.declared.statement.Delay.TheVariants as delays
use Rattle.vast.specs.declared.statement.Event.{Event}
use Rattle.vast.specs.declared.statement.Event.TheVariants as events
use Rattle.vast.specs.declared.statement.Argument.{Argument}
use Rattle.vast.specs.declared.statement.Argument.TheVariants as arguments
use Rattle.vast.specs.declared.statement.Path.{Path}
use Rattle.vast.specs.declared.statement.Selection.{Selection}
use Rattle.vast.specs.declared.statement.Task.{Task}
use Rattle.vast.specs.declared.statement.Task.TheVariants as tasks
use Rattle.vast.specs.declared.statement.Statement.{Statement, Empty, Block', Assign, Nonblocking, Trigger, If', IfElse', Case', While', Repeat', Forever', For', Wait', Delayed', OnEvent', Task as Call, Row_of-Statement, end_of-Statement, more_of-Statement, Row_of-Branch, end_of-Branch, more_of-Branch}
use Rattle.vast.specs.declared.statement.Branch.{Branch, Labelled, Default}
use Rattle.vast.proofs.MappedLists.{map_same, option_same, joined_words, flat_words, words_if_some}
use Rattle.vast.proofs.ExpressionWordLemmas.{boxed_with_told, expressions_with_told, boxed_words_told, expressions_words_told}

-- ---- told and then changed, they are told changed

module _ {V W : Type 0} (f : V → W) (told : Token → V) where
  mutual
    pub target_with_told : (t : Target) → target_with f (target_told told t) ≡ target_told (λ x. f (told x)) t
    target_with_told (Whole word) = refl
    target_with_told (Bit word index) = λ i. written.bit (f (told word)) (boxed_with_told f told index i)
    target_with_told (Part word left right) =
        λ i. written.part (f (told word)) (boxed_with_told f told left i) (boxed_with_told f told right i)
    target_with_told (Joined' at shape row) = λ i. written.joined (target_row_with_told _ row i)

    -- the parts of a joined target
    pub target_row_with_told : (m : _) (row : Row_of-Target m) → targets_with f (target_row_told told row) ≡ target_row_told (λ x. f (told x)) row
    target_row_with_told m end_of-Target = refl
    target_row_with_told m (more_of-Target one more) = λ i. written.first (target_with_told one i) (target_row_with_told _ more i)

  -- amounts of delay
  pub delay_with_told : (amount : Delay) → delay_with f (delay_told told amount) ≡ delay_told (λ x. f (told x)) amount
  delay_with_told (delays.Number word) = refl
  delay_with_told (delays.Name word) = refl
  delay_with_told (delays.Value value) = λ i. by_value (boxed_with_told f told value i)

  -- event controls
  pub event_with_told : (control : Event) → event_with f (event_told told control) ≡ event_told (λ x. f (told x)) control
  event_with_told (events.Named word) = refl
  event_with_told events.Any = refl
  event_with_told events.AnyEnclosed = refl
  event_with_told (events.Terms term further) =
      λ i. by_terms (term_told (λ x. f (told x)) term)
      (map_same (further_with f) (further_told told) (further_told (λ x. f (told x))) (λ x. refl) further.items i)

  -- what a printing task is given
  pub argument_with_told : (a : Argument) → argument_with f (argument_told told a) ≡ argument_told (λ x. f (told x)) a
  argument_with_told (arguments.Text word) = refl
  argument_with_told (arguments.Value value) = λ i. printed (boxed_with_told f told value i)
  argument_with_told arguments.LeftOut = refl

  -- paths of names
  pub path_with_told : (path : Path) → map f (path_told told path) ≡ path_told (λ x. f (told x)) path
  path_with_told path = map_same f told (λ x. f (told x)) (λ x. refl) path.names.items

  -- what is dumped
  pub selection_with_told : (s : Selection) → selection_with f (selection_told told s) ≡ selection_told (λ x. f (told x)) s
  selection_with_told s = λ i. record {
    levels = f (told s.levels);
    paths = map_same (map f) (path_told told) (path_told (λ x. f (told x))) path_with_told s.paths.items i;
  }

  -- calls of system tasks
  pub task_with_told : (call : Task) → task_with f (task_told told call) ≡ task_told (λ x. f (told x)) call
  task_with_told (tasks.Print kind list) =
      λ i. print kind (map_same (argument_with f) (argument_told told) (argument_told (λ x. f (told x))) argument_with_told list.items i)
  task_with_told (tasks.Idle kind list) =
      λ i. idle kind (map_same (argument_with f) (argument_told told) (argument_told (λ x. f (told x))) argument_with_told list.items i)
  task_with_told (tasks.DumpFile word) = refl
  task_with_told (tasks.DumpVars selection) =
      λ i. dump_vars (option_same (selection_with f) (selection_told told) (selection_told (λ x. f (told x))) selection_with_told selection i)
  task_with_told (tasks.Dump kind) = refl
  task_with_told (tasks.End stops word) = λ i. end_run stops (option_same f told (λ x. f (told x)) (λ x. refl) word i)

  -- amounts of delay that may be left out
  pub delays_with_told : (amount : Option Delay) →
      option_map (delay_with f) (option_map (delay_told told) amount) ≡ option_map (delay_told (λ x. f (told x))) amount
  delays_with_told amount = option_same (delay_with f) (delay_told told) (delay_told (λ x. f (told x))) delay_with_told amount

  mutual
    pub statement_with_told : (s : Statement) → statement_with f (statement_told told s) ≡ statement_told (λ x. f (told x)) s
    statement_with_told Empty = refl
    statement_with_told (Block' label shape row) =
        λ i. block (option_same f told (λ x. f (told x)) (λ x. refl) label i) (statement_row_with_told _ row i)
    statement_with_told (Assign at target amount value) =
        λ i. assign (target_with_told target i) (delays_with_told amount i) (boxed_with_told f told value i)
    statement_with_told (Nonblocking at target amount value) =
        λ i. nonblocking (target_with_told target i) (delays_with_told amount i) (boxed_with_told f told value i)
    statement_with_told (Trigger at word) = refl
    statement_with_told (If' at condition place body) = λ i. if_true (boxed_with_told f told condition i) (statement_with_told body i)
    statement_with_told (IfElse' at condition place body place_too other) =
        λ i. if_else (boxed_with_told f told condition i) (statement_with_told body i) (statement_with_told other i)
    statement_with_told (Case' at kind value shape row) = λ i. case_of kind (boxed_with_told f told value i) (branch_row_with_told _ row i)
    statement_with_told (While' at condition place body) = λ i. while_true (boxed_with_told f told condition i) (statement_with_told body i)
    statement_with_told (Repeat' at count place body) = λ i. repeat_times (boxed_with_told f told count i) (statement_with_told body i)
    statement_with_told (Forever' at place body) = λ i. forever (statement_with_told body i)
    statement_with_told (For' at target value condition next_target next_value place body) =
        λ i. for_loop (target_with_told target i) (boxed_with_told f told value i) (boxed_with_told f told condition i)
        (target_with_told next_target i) (boxed_with_told f told next_value i) (statement_with_told body i)
    statement_with_told (Wait' at condition place body) = λ i. wait_for (boxed_with_told f told condition i) (statement_with_told body i)
    statement_with_told (Delayed' at amount place body) = λ i. delay (delay_with_told amount i) (statement_with_told body i)
    statement_with_told (OnEvent' at control place body) = λ i. event (event_with_told control i) (statement_with_told body i)
    statement_with_told (Call at call) = λ i. task (task_with_told call i)

    -- a branch of a case
    pub branch_with_told : (b : Branch) → branch_with f (branch_told told b) ≡ branch_told (λ x. f (told x)) b
    branch_with_told (Labelled labels body) = λ i. labelled (expressions_with_told f told labels.items i) (statement_with_told body i)
    branch_with_told (Default colon body) = λ i. default colon (statement_with_told body i)

    -- the statements of a block
    pub statement_row_with_told : (m : _) (row : Row_of-Statement m) →
        statements_with f (statement_row_told told row) ≡ statement_row_told (λ x. f (told x)) row
    statement_row_with_told m end_of-Statement = refl
    statement_row_with_told m (more_of-Statement one more) = λ i. first_statement (statement_with_told one i) (statement_row_with_told _ more i)

    -- the branches of a case
    pub branch_row_with_told : (m : _) (row : Row_of-Branch m) → branches_with f (branch_row_told told row) ≡ branch_row_told (λ x. f (told x)) row
    branch_row_with_told m end_of-Branch = refl
    branch_row_with_told m (more_of-Branch one more) = λ i. first_branch (branch_with_told one i) (branch_row_with_told _ more i)

-- ---- their words are what their tokens tell

module _ {W : Type 0} (told : Token → W) where
  mutual
    pub target_words_told : (t : Target) → target_words (target_told told t) ≡ map told (target_leaves t)
    target_words_told (Whole word) = refl
    target_words_told (Bit word index) = λ i. told word ∷ boxed_words_told told index i
    target_words_told (Part word left right) =
        λ i. told word ∷ joined_words told _ _ (boxed_words_told told left) (boxed_words_told told right) i
    target_words_told (Joined' at shape row) = target_row_words_told _ row

    -- the parts of a joined target
    pub target_row_words_told : (m : _) (row : Row_of-Target m) → targets_words (target_row_told told row) ≡ map told (target_row_leaves row)
    target_row_words_told m end_of-Target = refl
    target_row_words_told m (more_of-Target one more) = joined_words told _ _ (target_words_told one) (target_row_words_told _ more)

  -- amounts of delay
  pub delay_words_told : (amount : Delay) → delay_words (delay_told told amount) ≡ map told (delay_leaves amount)
  delay_words_told (delays.Number word) = refl
  delay_words_told (delays.Name word) = refl
  delay_words_told (delays.Value value) = boxed_words_told told value

  -- event controls
  pub event_words_told : (control : Event) → event_words (event_told told control) ≡ map told (event_leaves control)
  event_words_told (events.Named word) = refl
  event_words_told events.Any = refl
  event_words_told events.AnyEnclosed = refl
  event_words_told (events.Terms term further) =
      λ i. told term.name ∷ flat_words told further_words (further_told told) further_leaves (λ x. refl) further.items i

  -- what a printing task is given
  pub argument_words_told : (a : Argument) → argument_words (argument_told told a) ≡ map told (argument_leaves a)
  argument_words_told (arguments.Text word) = refl
  argument_words_told (arguments.Value value) = boxed_words_told told value
  argument_words_told arguments.LeftOut = refl

  -- what is dumped
  pub selection_words_told : (s : Selection) → selection_words (selection_told told s) ≡ map told (selection_leaves s)
  selection_words_told s = λ i. told s.levels ∷ flat_words told path_words (path_told told) path_leaves (λ x. refl) s.paths.items i

  -- calls of system tasks
  pub task_words_told : (call : Task) → task_words (task_told told call) ≡ map told (task_leaves call)
  task_words_told (tasks.Print kind list) = flat_words told argument_words (argument_told told) argument_leaves argument_words_told list.items
  task_words_told (tasks.Idle kind list) = flat_words told argument_words (argument_told told) argument_leaves argument_words_told list.items
  task_words_told (tasks.DumpFile word) = refl
  task_words_told (tasks.DumpVars selection) =
      words_if_some told selection_words (selection_told told) selection_leaves selection_words_told selection
  task_words_told (tasks.Dump kind) = refl
  task_words_told (tasks.End stops word) = words_if_some told digits_words told (λ x. x ∷ []) (λ x. refl) word

  -- what is assigned
  pub assignment_words_told : {A : Type 0} (target : Target) (amount : Option Delay) (value : Box Expression A) →
      assignment_words (target_told told target) (option_map (delay_told told) amount) (boxed_told told value)
      ≡ map told (assignment_leaves target amount value)
  assignment_words_told target amount value =
      joined_words told _ _ (target_words_told target)
      (joined_words told _ _ (words_if_some told delay_words (delay_told told) delay_leaves delay_words_told amount) (boxed_words_told told value))

  -- what is assigned without a delay
  pub pair_words_told : {A : Type 0} (target : Target) (value : Box Expression A) →
      pair_words (target_told told target) (boxed_told told value) ≡ map told (pair_leaves target value)
  pair_words_told target value = joined_words told _ _ (target_words_told target) (boxed_words_told told value)

  mutual
    pub statement_words_told : (s : Statement) → statement_words (statement_told told s) ≡ map told (statement_leaves s)
    statement_words_told Empty = refl
    statement_words_told (Block' label shape row) =
        joined_words told _ _ (words_if_some told name_words told (λ x. x ∷ []) (λ x. refl) label) (statement_row_words_told _ row)
    statement_words_told (Assign at target amount value) = assignment_words_told target amount value
    statement_words_told (Nonblocking at target amount value) = assignment_words_told target amount value
    statement_words_told (Trigger at word) = refl
    statement_words_told (If' at condition place body) = joined_words told _ _ (boxed_words_told told condition) (statement_words_told body)
    statement_words_told (IfElse' at condition place body place_too other) =
        joined_words told _ _ (boxed_words_told told condition) (joined_words told _ _ (statement_words_told body) (statement_words_told other))
    statement_words_told (Case' at kind value shape row) = joined_words told _ _ (boxed_words_told told value) (branch_row_words_told _ row)
    statement_words_told (While' at condition place body) = joined_words told _ _ (boxed_words_told told condition) (statement_words_told body)
    statement_words_told (Repeat' at count place body) = joined_words told _ _ (boxed_words_told told count) (statement_words_told body)
    statement_words_told (Forever' at place body) = statement_words_told body
    statement_words_told (For' at target value condition next_target next_value place body) =
        joined_words told _ _ (pair_words_told target value) (joined_words told _ _ (boxed_words_told told condition)
        (joined_words told _ _ (pair_words_told next_target next_value) (statement_words_told body)))
    statement_words_told (Wait' at condition place body) = joined_words told _ _ (boxed_words_told told condition) (statement_words_told body)
    statement_words_told (Delayed' at amount place body) = joined_words told _ _ (delay_words_told amount) (statement_words_told body)
    statement_words_told (OnEvent' at control place body) = joined_words told _ _ (event_words_told control) (statement_words_told body)
    statement_words_told (Call at call) = task_words_told call

    -- a branch of a case
    pub branch_words_told : (b : Branch) → branch_words (branch_told told b) ≡ map told (branch_leaves b)
    branch_words_told (Labelled labels body) = joined_words told _ _ (expressions_words_told told labels.items) (statement_words_told body)
    branch_words_told (Default colon body) = statement_words_told body

    -- the statements of a block
    pub statement_row_words_told : (m : _) (row : Row_of-Statement m) →
        statements_words (statement_row_told told row) ≡ map told (statement_row_leaves row)
    statement_row_words_told m end_of-Statement = refl
    statement_row_words_told m (more_of-Statement one more) = joined_words told _ _ (statement_words_told one) (statement_row_words_told _ more)

    -- the branches of a case
    pub branch_row_words_told : (m : _) (row : Row_of-Branch m) → branches_words (branch_row_told told row) ≡ map told (branch_row_leaves row)
    branch_row_words_told m end_of-Branch = refl
    branch_row_words_told m (more_of-Branch one more) = joined_words told _ _ (branch_words_told one) (branch_row_words_told _ more)
