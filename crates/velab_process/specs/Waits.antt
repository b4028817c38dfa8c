-- *trusted*: What event controls and `wait` listen to (IEEE 1364-2005, 9.7): terms, of which one is enough (9.7.4).
use Rattle.std.specs.Prelude.{List, [], ◌∷◌, ◌++◌, Option, None, Some, Result, Ok}
use Rattle.std.specs.List.{flat_map}
use Rattle.vast.specs.NumberedWords.{Word}
use Rattle.vast.specs.NumberedExpressions as text
use Rattle.vast.specs.NumberedStatements.{TargetTree, TargetTrees, ArgumentTree, quoted, printed, left_out, TaskTree, print, idle, dump_file, dump_vars, dump, end_run, DelayTree, by_number, by_name, by_value, FurtherTerm, EventTree, by_event, by_any, by_any_enclosed, by_terms, StatementTree, StatementTrees, empty, block, assign, nonblocking, trigger, if_true, if_else, case_of, while_true, repeat_times, forever, for_loop, wait_for, delay, event, task, no_statement, first_statement, BranchTree, BranchTrees, labelled, default, no_branch, first_branch}
use Rattle.vast.specs.NumberedStatements as written
use Rattle.vast.specs.declared.statement.Edge.{Edge as WrittenEdge}
use Rattle.vast.specs.declared.statement.Edge.TheVariants.{Rising, Falling}
use Rattle.vdesign.specs.declared.action.Edge.{Edge}
use Rattle.vdesign.specs.declared.action.Edge.TheVariants.{Any, Rise, Fall}
use Rattle.vdesign.specs.declared.action.Term.{Term}
use Rattle.vdesign.specs.declared.action.Term.TheVariants.{Change, Event as Triggered}
use Rattle.velab_expr.specs.declared.fault.ElabFault.{ElabFault}
use Rattle.velab_expr.specs.declared.fault.Rule.TheVariants.{Unknown, Kind}
use Rattle.velab_expr.specs.declared.scope.Meaning.{Meaning}
use Rattle.velab_expr.specs.declared.scope.Meaning.TheVariants.{Variable, Parameter, Event, Instance}
use Rattle.velab_expr.specs.Answers.{◌>>=◌, refuse}
use Rattle.velab_expr.specs.Scopes.{Scope, meaning_of}

-- ---- terms (9.7.2)

-- `posedge` and `negedge` hear one side of table 9-2; without them any change is heard
abbrev pub edge_of : Option WrittenEdge → Edge
edge_of None = Any
edge_of (Some Rising) = Rise
edge_of (Some Falling) = Fall

-- what is waited for, in a list of one: a change of a variable, or a named event (9.7.3), which has no edges
abbrev pub term_by : Edge → Word → Option Meaning → Result (List Term) ElabFault
term_by edge name None = refuse Unknown (Some name)
term_by edge name (Some (Variable number)) = Ok (Change edge number ∷ [])
term_by edge name (Some (Parameter value bounds before)) = refuse Kind (Some name)
term_by Any name (Some (Event number)) = Ok (Triggered number ∷ [])
term_by Rise name (Some (Event number)) = refuse Kind (Some name)
term_by Fall name (Some (Event number)) = refuse Kind (Some name)
term_by edge name (Some Instance) = refuse Kind (Some name)

abbrev pub lower_term : Scope → Edge → Word → Result (List Term) ElabFault
lower_term scope edge name = term_by edge name (meaning_of scope name)

-- after a comma or after `or`: both say the same (9.7.4)
abbrev pub lower_further : Scope → List FurtherTerm → Result (List Term) ElabFault
lower_further scope [] = Ok []
lower_further scope (further ∷ more) =
    lower_term scope (edge_of further.term.edge) further.term.name >>= λ front. lower_further scope more >>= λ others. Ok (front ++ others)

-- any change of a variable is heard; a parameter never changes, and an event or an instance has no value
abbrev pub change_terms_of : Option Meaning → List Term
change_terms_of None = []
change_terms_of (Some (Variable number)) = Change Any number ∷ []
change_terms_of (Some (Parameter value bounds before)) = []
change_terms_of (Some (Event number)) = []
change_terms_of (Some Instance) = []

-- any change of each of these
abbrev pub heard_by : Scope → Word → List Term
heard_by scope name = change_terms_of (meaning_of scope name)

abbrev pub any_of : Scope → List Word → List Term
any_of scope list = flat_map (heard_by scope) list

-- ---- what is read (9.7.5)

-- every name in an expression, in the order of the text, as often as it stands there; bounds and counts use those of parameters alone
abbrev mutual
  pub names_in : text.ExpressionTree → List Word
  names_in (text.number digits) = []
  names_in (text.name letters) = letters ∷ []
  names_in (text.time word) = []
  names_in (text.bit letters index) = letters ∷ names_in index
  names_in (text.part letters left right) = letters ∷ []
  names_in (text.parentheses inner) = names_in inner
  names_in (text.concatenation parts) = names_in_parts parts
  names_in (text.replication count parts) = names_in_parts parts
  names_in (text.conversion signed inner) = names_in inner
  names_in (text.apply operator inner) = names_in inner
  names_in (text.combine operator left right) = names_in left ++ names_in right
  names_in (text.conditional condition when_true when_false) = names_in condition ++ (names_in when_true ++ names_in when_false)

  pub names_in_parts : text.ExpressionTrees → List Word
  names_in_parts text.none = []
  names_in_parts (text.first one more) = names_in one ++ names_in_parts more

-- the indices of what is written
abbrev mutual
  pub read_by_target : TargetTree → List Word
  read_by_target (written.whole letters) = []
  read_by_target (written.bit letters index) = names_in index
  read_by_target (written.part letters left right) = []
  read_by_target (written.joined targets) = read_by_targets targets

  pub read_by_targets : TargetTrees → List Word
  read_by_targets written.none = []
  read_by_targets (written.first one more) = read_by_target one ++ read_by_targets more

abbrev pub read_by_delay : DelayTree → List Word
read_by_delay (by_number digits) = []
read_by_delay (by_name letters) = letters ∷ []
read_by_delay (by_value amount) = names_in amount

abbrev pub read_by_own : Option DelayTree → List Word
read_by_own None = []
read_by_own (Some amount) = read_by_delay amount

-- an assignment of either kind reads indices, its own delay, and its right side
abbrev pub read_by_assignment : TargetTree → Option DelayTree → text.ExpressionTree → List Word
read_by_assignment target amount value = read_by_target target ++ (read_by_own amount ++ names_in value)

abbrev pub read_by_argument : ArgumentTree → List Word
read_by_argument (quoted letters) = []
read_by_argument (printed tree) = names_in tree
read_by_argument left_out = []

abbrev pub read_by_arguments : List ArgumentTree → List Word
read_by_arguments [] = []
read_by_arguments (one ∷ more) = read_by_argument one ++ read_by_arguments more

abbrev pub read_by_task : TaskTree → List Word
read_by_task (print kind arguments) = read_by_arguments arguments
-- a task that has no effect reads nothing (own)
read_by_task (idle kind arguments) = []
read_by_task (dump_file letters) = []
read_by_task (dump_vars selection) = []
read_by_task (dump kind) = []
read_by_task (end_run stops digits) = []

-- the items in front of one statement of a `case`
abbrev pub read_by_items : text.ExpressionTrees → List Word
read_by_items text.none = []
read_by_items (text.first item more) = names_in item ++ read_by_items more

-- The names that a statement reads, in the order of the text. The terms of an event control and the condition of a `wait` in it
-- aren't read; the statements after them are.
abbrev mutual
  pub read_by : StatementTree → List Word
  read_by empty = []
  read_by (block label statements) = read_by_all statements
  read_by (assign target amount value) = read_by_assignment target amount value
  read_by (nonblocking target amount value) = read_by_assignment target amount value
  read_by (trigger letters) = []
  read_by (if_true condition body) = names_in condition ++ read_by body
  read_by (if_else condition body other) = names_in condition ++ (read_by body ++ read_by other)
  read_by (case_of kind value branches) = names_in value ++ read_by_branches branches
  read_by (while_true condition body) = names_in condition ++ read_by body
  read_by (repeat_times count body) = names_in count ++ read_by body
  read_by (forever body) = read_by body
  read_by (for_loop target value condition next_target next_value body) =
      read_by_assignment target None value ++ (names_in condition ++ (read_by_assignment next_target None next_value ++ read_by body))
  read_by (wait_for condition body) = read_by body
  read_by (delay amount body) = read_by_delay amount ++ read_by body
  read_by (event control body) = read_by body
  read_by (task call) = read_by_task call

  pub read_by_all : StatementTrees → List Word
  read_by_all no_statement = []
  read_by_all (first_statement statement rest) = read_by statement ++ read_by_all rest

  pub read_by_branch : BranchTree → List Word
  read_by_branch (labelled items body) = read_by_items items ++ read_by body
  read_by_branch (default colon body) = read_by body

  pub read_by_branches : BranchTrees → List Word
  read_by_branches no_branch = []
  read_by_branches (first_branch branch rest) = read_by_branch branch ++ read_by_branches rest

-- ---- event controls

-- What `@control body` listens to. `@*` listens to any change of what its body reads; where that is nothing, it listens to nothing.
abbrev pub lower_control : Scope → EventTree → StatementTree → Result (List Term) ElabFault
lower_control scope (by_event letters) body = lower_term scope Any letters
lower_control scope by_any body = Ok (any_of scope (read_by body))
lower_control scope by_any_enclosed body = Ok (any_of scope (read_by body))
lower_control scope (by_terms term further) body =
    lower_term scope (edge_of term.edge) term.name >>= λ front. lower_further scope further >>= λ others. Ok (front ++ others)
