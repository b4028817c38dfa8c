-- *trusted*: Names that are used, in the order in which they are looked up (IEEE 1364-2005, 4.10, 5.1, 9.7, 12.7).
use Rattle.std.specs.Prelude.{Bool, true, false, if◌then◌else◌, List, [], ◌∷◌, ◌++◌, Option, None, Some}
use Rattle.std.specs.List.{flat_map}
use Rattle.vast.specs.NumberedWords.{Word}
use Rattle.vast.specs.NumberedExpressions as text
use Rattle.vast.specs.NumberedStatements.{TargetTree, TargetTrees, whole, bit, part, joined, none, first, ArgumentTree, quoted, printed, left_out, SelectionTree, TaskTree, print, idle, dump_file, dump_vars, dump, end_run, DelayTree, by_number, by_name, by_value, FurtherTerm, EventTree, by_event, by_any, by_any_enclosed, by_terms, StatementTree, StatementTrees, empty, block, assign, nonblocking, trigger, if_true, if_else, case_of, while_true, repeat_times, forever, for_loop, wait_for, delay, event, task, no_statement, first_statement, BranchTree, BranchTrees, labelled, default, no_branch, first_branch}
use Rattle.vast.specs.NumberedModules.{RangeTree}
use Rattle.vdesign.specs.declared.action.Edge.{Edge}
use Rattle.vdesign.specs.declared.action.Edge.TheVariants.{Any}
use Rattle.velab_process.specs.Waits.{edge_of}
use Rattle.velab_process.specs.Processes.{ProcessTree, procedural, continuous}

-- how a name is used: its value is read, or a bit or a part of it; a process writes it, or a bit or a part of it; a continuous assignment
-- drives it, or a bit or a part of it (6.1); it is triggered (9.7.3); it is waited for, any change or one edge (9.7.2)
pub data Way : Type 0 where
  Read : Way
  ReadIn : Way
  Written : Way
  WrittenIn : Way
  Driven : Way
  DrivenIn : Way
  Triggered : Way
  Awaited : Edge → Way

-- what is looked up: a name, used so, in a constant or not; the time (17.7.1); the formats of what is printed (17.1.1); the number of levels
-- of a `$dumpvars` (18.1.2)
pub data Use : Type 0 where
  use_of : Way → Bool → Word → Use
  use_of_time : Bool → Use
  use_of_formats : List ArgumentTree → Use
  use_of_levels : Word → Use

-- ---- expressions: bounds of a part and counts are constants (5.1.14, 5.2.1)

abbrev mutual
  pub used_in : Bool → text.ExpressionTree → List Use
  used_in constant (text.number digits) = []
  used_in constant (text.name letters) = use_of Read constant letters ∷ []
  used_in constant (text.time word) = use_of_time constant ∷ []
  used_in constant (text.bit letters index) = use_of ReadIn constant letters ∷ used_in constant index
  used_in constant (text.part letters left right) = use_of ReadIn constant letters ∷ (used_in true left ++ used_in true right)
  used_in constant (text.parentheses inner) = used_in constant inner
  used_in constant (text.concatenation parts) = used_in_parts constant parts
  used_in constant (text.replication count parts) = used_in true count ++ used_in_parts constant parts
  used_in constant (text.conversion signed inner) = used_in constant inner
  used_in constant (text.apply operator inner) = used_in constant inner
  used_in constant (text.combine operator left right) = used_in constant left ++ used_in constant right
  used_in constant (text.conditional condition when_true when_false) =
      used_in constant condition ++ (used_in constant when_true ++ used_in constant when_false)

  pub used_in_parts : Bool → text.ExpressionTrees → List Use
  used_in_parts constant text.none = []
  used_in_parts constant (text.first one more) = used_in constant one ++ used_in_parts constant more

-- 4.3.1: both bounds are constants
abbrev pub used_in_range : Option RangeTree → List Use
used_in_range None = []
used_in_range (Some range) = used_in true range.left ++ used_in true range.right

-- ---- what is written

-- by a continuous assignment, which drives, or by a process
abbrev pub way_of_whole : Bool → Way
way_of_whole drives = if drives then Driven else Written

abbrev pub way_of_part : Bool → Way
way_of_part drives = if drives then DrivenIn else WrittenIn

-- 6.1: a bit that is driven goes by a constant
abbrev mutual
  pub used_in_target_by : Bool → TargetTree → List Use
  used_in_target_by drives (whole letters) = use_of (way_of_whole drives) false letters ∷ []
  used_in_target_by drives (bit letters index) = use_of (way_of_part drives) false letters ∷ used_in drives index
  used_in_target_by drives (part letters left right) = use_of (way_of_part drives) false letters ∷ (used_in true left ++ used_in true right)
  used_in_target_by drives (joined targets) = used_in_targets_by drives targets

  pub used_in_targets_by : Bool → TargetTrees → List Use
  used_in_targets_by drives none = []
  used_in_targets_by drives (first one more) = used_in_target_by drives one ++ used_in_targets_by drives more

abbrev pub used_in_target : TargetTree → List Use
used_in_target target = used_in_target_by false target

-- ---- delays, event controls and tasks: what `@*` listens to is used in its body

abbrev pub used_in_delay : DelayTree → List Use
used_in_delay (by_number digits) = []
used_in_delay (by_name letters) = use_of Read false letters ∷ []
used_in_delay (by_value amount) = used_in false amount

abbrev pub used_in_own : Option DelayTree → List Use
used_in_own None = []
used_in_own (Some amount) = used_in_delay amount

abbrev pub used_in_assignment : TargetTree → Option DelayTree → text.ExpressionTree → List Use
used_in_assignment target amount value = used_in_target target ++ (used_in_own amount ++ used_in false value)

abbrev pub used_in_further : List FurtherTerm → List Use
used_in_further [] = []
used_in_further (one ∷ more) = use_of (Awaited (edge_of one.term.edge)) false one.term.name ∷ used_in_further more

abbrev pub used_in_control : EventTree → List Use
used_in_control (by_event letters) = use_of (Awaited Any) false letters ∷ []
used_in_control by_any = []
used_in_control by_any_enclosed = []
used_in_control (by_terms term further) = use_of (Awaited (edge_of term.edge)) false term.name ∷ used_in_further further

abbrev pub used_in_argument : ArgumentTree → List Use
used_in_argument (quoted letters) = []
used_in_argument (printed tree) = used_in false tree
used_in_argument left_out = []

abbrev pub used_in_arguments : List ArgumentTree → List Use
used_in_arguments [] = []
used_in_arguments (one ∷ more) = used_in_argument one ++ used_in_arguments more

abbrev pub used_in_selection : Option SelectionTree → List Use
used_in_selection None = []
used_in_selection (Some selection) = use_of_levels selection.levels ∷ []

abbrev pub used_in_task : TaskTree → List Use
used_in_task (print kind arguments) = used_in_arguments arguments ++ use_of_formats arguments ∷ []
used_in_task (idle kind arguments) = []
used_in_task (dump_file letters) = []
used_in_task (dump_vars selection) = used_in_selection selection
used_in_task (dump kind) = []
used_in_task (end_run stops digits) = []

-- ---- statements

-- a branch of a `case`: its statement, and then the items in front of it
abbrev mutual
  pub used_by : StatementTree → List Use
  used_by empty = []
  used_by (block label statements) = used_by_all statements
  used_by (assign target amount value) = used_in_assignment target amount value
  used_by (nonblocking target amount value) = used_in_assignment target amount value
  used_by (trigger letters) = use_of Triggered false letters ∷ []
  used_by (if_true condition body) = used_in false condition ++ used_by body
  used_by (if_else condition body other) = used_in false condition ++ (used_by body ++ used_by other)
  used_by (case_of kind value branches) = used_in false value ++ used_by_branches branches
  used_by (while_true condition body) = used_in false condition ++ used_by body
  used_by (repeat_times count body) = used_in false count ++ used_by body
  used_by (forever body) = used_by body
  used_by (for_loop target value condition next_target next_value body) =
      used_in_assignment target None value ++ (used_in false condition ++ (used_by body ++ used_in_assignment next_target None next_value))
  used_by (wait_for condition body) = used_in false condition ++ used_by body
  used_by (delay amount body) = used_in_delay amount ++ used_by body
  used_by (event control body) = used_in_control control ++ used_by body
  used_by (task call) = used_in_task call

  pub used_by_all : StatementTrees → List Use
  used_by_all no_statement = []
  used_by_all (first_statement statement rest) = used_by statement ++ used_by_all rest

  pub used_by_branch : BranchTree → List Use
  used_by_branch (labelled items body) = used_by body ++ used_in_parts false items
  used_by_branch (default colon body) = used_by body

  pub used_by_branches : BranchTrees → List Use
  used_by_branches no_branch = []
  used_by_branches (first_branch branch rest) = used_by_branch branch ++ used_by_branches rest

-- ---- processes

abbrev pub used_by_process : ProcessTree → List Use
used_by_process (procedural statement) = used_by statement
used_by_process (continuous target value) = used_in_target_by true target ++ used_in false value

abbrev pub used_by_processes : List ProcessTree → List Use
used_by_processes list = flat_map used_by_process list
