-- *internal*: How many words the parts of a text have. They are as many as they spell, which the law [lengths] of `law.rt` says.
use Rattle.std.specs.Prelude.{ℕ, ◌+◌, ◌-◌, Bool, true, false, List, [], ◌∷◌, length, Option, None, Some}
use Rattle.vast.specs.NumberedWords.{Word}
use Rattle.vast.specs.NumberedExpressions as text
use Rattle.vast.specs.NumberedExpressions.{ExpressionTree, ExpressionTrees}
use Rattle.vast.specs.NumberedStatements as written
use Rattle.vast.specs.NumberedStatements.{TargetTree, TargetTrees, DelayTree, by_number, by_name, by_value, TermTree, EventTree, by_event, by_any, by_any_enclosed, by_terms, ArgumentTree, quoted, printed, left_out, SelectionTree, TaskTree, print, idle, dump_file, dump_vars, dump, end_run, StatementTree, StatementTrees, empty, block, assign, nonblocking, trigger, if_true, if_else, case_of, while_true, repeat_times, forever, for_loop, wait_for, delay, event, task, no_statement, first_statement, BranchTree, BranchTrees, labelled, default, no_branch, first_branch}
use Rattle.vast.specs.NumberedModules as modules
use Rattle.vast.specs.NumberedModules.{RangeTree, TypeTree, ParameterType, integer, typed, SettingTree, DeclaredTree, DirectionTree, input, output, output_integer, PortTree, HeadParameter, ConnectionTree, ConnectionsTree, InstanceTree, DeclarationKind, variables, integers, directed, ItemTree, parameters, declaration, events, assignments, initial, always, instances, NetAssignment}

-- of what may be left out
abbrev pub length_if : {A : Type 0} → (A → ℕ) → Option A → ℕ
length_if length_of None = 0
length_if length_of (Some one) = length_of one

-- a word that may be left out
abbrev pub word_if : {A : Type 0} → Option A → ℕ
word_if None = 0
word_if (Some one) = 1

abbrev pub word_where : Bool → ℕ
word_where true = 1
word_where false = 0

-- of all of these, each with a word behind it: a comma, or the word that ends them
abbrev pub length_of_each : {A : Type 0} → (A → ℕ) → List A → ℕ
length_of_each length_of [] = 0
length_of_each length_of (one ∷ more) = (length_of one + 1) + length_of_each length_of more

-- where there are none, that word stands alone
abbrev pub length_of_end : {A : Type 0} → List A → ℕ
length_of_end [] = 1
length_of_end (one ∷ more) = 0

-- a list, and the word that ends it
abbrev pub list_length : {A : Type 0} → (A → ℕ) → List A → ℕ
list_length length_of list = length_of_end list + length_of_each length_of list

-- ---- expressions (clause 5)

abbrev mutual
  pub expression_length : ExpressionTree → ℕ
  expression_length (text.number digits) = 1
  expression_length (text.name letters) = 1
  expression_length (text.time word) = 1
  expression_length (text.bit letters index) = 3 + expression_length index
  expression_length (text.part letters left right) = 4 + (expression_length left + expression_length right)
  expression_length (text.parentheses inner) = 2 + expression_length inner
  expression_length (text.concatenation parts) = 1 + (end_of_parts parts + each_part parts)
  expression_length (text.replication count parts) = 3 + (expression_length count + (end_of_parts parts + each_part parts))
  expression_length (text.conversion signed inner) = 3 + expression_length inner
  expression_length (text.apply operator inner) = 1 + expression_length inner
  expression_length (text.combine operator left right) = 1 + (expression_length left + expression_length right)
  expression_length (text.conditional condition when_true when_false) =
      2 + (expression_length condition + (expression_length when_true + expression_length when_false))

  -- each with a word behind it
  pub each_part : ExpressionTrees → ℕ
  each_part text.none = 0
  each_part (text.first one more) = (expression_length one + 1) + each_part more

  pub end_of_parts : ExpressionTrees → ℕ
  end_of_parts text.none = 1
  end_of_parts (text.first one more) = 0

-- parts, and the word that ends them
abbrev pub parts_length : ExpressionTrees → ℕ
parts_length parts = end_of_parts parts + each_part parts

-- ---- parts of statements (clauses 9, 17 and 18)

abbrev mutual
  pub target_length : TargetTree → ℕ
  target_length (written.whole letters) = 1
  target_length (written.bit letters index) = 3 + expression_length index
  target_length (written.part letters left right) = 4 + (expression_length left + expression_length right)
  target_length (written.joined targets) = 1 + (end_of_targets targets + each_target targets)

  -- each with a word behind it
  pub each_target : TargetTrees → ℕ
  each_target written.none = 0
  each_target (written.first one more) = (target_length one + 1) + each_target more

  pub end_of_targets : TargetTrees → ℕ
  end_of_targets written.none = 1
  end_of_targets (written.first one more) = 0

-- targets, and the word that ends them
abbrev pub targets_length : TargetTrees → ℕ
targets_length targets = end_of_targets targets + each_target targets

abbrev pub delay_length : DelayTree → ℕ
delay_length (by_number digits) = 2
delay_length (by_name letters) = 2
delay_length (by_value amount) = 3 + expression_length amount

abbrev pub term_length : TermTree → ℕ
term_length term = word_if term.edge + 1

-- further terms, each with a word before it
abbrev pub further_length : List written.FurtherTerm → ℕ
further_length [] = 0
further_length (one ∷ more) = (1 + term_length one.term) + further_length more

abbrev pub event_length : EventTree → ℕ
event_length (by_event letters) = 2
event_length by_any = 2
event_length by_any_enclosed = 4
event_length (by_terms term further) = 3 + (term_length term + further_length further)

abbrev pub argument_length : ArgumentTree → ℕ
argument_length (quoted letters) = 1
argument_length (printed value) = expression_length value
argument_length left_out = 0

-- without arguments no parentheses stand
abbrev pub arguments_length : List ArgumentTree → ℕ
arguments_length [] = 0
arguments_length (one ∷ more) = 1 + length_of_each argument_length (one ∷ more)

-- names, a point between two of them
abbrev pub path_length : List Word → ℕ
path_length path = length path + (length path - 1)

-- paths, each with a comma before it
abbrev pub paths_length : List (List Word) → ℕ
paths_length [] = 0
paths_length (one ∷ more) = (1 + path_length one) + paths_length more

abbrev pub selection_length : SelectionTree → ℕ
selection_length selection = 3 + paths_length selection.paths

abbrev pub task_length : TaskTree → ℕ
task_length (print kind arguments) = 1 + arguments_length arguments
task_length (idle kind arguments) = 1 + arguments_length arguments
task_length (dump_file letters) = 4
task_length (dump_vars selection) = 1 + length_if selection_length selection
task_length (dump kind) = 1
task_length (end_run stops digits) = 1 + length_if (λ word. 3) digits

-- target = # delay value ;
abbrev pub assignment_length : TargetTree → Option DelayTree → ExpressionTree → ℕ
assignment_length target amount value = 2 + (target_length target + (length_if delay_length amount + expression_length value))

-- target = value
abbrev pub pair_length : TargetTree → ExpressionTree → ℕ
pair_length target value = 1 + (target_length target + expression_length value)

-- keyword ( condition )
abbrev pub head_length : ExpressionTree → ℕ
head_length condition = 3 + expression_length condition

-- for ( target = value ; condition ;
abbrev pub for_length : TargetTree → ExpressionTree → ExpressionTree → ℕ
for_length target value condition = 4 + (pair_length target value + expression_length condition)

-- target = value )
abbrev pub turn_length : TargetTree → ExpressionTree → ℕ
turn_length target value = pair_length target value + 1

-- begin : name or begin (9.8.3)
abbrev pub begin_length : Option Word → ℕ
begin_length None = 1
begin_length (Some label) = 3

-- default : or default
abbrev pub default_length : Bool → ℕ
default_length colon = 1 + word_where colon

-- ---- statements (clause 9)

abbrev mutual
  pub statement_length : StatementTree → ℕ
  statement_length empty = 1
  statement_length (block label list) = begin_length label + (statements_length list + 1)
  statement_length (assign target amount value) = assignment_length target amount value
  statement_length (nonblocking target amount value) = assignment_length target amount value
  statement_length (trigger letters) = 3
  statement_length (if_true condition body) = head_length condition + statement_length body
  statement_length (if_else condition body other) = head_length condition + ((statement_length body + 1) + statement_length other)
  statement_length (case_of kind value branches) = head_length value + (branches_length branches + 1)
  statement_length (while_true condition body) = head_length condition + statement_length body
  statement_length (repeat_times count body) = head_length count + statement_length body
  statement_length (forever body) = 1 + statement_length body
  statement_length (for_loop target value condition next_target next_value body) =
      for_length target value condition + (turn_length next_target next_value + statement_length body)
  statement_length (wait_for condition body) = head_length condition + statement_length body
  statement_length (delay amount body) = delay_length amount + statement_length body
  statement_length (event control body) = event_length control + statement_length body
  statement_length (task call) = task_length call + 1

  pub statements_length : StatementTrees → ℕ
  statements_length no_statement = 0
  statements_length (first_statement one more) = statement_length one + statements_length more

  pub branch_length : BranchTree → ℕ
  branch_length (labelled items body) = parts_length items + statement_length body
  branch_length (default colon body) = default_length colon + statement_length body

  pub branches_length : BranchTrees → ℕ
  branches_length no_branch = 0
  branches_length (first_branch one more) = branch_length one + branches_length more

-- ---- modules (clause 12)

abbrev pub range_length : RangeTree → ℕ
range_length range = 3 + (expression_length range.left + expression_length range.right)

abbrev pub type_length : TypeTree → ℕ
type_length type = word_where type.signed + length_if range_length type.range

abbrev pub parameter_type_length : ParameterType → ℕ
parameter_type_length (integer long) = 1
parameter_type_length (typed type) = type_length type

abbrev pub setting_length : SettingTree → ℕ
setting_length setting = 2 + expression_length setting.value

abbrev pub net_assignment_length : NetAssignment → ℕ
net_assignment_length one = pair_length one.target one.value

-- = value
abbrev pub value_length : ExpressionTree → ℕ
value_length value = 1 + expression_length value

abbrev pub declared_length : DeclaredTree → ℕ
declared_length declared = 1 + length_if value_length declared.value

abbrev pub direction_length : DirectionTree → ℕ
direction_length (input wire type) = 1 + (word_where wire + type_length type)
direction_length (output net type) = 1 + (word_if net + type_length type)
direction_length (output_integer long) = 2

abbrev pub port_length : PortTree → ℕ
port_length port = length_if direction_length port.direction + (1 + length_if value_length port.value)

-- parameter type
abbrev pub kind_length : ParameterType → ℕ
kind_length type = 1 + parameter_type_length type

abbrev pub head_parameter_length : HeadParameter → ℕ
head_parameter_length head = length_if kind_length head.kind + setting_length head.setting

abbrev pub connection_length : ConnectionTree → ℕ
connection_length connection = 4 + length_if expression_length connection.value

abbrev pub connections_length : ConnectionsTree → ℕ
connections_length (modules.by_order values) = 1 + list_length expression_length values
connections_length (modules.by_name list) = 1 + list_length connection_length list

-- # ( connections )
abbrev pub overrides_length : ConnectionsTree → ℕ
overrides_length connections = 1 + connections_length connections

abbrev pub instance_length : InstanceTree → ℕ
instance_length instance = 1 + connections_length instance.connections

abbrev pub declaration_kind_length : DeclarationKind → ℕ
declaration_kind_length (variables net type) = 1 + type_length type
declaration_kind_length (integers long) = 1
declaration_kind_length (directed direction) = direction_length direction

abbrev pub item_length : ItemTree → ℕ
item_length (parameters local type settings) = 1 + (parameter_type_length type + list_length setting_length settings)
item_length (declaration kind list) = declaration_kind_length kind + list_length declared_length list
item_length (events names) = 1 + list_length (λ name. 1) names
item_length (assignments list) = 1 + list_length net_assignment_length list
item_length (initial statement) = 1 + statement_length statement
item_length (always statement) = 1 + statement_length statement
item_length (instances letters overrides list) = 1 + (length_if overrides_length overrides + list_length instance_length list)

-- # ( parameter type setting, .. )
abbrev pub head_parameters_length : List HeadParameter → ℕ
head_parameters_length list = 2 + list_length head_parameter_length list

-- ( direction name = value, .. )
abbrev pub ports_length : List PortTree → ℕ
ports_length list = 1 + list_length port_length list
