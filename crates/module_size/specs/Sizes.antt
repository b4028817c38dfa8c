-- *product rule*: How large a module is: what its instances have together is limited (E309). Each statement counts 1, and so does each name,
-- number and operator in it, each thing that is declared or connected by name, and each letter of a string that is printed or of a path that is dumped.
-- What may show the path of the scope that its task stands in (`%m`) counts the letters of that path, too: statements are told how many those are.
use Rattle.std.specs.Prelude.{ℕ, ◌+◌, ◌==◌, ◌||◌, if◌then◌else◌, List, [], ◌∷◌, length, Option, None, Some}
use Rattle.vast.specs.NumberedWords.{Word}
use Rattle.vast.specs.NumberedExpressions as text
use Rattle.vast.specs.NumberedExpressions.{ExpressionTree, ExpressionTrees}
use Rattle.vast.specs.NumberedStatements as written
use Rattle.vast.specs.NumberedStatements.{TargetTree, TargetTrees, DelayTree, by_number, by_name, by_value, EventTree, by_event, by_any, by_any_enclosed, by_terms, ArgumentTree, quoted, printed, left_out, SelectionTree, TaskTree, print, idle, dump_file, dump_vars, dump, end_run, StatementTree, StatementTrees, empty, block, assign, nonblocking, trigger, if_true, if_else, case_of, while_true, repeat_times, forever, for_loop, wait_for, delay, event, task, no_statement, first_statement, BranchTree, BranchTrees, labelled, default, no_branch, first_branch}
use Rattle.vast.specs.NumberedModules as modules
use Rattle.vast.specs.NumberedModules.{RangeTree, TypeTree, ParameterType, integer, typed, SettingTree, DeclaredTree, DirectionTree, input, output, output_integer, PortTree, HeadParameter, ConnectionTree, ConnectionsTree, InstanceTree, DeclarationKind, variables, integers, directed, ItemTree, parameters, declaration, events, assignments, initial, always, instances, ModuleTree, NetAssignment}

-- of what may be left out
abbrev pub size_if : {A : Type 0} → (A → ℕ) → Option A → ℕ
size_if size None = 0
size_if size (Some one) = size one

-- of all of these together
abbrev pub size_of : {A : Type 0} → (A → ℕ) → List A → ℕ
size_of size [] = 0
size_of size (one ∷ more) = size one + size_of size more

-- ---- expressions (clause 5)

abbrev mutual
  pub expression_size : ExpressionTree → ℕ
  expression_size (text.number digits) = 1
  expression_size (text.name letters) = 1
  expression_size (text.time word) = 1
  expression_size (text.bit letters index) = 1 + expression_size index
  expression_size (text.part letters left right) = 1 + (expression_size left + expression_size right)
  expression_size (text.parentheses inner) = 1 + expression_size inner
  expression_size (text.concatenation parts) = 1 + expressions_size parts
  expression_size (text.replication count parts) = 1 + (expression_size count + expressions_size parts)
  expression_size (text.conversion signed inner) = 1 + expression_size inner
  expression_size (text.apply operator inner) = 1 + expression_size inner
  expression_size (text.combine operator left right) = 1 + (expression_size left + expression_size right)
  expression_size (text.conditional condition when_true when_false) =
      1 + (expression_size condition + (expression_size when_true + expression_size when_false))

  pub expressions_size : ExpressionTrees → ℕ
  expressions_size text.none = 0
  expressions_size (text.first one more) = expression_size one + expressions_size more

-- ---- parts of statements (clauses 9, 17 and 18)

abbrev mutual
  pub target_size : TargetTree → ℕ
  target_size (written.whole letters) = 1
  target_size (written.bit letters index) = 1 + expression_size index
  target_size (written.part letters left right) = 1 + (expression_size left + expression_size right)
  target_size (written.joined targets) = 1 + targets_size targets

  pub targets_size : TargetTrees → ℕ
  targets_size written.none = 0
  targets_size (written.first one more) = target_size one + targets_size more

abbrev pub delay_size : DelayTree → ℕ
delay_size (by_number digits) = 1
delay_size (by_name letters) = 1
delay_size (by_value amount) = expression_size amount

abbrev pub event_size : EventTree → ℕ
event_size (by_event letters) = 1
event_size by_any = 1
event_size by_any_enclosed = 1
event_size (by_terms term further) = 1 + length further

-- a word counts its letters, too, where an action keeps them
abbrev pub word_size : Word → ℕ
word_size word = 1 + length word.letters

-- A letter of a string that is printed. The path of the scope may be shown in the place of a `%` (17.1.1.6), and a backslash may begin the number of
-- one, so both count that path (own).
abbrev pub letter_size : ℕ → ℕ → ℕ
letter_size path c = if (c == 37) || (c == 92) then 1 + path else 1

abbrev pub string_size : ℕ → Word → ℕ
string_size path word = 1 + size_of (letter_size path) word.letters

abbrev pub argument_size : ℕ → ArgumentTree → ℕ
argument_size path (quoted word) = string_size path word
argument_size path (printed value) = expression_size value
-- a piece of one letter
argument_size path left_out = 2

abbrev pub path_size : List Word → ℕ
path_size path = size_of word_size path

abbrev pub selection_size : SelectionTree → ℕ
selection_size selection = size_of path_size selection.paths

abbrev pub task_size : ℕ → TaskTree → ℕ
task_size path (print kind arguments) = size_of (argument_size path) arguments
task_size path (idle kind arguments) = 0
task_size path (dump_file letters) = 0
task_size path (dump_vars selection) = size_if selection_size selection
task_size path (dump kind) = 0
task_size path (end_run stops digits) = 0

-- target = # delay value
abbrev pub assignment_size : TargetTree → Option DelayTree → ExpressionTree → ℕ
assignment_size target amount value = target_size target + (size_if delay_size amount + expression_size value)

-- target = value
abbrev pub pair_size : TargetTree → ExpressionTree → ℕ
pair_size target value = target_size target + expression_size value

-- ---- statements (clause 9)

-- the items of a `case` in front of a statement of this size, which counts once for each of them
abbrev pub labels_size : ℕ → ExpressionTrees → ℕ
labels_size body text.none = 0
labels_size body (text.first item more) = (expression_size item + body) + labels_size body more

-- the letters of the path of a block's scope: with a name, a dot and that name stand behind the path of the scope round it (9.8.3, 12.5)
abbrev pub size_inside : ℕ → Option Word → ℕ
size_inside path None = path
size_inside path (Some name) = path + (1 + length name.letters)

-- a statement that stands in a scope whose path has so many letters
abbrev mutual
  pub statement_size : ℕ → StatementTree → ℕ
  statement_size path empty = 1
  statement_size path (block label list) = 1 + statements_size (size_inside path label) list
  statement_size path (assign target amount value) = 1 + assignment_size target amount value
  statement_size path (nonblocking target amount value) = 1 + assignment_size target amount value
  statement_size path (trigger letters) = 1
  statement_size path (if_true condition body) = 1 + (expression_size condition + statement_size path body)
  statement_size path (if_else condition body other) = 1 + (expression_size condition + (statement_size path body + statement_size path other))
  statement_size path (case_of kind value branches) = 1 + (expression_size value + branches_size path branches)
  statement_size path (while_true condition body) = 1 + (expression_size condition + statement_size path body)
  statement_size path (repeat_times count body) = 1 + (expression_size count + statement_size path body)
  statement_size path (forever body) = 1 + statement_size path body
  statement_size path (for_loop target value condition next_target next_value body) =
      1 + (pair_size target value + (expression_size condition + (pair_size next_target next_value + statement_size path body)))
  statement_size path (wait_for condition body) = 1 + (expression_size condition + statement_size path body)
  statement_size path (delay amount body) = 1 + (delay_size amount + statement_size path body)
  statement_size path (event control body) = 1 + (event_size control + statement_size path body)
  statement_size path (task call) = 1 + task_size path call

  pub statements_size : ℕ → StatementTrees → ℕ
  statements_size path no_statement = 0
  statements_size path (first_statement one more) = statement_size path one + statements_size path more

  pub branch_size : ℕ → BranchTree → ℕ
  branch_size path (labelled items body) = labels_size (statement_size path body) items
  branch_size path (default colon body) = statement_size path body

  pub branches_size : ℕ → BranchTrees → ℕ
  branches_size path no_branch = 0
  branches_size path (first_branch one more) = branch_size path one + branches_size path more

-- ---- modules (clause 12)

abbrev pub range_size : RangeTree → ℕ
range_size range = expression_size range.left + expression_size range.right

abbrev pub type_size : TypeTree → ℕ
type_size type = size_if range_size type.range

abbrev pub parameter_type_size : ParameterType → ℕ
parameter_type_size (integer long) = 0
parameter_type_size (typed type) = type_size type

abbrev pub setting_size : SettingTree → ℕ
setting_size setting = 1 + expression_size setting.value

abbrev pub net_assignment_size : NetAssignment → ℕ
net_assignment_size one = target_size one.target + expression_size one.value

abbrev pub declared_size : DeclaredTree → ℕ
declared_size declared = 1 + size_if expression_size declared.value

abbrev pub direction_size : DirectionTree → ℕ
direction_size (input wire type) = type_size type
direction_size (output net type) = type_size type
direction_size (output_integer long) = 0

abbrev pub port_size : PortTree → ℕ
port_size port = 1 + (size_if direction_size port.direction + size_if expression_size port.value)

abbrev pub head_size : HeadParameter → ℕ
head_size head = size_if parameter_type_size head.kind + setting_size head.setting

abbrev pub connection_size : ConnectionTree → ℕ
connection_size connection = 1 + size_if expression_size connection.value

abbrev pub connections_size : ConnectionsTree → ℕ
connections_size (modules.by_order values) = size_of expression_size values
connections_size (modules.by_name list) = size_of connection_size list

-- what is said of the parameters of an item's instances counts for each of them
abbrev pub instance_size : ℕ → InstanceTree → ℕ
instance_size overrides instance = 1 + (overrides + connections_size instance.connections)

abbrev pub declaration_kind_size : DeclarationKind → ℕ
declaration_kind_size (variables net type) = type_size type
declaration_kind_size (integers long) = 0
declaration_kind_size (directed direction) = direction_size direction

-- the items of an instance whose path has so many letters
abbrev pub item_size : ℕ → ItemTree → ℕ
item_size path (parameters local type settings) = parameter_type_size type + size_of setting_size settings
item_size path (declaration kind list) = declaration_kind_size kind + size_of declared_size list
item_size path (events names) = length names
item_size path (assignments list) = size_of net_assignment_size list
item_size path (initial statement) = statement_size path statement
item_size path (always statement) = statement_size path statement
item_size path (instances letters overrides list) = size_of (instance_size (size_if connections_size overrides)) list

abbrev pub module_size : ℕ → ModuleTree → ℕ
module_size path m =
    size_if (size_of head_size) m.parameters + (size_if (size_of port_size) m.ports + size_of (item_size path) m.items)
