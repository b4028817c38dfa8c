-- *internal*: The tokens that trees of the program keep, in the order of the text: its names, its numbers, its strings and each `$time`.
use Rattle.std.specs.Prelude.{List, [], ◌∷◌, ◌++◌, Option, None, Some, Box}
use Rattle.std.specs.List.{flat_map}
use Rattle.vast.specs.declared.token.Token.{Token}
use Rattle.vast.specs.declared.expression.Expression.{Expression, Number, Name, Time, Bit', Part', Parentheses', Concatenation', Replication', Conversion', Unary', Binary', Conditional', Row_of-Expression, end_of-Expression, more_of-Expression}
use Rattle.vast.specs.declared.statement.Target.{Target, Whole, Bit, Part, Joined', Row_of-Target, end_of-Target, more_of-Target}
use Rattle.vast.specs.declared.statement.Delay.{Delay}
use Rattle.vast.specs.declared.statement.Delay.TheVariants as delays
use Rattle.vast.specs.declared.statement.Term.{Term}
use Rattle.vast.specs.declared.statement.FurtherTerm.{FurtherTerm}
use Rattle.vast.specs.declared.statement.Event.{Event}
use Rattle.vast.specs.declared.statement.Event.TheVariants as events
use Rattle.vast.specs.declared.statement.Argument.{Argument}
use Rattle.vast.specs.declared.statement.Argument.TheVariants as arguments
use Rattle.vast.specs.declared.statement.Path.{Path}
use Rattle.vast.specs.declared.statement.Selection.{Selection}
use Rattle.vast.specs.declared.statement.Task.{Task}
use Rattle.vast.specs.declared.statement.Task.TheVariants as tasks
use Rattle.vast.specs.declared.statement.Statement.{Statement, Empty, Block', Assign, Nonblocking, Trigger, If', IfElse', Case', While', Repeat', Forever', For', Wait', Delayed', OnEvent', Task as Call, Row_of-Statement, end_of-Statement, more_of-Statement, Row_of-Branch, end_of-Branch, more_of-Branch}
use Rattle.vast.specs.declared.statement.Branch.{Branch, Labelled, Default}
use Rattle.vast.specs.declared.module.Bounds.{Bounds}
use Rattle.vast.specs.declared.module.SignAndRange.{SignAndRange}
use Rattle.vast.specs.declared.module.ParameterType.{ParameterType}
use Rattle.vast.specs.declared.module.ParameterType.TheVariants as kinds
use Rattle.vast.specs.declared.module.Setting.{Setting}
use Rattle.vast.specs.declared.module.NetAssignment.{NetAssignment}
use Rattle.vast.specs.declared.module.Declared.{Declared}
use Rattle.vast.specs.declared.module.Direction.{Direction}
use Rattle.vast.specs.declared.module.Direction.TheVariants as directions
use Rattle.vast.specs.declared.module.Port.{Port}
use Rattle.vast.specs.declared.module.HeadParameter.{HeadParameter}
use Rattle.vast.specs.declared.module.Connection.{Connection}
use Rattle.vast.specs.declared.module.Connections.{Connections}
use Rattle.vast.specs.declared.module.Connections.TheVariants as connecting
use Rattle.vast.specs.declared.module.Instance.{Instance}
use Rattle.vast.specs.declared.module.DeclarationKind.{DeclarationKind}
use Rattle.vast.specs.declared.module.DeclarationKind.TheVariants as declaring
use Rattle.vast.specs.declared.module.ModuleItem.{ModuleItem}
use Rattle.vast.specs.declared.module.ModuleItem.TheVariants as items
use Rattle.vast.specs.declared.module.ModuleTree.{ModuleTree}
use Rattle.vast.specs.declared.module.TextTree.{TextTree}

-- of what may be left out
abbrev pub if_some : {A : Type 0} → (A → List Token) → Option A → List Token
if_some leaves None = []
if_some leaves (Some one) = leaves one

-- ---- expressions

abbrev mutual
  pub leaves_of : Expression → List Token
  leaves_of (Number word) = word ∷ []
  leaves_of (Name word) = word ∷ []
  leaves_of (Time word) = word ∷ []
  leaves_of (Bit' name place index) = name ∷ leaves_of index
  leaves_of (Part' name place left place_too right) = name ∷ (leaves_of left ++ leaves_of right)
  leaves_of (Parentheses' place inner) = leaves_of inner
  leaves_of (Concatenation' at shape row) = row_leaves row
  leaves_of (Replication' at place count shape row) = leaves_of count ++ row_leaves row
  leaves_of (Conversion' signed place operand) = leaves_of operand
  leaves_of (Unary' operator place operand) = leaves_of operand
  leaves_of (Binary' operator place left place_too right) = leaves_of left ++ leaves_of right
  leaves_of (Conditional' place condition place_too when_true place_last when_false) =
      leaves_of condition ++ (leaves_of when_true ++ leaves_of when_false)

  pub row_leaves : {m : _} → Row_of-Expression m → List Token
  row_leaves end_of-Expression = []
  row_leaves (more_of-Expression one more) = leaves_of one ++ row_leaves more

-- of an expression behind a box
abbrev pub boxed_leaves : {A : Type 0} → Box Expression A → List Token
boxed_leaves expression = leaves_of expression.value

-- ---- statements

abbrev mutual
  pub target_leaves : Target → List Token
  target_leaves (Whole name) = name ∷ []
  target_leaves (Bit name index) = name ∷ boxed_leaves index
  target_leaves (Part name left right) = name ∷ (boxed_leaves left ++ boxed_leaves right)
  target_leaves (Joined' at shape row) = target_row_leaves row

  pub target_row_leaves : {m : _} → Row_of-Target m → List Token
  target_row_leaves end_of-Target = []
  target_row_leaves (more_of-Target one more) = target_leaves one ++ target_row_leaves more

abbrev pub delay_leaves : Delay → List Token
delay_leaves (delays.Number word) = word ∷ []
delay_leaves (delays.Name word) = word ∷ []
delay_leaves (delays.Value value) = boxed_leaves value

abbrev pub term_leaves : Term → List Token
term_leaves term = term.name ∷ []

abbrev pub further_leaves : FurtherTerm → List Token
further_leaves further = term_leaves further.term

abbrev pub event_leaves : Event → List Token
event_leaves (events.Named word) = word ∷ []
event_leaves events.Any = []
event_leaves events.AnyEnclosed = []
event_leaves (events.Terms term further) = term_leaves term ++ flat_map further_leaves further.items

abbrev pub argument_leaves : Argument → List Token
argument_leaves (arguments.Text word) = word ∷ []
argument_leaves (arguments.Value value) = boxed_leaves value
argument_leaves arguments.LeftOut = []

abbrev pub path_leaves : Path → List Token
path_leaves path = path.names.items

abbrev pub selection_leaves : Selection → List Token
selection_leaves selection = selection.levels ∷ flat_map path_leaves selection.paths.items

abbrev pub task_leaves : Task → List Token
task_leaves (tasks.Print kind arguments) = flat_map argument_leaves arguments.items
task_leaves (tasks.Idle kind arguments) = flat_map argument_leaves arguments.items
task_leaves (tasks.DumpFile word) = word ∷ []
task_leaves (tasks.DumpVars selection) = if_some selection_leaves selection
task_leaves (tasks.Dump kind) = []
task_leaves (tasks.End stops number) = if_some (λ word. word ∷ []) number

-- target = #delay value
abbrev pub assignment_leaves : {A : Type 0} → Target → Option Delay → Box Expression A → List Token
assignment_leaves target amount value = target_leaves target ++ (if_some delay_leaves amount ++ boxed_leaves value)

-- target = value
abbrev pub pair_leaves : {A : Type 0} → Target → Box Expression A → List Token
pair_leaves target value = target_leaves target ++ boxed_leaves value

abbrev mutual
  pub statement_leaves : Statement → List Token
  statement_leaves Empty = []
  statement_leaves (Block' label shape row) = if_some (λ word. word ∷ []) label ++ statement_row_leaves row
  statement_leaves (Assign at target amount value) = assignment_leaves target amount value
  statement_leaves (Nonblocking at target amount value) = assignment_leaves target amount value
  statement_leaves (Trigger at name) = name ∷ []
  statement_leaves (If' at condition place body) = boxed_leaves condition ++ statement_leaves body
  statement_leaves (IfElse' at condition place body place_too other) =
      boxed_leaves condition ++ (statement_leaves body ++ statement_leaves other)
  statement_leaves (Case' at kind value shape row) = boxed_leaves value ++ branch_row_leaves row
  statement_leaves (While' at condition place body) = boxed_leaves condition ++ statement_leaves body
  statement_leaves (Repeat' at count place body) = boxed_leaves count ++ statement_leaves body
  statement_leaves (Forever' at place body) = statement_leaves body
  statement_leaves (For' at target value condition next_target next_value place body) =
      pair_leaves target value ++ (boxed_leaves condition ++ (pair_leaves next_target next_value ++ statement_leaves body))
  statement_leaves (Wait' at condition place body) = boxed_leaves condition ++ statement_leaves body
  statement_leaves (Delayed' at amount place body) = delay_leaves amount ++ statement_leaves body
  statement_leaves (OnEvent' at control place body) = event_leaves control ++ statement_leaves body
  statement_leaves (Call at call) = task_leaves call

  pub branch_leaves : Branch → List Token
  branch_leaves (Labelled labels body) = flat_map leaves_of labels.items ++ statement_leaves body
  branch_leaves (Default colon body) = statement_leaves body

  pub statement_row_leaves : {m : _} → Row_of-Statement m → List Token
  statement_row_leaves end_of-Statement = []
  statement_row_leaves (more_of-Statement one more) = statement_leaves one ++ statement_row_leaves more

  pub branch_row_leaves : {m : _} → Row_of-Branch m → List Token
  branch_row_leaves end_of-Branch = []
  branch_row_leaves (more_of-Branch one more) = branch_leaves one ++ branch_row_leaves more

-- ---- modules

abbrev pub range_leaves : Bounds → List Token
range_leaves bounds = boxed_leaves bounds.left ++ boxed_leaves bounds.right

abbrev pub type_leaves : SignAndRange → List Token
type_leaves type = if_some range_leaves type.range

abbrev pub parameter_type_leaves : ParameterType → List Token
parameter_type_leaves (kinds.Integer long) = []
parameter_type_leaves (kinds.Typed type) = type_leaves type

abbrev pub setting_leaves : Setting → List Token
setting_leaves setting = setting.name ∷ boxed_leaves setting.value

abbrev pub net_assignment_leaves : NetAssignment → List Token
net_assignment_leaves one = pair_leaves one.target one.value

abbrev pub declared_leaves : Declared → List Token
declared_leaves declared = declared.name ∷ if_some boxed_leaves declared.value

abbrev pub direction_leaves : Direction → List Token
direction_leaves (directions.Input wire type) = type_leaves type
direction_leaves (directions.Output net type) = type_leaves type
direction_leaves (directions.OutputInteger long) = []

abbrev pub port_leaves : Port → List Token
port_leaves port = if_some direction_leaves port.direction ++ port.name ∷ if_some boxed_leaves port.value

abbrev pub head_leaves : HeadParameter → List Token
head_leaves head = if_some parameter_type_leaves head.kind ++ setting_leaves head.setting

abbrev pub connection_leaves : Connection → List Token
connection_leaves connection = connection.name ∷ if_some boxed_leaves connection.value

abbrev pub connections_leaves : Connections → List Token
connections_leaves (connecting.ByOrder values) = flat_map leaves_of values.items
connections_leaves (connecting.ByName connections) = flat_map connection_leaves connections.items

abbrev pub instance_leaves : Instance → List Token
instance_leaves instance = instance.name ∷ connections_leaves instance.connections

abbrev pub declaration_kind_leaves : DeclarationKind → List Token
declaration_kind_leaves (declaring.Variables net type) = type_leaves type
declaration_kind_leaves (declaring.Integers long) = []
declaration_kind_leaves (declaring.Directed direction) = direction_leaves direction

abbrev pub item_leaves : ModuleItem → List Token
item_leaves (items.Parameters at local type settings) = parameter_type_leaves type ++ flat_map setting_leaves settings.items
item_leaves (items.Declaration at kind declared) = declaration_kind_leaves kind ++ flat_map declared_leaves declared.items
item_leaves (items.Events at names) = names.items
item_leaves (items.Assignments at list) = flat_map net_assignment_leaves list.items
item_leaves (items.Initial at statement) = statement_leaves statement
item_leaves (items.Always at statement) = statement_leaves statement
item_leaves (items.Instances name overrides list) =
    name ∷ (if_some connections_leaves overrides ++ flat_map instance_leaves list.items)

abbrev pub module_leaves : ModuleTree → List Token
module_leaves m =
    m.name ∷ (if_some (λ list. flat_map head_leaves list.items) m.parameters
    ++ (if_some (λ list. flat_map port_leaves list.items) m.ports ++ flat_map item_leaves m.items.items))

abbrev pub text_leaves : TextTree → List Token
text_leaves text = flat_map module_leaves text.modules.items
