-- *internal*: Trees of the program, their words with their numbers.
use Rattle.std.specs.Prelude.{List, Box}
use Rattle.vwords.specs.Words.{Text}
use Rattle.vast.specs.NumberedWords.{Word, word_of}
use Rattle.vast.specs.declared.expression.Expression.{Expression, Row_of-Expression}
use Rattle.vast.specs.declared.statement.Target.{Target, Row_of-Target}
use Rattle.vast.specs.declared.statement.Delay.{Delay}
use Rattle.vast.specs.declared.statement.Term.{Term}
use Rattle.vast.specs.declared.statement.FurtherTerm.{FurtherTerm as FurtherWords}
use Rattle.vast.specs.declared.statement.Event.{Event}
use Rattle.vast.specs.declared.statement.Argument.{Argument}
use Rattle.vast.specs.declared.statement.Path.{Path}
use Rattle.vast.specs.declared.statement.Selection.{Selection}
use Rattle.vast.specs.declared.statement.Task.{Task}
use Rattle.vast.specs.declared.statement.Statement.{Statement, Row_of-Statement, Row_of-Branch}
use Rattle.vast.specs.declared.statement.Branch.{Branch}
use Rattle.vast.specs.declared.module.Bounds.{Bounds}
use Rattle.vast.specs.declared.module.SignAndRange.{SignAndRange}
use Rattle.vast.specs.declared.module.ParameterType.{ParameterType as ParameterWords}
use Rattle.vast.specs.declared.module.Setting.{Setting}
use Rattle.vast.specs.declared.module.NetAssignment.{NetAssignment as NetAssignmentWords}
use Rattle.vast.specs.declared.module.Declared.{Declared}
use Rattle.vast.specs.declared.module.Direction.{Direction}
use Rattle.vast.specs.declared.module.Port.{Port}
use Rattle.vast.specs.declared.module.HeadParameter.{HeadParameter as HeadWords}
use Rattle.vast.specs.declared.module.Connection.{Connection}
use Rattle.vast.specs.declared.module.Connections.{Connections}
use Rattle.vast.specs.declared.module.Instance.{Instance}
use Rattle.vast.specs.declared.module.DeclarationKind.{DeclarationKind as DeclarationWords}
use Rattle.vast.specs.declared.module.ModuleItem.{ModuleItem}
use Rattle.vast.specs.declared.module.ModuleTree.{ModuleTree as ModuleWords}
use Rattle.vast.specs.declared.module.TextTree.{TextTree}
use Rattle.vast.specs.NumberedExpressions.{ExpressionTree, ExpressionTrees}
use Rattle.vast.specs.NumberedStatements.{TargetTree, TargetTrees, DelayTree, TermTree, FurtherTerm, EventTree, ArgumentTree, SelectionTree, TaskTree, StatementTree, StatementTrees, BranchTree, BranchTrees}
use Rattle.vast.specs.NumberedModules.{RangeTree, TypeTree, ParameterType, SettingTree, NetAssignment, DeclaredTree, DirectionTree, PortTree, HeadParameter, ConnectionTree, ConnectionsTree, InstanceTree, DeclarationKind, ItemTree, ModuleTree, SourceTree}
use Rattle.vast.specs.ExpressionTrees.{expression_told, row_told, expressions_told}
use Rattle.vast.specs.StatementTrees.{target_told, delay_told, term_told, further_told, event_told, argument_told, path_told, selection_told, task_told, statement_told, branch_told, targets_told, statements_told, branches_told, target_row_told, statement_row_told, branch_row_told}
use Rattle.vast.specs.ModuleTrees.{range_told, type_told, parameter_type_told, setting_told, net_assignment_told, declared_told, direction_told, port_told, head_told, connection_told, connections_told, instance_told, declaration_kind_told, item_told, module_told, source_told}

module _ (words : List Text) where
  abbrev pub tree_of : Expression → ExpressionTree
  tree_of = expression_told (word_of words)

  abbrev pub row_trees : {m : _} → Row_of-Expression m → ExpressionTrees
  row_trees = row_told (word_of words)

  abbrev pub trees_of : List Expression → ExpressionTrees
  trees_of = expressions_told (word_of words)

  abbrev pub boxed_tree : {A : Type 0} → Box Expression A → ExpressionTree
  boxed_tree expression = tree_of expression.value

  abbrev pub target_tree : Target → TargetTree
  target_tree = target_told (word_of words)

  abbrev pub delay_tree : Delay → DelayTree
  delay_tree = delay_told (word_of words)

  abbrev pub term_tree : Term → TermTree
  term_tree = term_told (word_of words)

  abbrev pub further_term : FurtherWords → FurtherTerm
  further_term = further_told (word_of words)

  abbrev pub event_tree : Event → EventTree
  event_tree = event_told (word_of words)

  abbrev pub argument_tree : Argument → ArgumentTree
  argument_tree = argument_told (word_of words)

  abbrev pub path_tree : Path → List Word
  path_tree = path_told (word_of words)

  abbrev pub selection_tree : Selection → SelectionTree
  selection_tree = selection_told (word_of words)

  abbrev pub task_tree : Task → TaskTree
  task_tree = task_told (word_of words)

  abbrev pub statement_tree : Statement → StatementTree
  statement_tree = statement_told (word_of words)

  abbrev pub branch_tree : Branch → BranchTree
  branch_tree = branch_told (word_of words)

  abbrev pub target_trees : List Target → TargetTrees
  target_trees = targets_told (word_of words)

  abbrev pub statement_trees : List Statement → StatementTrees
  statement_trees = statements_told (word_of words)

  abbrev pub branch_trees : List Branch → BranchTrees
  branch_trees = branches_told (word_of words)

  abbrev pub target_row : {m : _} → Row_of-Target m → TargetTrees
  target_row = target_row_told (word_of words)

  abbrev pub statement_row : {m : _} → Row_of-Statement m → StatementTrees
  statement_row = statement_row_told (word_of words)

  abbrev pub branch_row : {m : _} → Row_of-Branch m → BranchTrees
  branch_row = branch_row_told (word_of words)

  abbrev pub range_tree : Bounds → RangeTree
  range_tree = range_told (word_of words)

  abbrev pub type_tree : SignAndRange → TypeTree
  type_tree = type_told (word_of words)

  abbrev pub parameter_type : ParameterWords → ParameterType
  parameter_type = parameter_type_told (word_of words)

  abbrev pub setting_tree : Setting → SettingTree
  setting_tree = setting_told (word_of words)

  abbrev pub net_assignment : NetAssignmentWords → NetAssignment
  net_assignment = net_assignment_told (word_of words)

  abbrev pub declared_tree : Declared → DeclaredTree
  declared_tree = declared_told (word_of words)

  abbrev pub direction_tree : Direction → DirectionTree
  direction_tree = direction_told (word_of words)

  abbrev pub port_tree : Port → PortTree
  port_tree = port_told (word_of words)

  abbrev pub head_parameter : HeadWords → HeadParameter
  head_parameter = head_told (word_of words)

  abbrev pub connection_tree : Connection → ConnectionTree
  connection_tree = connection_told (word_of words)

  abbrev pub connections_tree : Connections → ConnectionsTree
  connections_tree = connections_told (word_of words)

  abbrev pub instance_tree : Instance → InstanceTree
  instance_tree = instance_told (word_of words)

  abbrev pub declaration_kind : DeclarationWords → DeclarationKind
  declaration_kind = declaration_kind_told (word_of words)

  abbrev pub item_tree : ModuleItem → ItemTree
  item_tree = item_told (word_of words)

  abbrev pub module_tree : ModuleWords → ModuleTree
  module_tree = module_told (word_of words)

  abbrev pub source_tree : TextTree → SourceTree
  source_tree = source_told (word_of words)
