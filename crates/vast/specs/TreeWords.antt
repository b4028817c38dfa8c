-- *product rule*: The words of trees: each changed (`.._with`), and all of them in the order of the text (`.._words`).
use Rattle.std.specs.Prelude.{List, [], ◌∷◌, ◌++◌, map, Option, None, Some, option_map}
use Rattle.std.specs.List.{flat_map}
use Rattle.vast.specs.Expressions.{ExpressionOf, ExpressionsOf, number, name, time, bit, part, parentheses, concatenation, replication, conversion, apply, combine, conditional, none, first}
use Rattle.vast.specs.Statements.{TargetOf, TargetsOf, DelayOf, by_number, by_name, by_value, TermOf, FurtherOf, EventOf, by_event, by_any, by_any_enclosed, by_terms, ArgumentOf, quoted, printed, left_out, SelectionOf, TaskOf, print, idle, dump_file, dump_vars, dump, end_run, StatementOf, StatementsOf, empty, block, assign, nonblocking, trigger, if_true, if_else, case_of, while_true, repeat_times, forever, for_loop, wait_for, delay, event, task, no_statement, first_statement, BranchOf, BranchesOf, labelled, default, no_branch, first_branch}
use Rattle.vast.specs.Statements as written
use Rattle.vast.specs.Modules.{RangeOf, TypeOf, ParameterTypeOf, integer, typed, SettingOf, NetAssignmentOf, DeclaredOf, DirectionOf, input, output, output_integer, PortOf, HeadParameterOf, ConnectionOf, ConnectionsOf, by_order, InstanceOf, DeclarationKindOf, variables, integers, directed, ItemOf, parameters, declaration, events, assignments, initial, always, instances, ModuleOf, SourceOf}
use Rattle.vast.specs.Modules as modules

-- ---- each word changed

module _ {V W : Type 0} (f : V → W) where
  abbrev mutual
    pub expression_with : ExpressionOf V → ExpressionOf W
    expression_with (number digits) = number (f digits)
    expression_with (name letters) = name (f letters)
    expression_with (time word) = time (f word)
    expression_with (bit letters index) = bit (f letters) (expression_with index)
    expression_with (part letters left right) = part (f letters) (expression_with left) (expression_with right)
    expression_with (parentheses inner) = parentheses (expression_with inner)
    expression_with (concatenation parts) = concatenation (expressions_with parts)
    expression_with (replication count parts) = replication (expression_with count) (expressions_with parts)
    expression_with (conversion signed inner) = conversion signed (expression_with inner)
    expression_with (apply operator inner) = apply operator (expression_with inner)
    expression_with (combine operator left right) = combine operator (expression_with left) (expression_with right)
    expression_with (conditional condition when_true when_false) =
        conditional (expression_with condition) (expression_with when_true) (expression_with when_false)

    pub expressions_with : ExpressionsOf V → ExpressionsOf W
    expressions_with none = none
    expressions_with (first one more) = first (expression_with one) (expressions_with more)

  abbrev mutual
    pub target_with : TargetOf V → TargetOf W
    target_with (written.whole letters) = written.whole (f letters)
    target_with (written.bit letters index) = written.bit (f letters) (expression_with index)
    target_with (written.part letters left right) = written.part (f letters) (expression_with left) (expression_with right)
    target_with (written.joined targets) = written.joined (targets_with targets)

    pub targets_with : TargetsOf V → TargetsOf W
    targets_with written.none = written.none
    targets_with (written.first one more) = written.first (target_with one) (targets_with more)

  abbrev pub delay_with : DelayOf V → DelayOf W
  delay_with (by_number digits) = by_number (f digits)
  delay_with (by_name letters) = by_name (f letters)
  delay_with (by_value amount) = by_value (expression_with amount)

  abbrev pub term_with : TermOf V → TermOf W
  term_with term = record { edge = term.edge; name = f term.name }

  abbrev pub further_with : FurtherOf V → FurtherOf W
  further_with further = record { by_comma = further.by_comma; term = term_with further.term }

  abbrev pub event_with : EventOf V → EventOf W
  event_with (by_event letters) = by_event (f letters)
  event_with by_any = by_any
  event_with by_any_enclosed = by_any_enclosed
  event_with (by_terms term further) = by_terms (term_with term) (map further_with further)

  abbrev pub argument_with : ArgumentOf V → ArgumentOf W
  argument_with (quoted letters) = quoted (f letters)
  argument_with (printed value) = printed (expression_with value)
  argument_with left_out = left_out

  abbrev pub selection_with : SelectionOf V → SelectionOf W
  selection_with selection = record { levels = f selection.levels; paths = map (map f) selection.paths }

  abbrev pub task_with : TaskOf V → TaskOf W
  task_with (print kind arguments) = print kind (map argument_with arguments)
  task_with (idle kind arguments) = idle kind (map argument_with arguments)
  task_with (dump_file letters) = dump_file (f letters)
  task_with (dump_vars selection) = dump_vars (option_map selection_with selection)
  task_with (dump kind) = dump kind
  task_with (end_run stops digits) = end_run stops (option_map f digits)

  abbrev mutual
    pub statement_with : StatementOf V → StatementOf W
    statement_with empty = empty
    statement_with (block label list) = block (option_map f label) (statements_with list)
    statement_with (assign target amount value) = assign (target_with target) (option_map delay_with amount) (expression_with value)
    statement_with (nonblocking target amount value) = nonblocking (target_with target) (option_map delay_with amount) (expression_with value)
    statement_with (trigger letters) = trigger (f letters)
    statement_with (if_true condition body) = if_true (expression_with condition) (statement_with body)
    statement_with (if_else condition body other) = if_else (expression_with condition) (statement_with body) (statement_with other)
    statement_with (case_of kind value branches) = case_of kind (expression_with value) (branches_with branches)
    statement_with (while_true condition body) = while_true (expression_with condition) (statement_with body)
    statement_with (repeat_times count body) = repeat_times (expression_with count) (statement_with body)
    statement_with (forever body) = forever (statement_with body)
    statement_with (for_loop target value condition next_target next_value body) =
        for_loop (target_with target) (expression_with value) (expression_with condition) (target_with next_target) (expression_with next_value)
        (statement_with body)
    statement_with (wait_for condition body) = wait_for (expression_with condition) (statement_with body)
    statement_with (delay amount body) = delay (delay_with amount) (statement_with body)
    statement_with (event control body) = event (event_with control) (statement_with body)
    statement_with (task call) = task (task_with call)

    pub statements_with : StatementsOf V → StatementsOf W
    statements_with no_statement = no_statement
    statements_with (first_statement one more) = first_statement (statement_with one) (statements_with more)

    pub branch_with : BranchOf V → BranchOf W
    branch_with (labelled labels body) = labelled (expressions_with labels) (statement_with body)
    branch_with (default colon body) = default colon (statement_with body)

    pub branches_with : BranchesOf V → BranchesOf W
    branches_with no_branch = no_branch
    branches_with (first_branch one more) = first_branch (branch_with one) (branches_with more)

  abbrev pub range_with : RangeOf V → RangeOf W
  range_with range = record { left = expression_with range.left; right = expression_with range.right }

  abbrev pub type_with : TypeOf V → TypeOf W
  type_with type = record { signed = type.signed; range = option_map range_with type.range }

  abbrev pub parameter_type_with : ParameterTypeOf V → ParameterTypeOf W
  parameter_type_with (integer long) = integer long
  parameter_type_with (typed type) = typed (type_with type)

  abbrev pub setting_with : SettingOf V → SettingOf W
  setting_with setting = record { name = f setting.name; value = expression_with setting.value }

  abbrev pub net_assignment_with : NetAssignmentOf V → NetAssignmentOf W
  net_assignment_with one = record { target = target_with one.target; value = expression_with one.value }

  abbrev pub declared_with : DeclaredOf V → DeclaredOf W
  declared_with declared = record { name = f declared.name; value = option_map expression_with declared.value }

  abbrev pub direction_with : DirectionOf V → DirectionOf W
  direction_with (input wire type) = input wire (type_with type)
  direction_with (output net type) = output net (type_with type)
  direction_with (output_integer long) = output_integer long

  abbrev pub port_with : PortOf V → PortOf W
  port_with port = record {
    direction = option_map direction_with port.direction;
    name = f port.name;
    value = option_map expression_with port.value;
  }

  abbrev pub head_with : HeadParameterOf V → HeadParameterOf W
  head_with head = record { kind = option_map parameter_type_with head.kind; setting = setting_with head.setting }

  abbrev pub connection_with : ConnectionOf V → ConnectionOf W
  connection_with connection = record { name = f connection.name; value = option_map expression_with connection.value }

  abbrev pub connections_with : ConnectionsOf V → ConnectionsOf W
  connections_with (by_order values) = by_order (map expression_with values)
  connections_with (modules.by_name list) = modules.by_name (map connection_with list)

  abbrev pub instance_with : InstanceOf V → InstanceOf W
  instance_with instance = record { name = f instance.name; connections = connections_with instance.connections }

  abbrev pub declaration_kind_with : DeclarationKindOf V → DeclarationKindOf W
  declaration_kind_with (variables net type) = variables net (type_with type)
  declaration_kind_with (integers long) = integers long
  declaration_kind_with (directed direction) = directed (direction_with direction)

  abbrev pub item_with : ItemOf V → ItemOf W
  item_with (parameters local type settings) = parameters local (parameter_type_with type) (map setting_with settings)
  item_with (declaration kind list) = declaration (declaration_kind_with kind) (map declared_with list)
  item_with (events names) = events (map f names)
  item_with (assignments list) = assignments (map net_assignment_with list)
  item_with (initial statement) = initial (statement_with statement)
  item_with (always statement) = always (statement_with statement)
  item_with (instances letters overrides list) = instances (f letters) (option_map connections_with overrides) (map instance_with list)

  abbrev pub module_with : ModuleOf V → ModuleOf W
  module_with m = record {
    name = f m.name;
    parameters = option_map (map head_with) m.parameters;
    ports = option_map (map port_with) m.ports;
    items = map item_with m.items;
  }

  abbrev pub source_with : SourceOf V → SourceOf W
  source_with modules = map module_with modules

-- ---- all words, in the order of the text

-- of what may be left out
abbrev pub words_if : {A W : Type 0} → (A → List W) → Option A → List W
words_if words None = []
words_if words (Some one) = words one

module _ {W : Type 0} where
  abbrev mutual
    pub expression_words : ExpressionOf W → List W
    expression_words (number digits) = digits ∷ []
    expression_words (name letters) = letters ∷ []
    expression_words (time word) = word ∷ []
    expression_words (bit letters index) = letters ∷ expression_words index
    expression_words (part letters left right) = letters ∷ (expression_words left ++ expression_words right)
    expression_words (parentheses inner) = expression_words inner
    expression_words (concatenation parts) = expressions_words parts
    expression_words (replication count parts) = expression_words count ++ expressions_words parts
    expression_words (conversion signed inner) = expression_words inner
    expression_words (apply operator inner) = expression_words inner
    expression_words (combine operator left right) = expression_words left ++ expression_words right
    expression_words (conditional condition when_true when_false) =
        expression_words condition ++ (expression_words when_true ++ expression_words when_false)

    pub expressions_words : ExpressionsOf W → List W
    expressions_words none = []
    expressions_words (first one more) = expression_words one ++ expressions_words more

  abbrev mutual
    pub target_words : TargetOf W → List W
    target_words (written.whole letters) = letters ∷ []
    target_words (written.bit letters index) = letters ∷ expression_words index
    target_words (written.part letters left right) = letters ∷ (expression_words left ++ expression_words right)
    target_words (written.joined targets) = targets_words targets

    pub targets_words : TargetsOf W → List W
    targets_words written.none = []
    targets_words (written.first one more) = target_words one ++ targets_words more

  abbrev pub delay_words : DelayOf W → List W
  delay_words (by_number digits) = digits ∷ []
  delay_words (by_name letters) = letters ∷ []
  delay_words (by_value amount) = expression_words amount

  abbrev pub term_words : TermOf W → List W
  term_words term = term.name ∷ []

  abbrev pub further_words : FurtherOf W → List W
  further_words further = term_words further.term

  abbrev pub event_words : EventOf W → List W
  event_words (by_event letters) = letters ∷ []
  event_words by_any = []
  event_words by_any_enclosed = []
  event_words (by_terms term further) = term_words term ++ flat_map further_words further

  abbrev pub argument_words : ArgumentOf W → List W
  argument_words (quoted letters) = letters ∷ []
  argument_words (printed value) = expression_words value
  argument_words left_out = []

  abbrev pub path_words : List W → List W
  path_words path = path

  abbrev pub selection_words : SelectionOf W → List W
  selection_words selection = selection.levels ∷ flat_map path_words selection.paths

  abbrev pub digits_words : W → List W
  digits_words digits = digits ∷ []

  abbrev pub task_words : TaskOf W → List W
  task_words (print kind arguments) = flat_map argument_words arguments
  task_words (idle kind arguments) = flat_map argument_words arguments
  task_words (dump_file letters) = letters ∷ []
  task_words (dump_vars selection) = words_if selection_words selection
  task_words (dump kind) = []
  task_words (end_run stops digits) = words_if digits_words digits

  -- the name of a block
  abbrev pub name_words : W → List W
  name_words letters = letters ∷ []

  -- target = # delay value
  abbrev pub assignment_words : TargetOf W → Option (DelayOf W) → ExpressionOf W → List W
  assignment_words target amount value = target_words target ++ (words_if delay_words amount ++ expression_words value)

  -- target = value
  abbrev pub pair_words : TargetOf W → ExpressionOf W → List W
  pair_words target value = target_words target ++ expression_words value

  abbrev mutual
    pub statement_words : StatementOf W → List W
    statement_words empty = []
    statement_words (block label list) = words_if name_words label ++ statements_words list
    statement_words (assign target amount value) = assignment_words target amount value
    statement_words (nonblocking target amount value) = assignment_words target amount value
    statement_words (trigger letters) = letters ∷ []
    statement_words (if_true condition body) = expression_words condition ++ statement_words body
    statement_words (if_else condition body other) = expression_words condition ++ (statement_words body ++ statement_words other)
    statement_words (case_of kind value branches) = expression_words value ++ branches_words branches
    statement_words (while_true condition body) = expression_words condition ++ statement_words body
    statement_words (repeat_times count body) = expression_words count ++ statement_words body
    statement_words (forever body) = statement_words body
    statement_words (for_loop target value condition next_target next_value body) =
        pair_words target value ++ (expression_words condition ++ (pair_words next_target next_value ++ statement_words body))
    statement_words (wait_for condition body) = expression_words condition ++ statement_words body
    statement_words (delay amount body) = delay_words amount ++ statement_words body
    statement_words (event control body) = event_words control ++ statement_words body
    statement_words (task call) = task_words call

    pub statements_words : StatementsOf W → List W
    statements_words no_statement = []
    statements_words (first_statement one more) = statement_words one ++ statements_words more

    pub branch_words : BranchOf W → List W
    branch_words (labelled labels body) = expressions_words labels ++ statement_words body
    branch_words (default colon body) = statement_words body

    pub branches_words : BranchesOf W → List W
    branches_words no_branch = []
    branches_words (first_branch one more) = branch_words one ++ branches_words more

  abbrev pub range_words : RangeOf W → List W
  range_words range = expression_words range.left ++ expression_words range.right

  abbrev pub type_words : TypeOf W → List W
  type_words type = words_if range_words type.range

  abbrev pub parameter_type_words : ParameterTypeOf W → List W
  parameter_type_words (integer long) = []
  parameter_type_words (typed type) = type_words type

  abbrev pub setting_words : SettingOf W → List W
  setting_words setting = setting.name ∷ expression_words setting.value

  abbrev pub net_assignment_words : NetAssignmentOf W → List W
  net_assignment_words one = target_words one.target ++ expression_words one.value

  abbrev pub declared_words : DeclaredOf W → List W
  declared_words declared = declared.name ∷ words_if expression_words declared.value

  abbrev pub direction_words : DirectionOf W → List W
  direction_words (input wire type) = type_words type
  direction_words (output net type) = type_words type
  direction_words (output_integer long) = []

  abbrev pub port_words : PortOf W → List W
  port_words port = words_if direction_words port.direction ++ port.name ∷ words_if expression_words port.value

  abbrev pub head_words : HeadParameterOf W → List W
  head_words head = words_if parameter_type_words head.kind ++ setting_words head.setting

  abbrev pub connection_words : ConnectionOf W → List W
  connection_words connection = connection.name ∷ words_if expression_words connection.value

  abbrev pub connections_words : ConnectionsOf W → List W
  connections_words (by_order values) = flat_map expression_words values
  connections_words (modules.by_name list) = flat_map connection_words list

  abbrev pub instance_words : InstanceOf W → List W
  instance_words instance = instance.name ∷ connections_words instance.connections

  abbrev pub declaration_kind_words : DeclarationKindOf W → List W
  declaration_kind_words (variables net type) = type_words type
  declaration_kind_words (integers long) = []
  declaration_kind_words (directed direction) = direction_words direction

  abbrev pub item_words : ItemOf W → List W
  item_words (parameters local type settings) = parameter_type_words type ++ flat_map setting_words settings
  item_words (declaration kind list) = declaration_kind_words kind ++ flat_map declared_words list
  item_words (events names) = names
  item_words (assignments list) = flat_map net_assignment_words list
  item_words (initial statement) = statement_words statement
  item_words (always statement) = statement_words statement
  item_words (instances letters overrides list) =
      letters ∷ (words_if connections_words overrides ++ flat_map instance_words list)

  abbrev pub module_words : ModuleOf W → List W
  module_words m =
      m.name ∷ (words_if (flat_map head_words) m.parameters ++ (words_if (flat_map port_words) m.ports ++ flat_map item_words m.items))

  abbrev pub source_words : SourceOf W → List W
  source_words modules = flat_map module_words modules
