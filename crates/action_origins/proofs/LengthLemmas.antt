-- That words are counted as they are spelled.
use Rattle.std.proofs.Common.{◌≡◌, ℕ, ◌+◌, Bool, true, false, List, [], ◌∷◌, ◌++◌, length, map, codes, refl, arith, length-append}
use Rattle.std.specs.Prelude.{Option, Some, None, option_map, flat_map, if◌then◌else◌}
use Rattle.vwords.specs.Words.{Text}
use Rattle.vast.specs.NumberedWords.{Word}
use Rattle.vast.specs.NumberedExpressions as text
use Rattle.vast.specs.NumberedExpressions.{ExpressionTree, ExpressionTrees}
use Rattle.vast.specs.NumberedStatements as written
use Rattle.vast.specs.NumberedStatements.{TargetTree, TargetTrees, DelayTree, by_number, by_name, by_value, TermTree, EventTree, by_event, by_any, by_any_enclosed, by_terms, ArgumentTree, quoted, printed, left_out, SelectionTree, TaskTree, print, idle, dump_file, dump_vars, dump, end_run, StatementTree, StatementTrees, empty, block, assign, nonblocking, trigger, if_true, if_else, case_of, while_true, repeat_times, forever, for_loop, wait_for, delay, event, task, no_statement, first_statement, BranchTree, BranchTrees, labelled, default, no_branch, first_branch}
use Rattle.vast.specs.NumberedModules as modules
use Rattle.vast.specs.NumberedModules.{RangeTree, TypeTree, ParameterType, integer, typed, SettingTree, NetAssignment, DeclaredTree, DirectionTree, input, output, output_integer, PortTree, HeadParameter, ConnectionTree, ConnectionsTree, InstanceTree, DeclarationKind, variables, integers, directed, ItemTree, parameters, declaration, events, assignments, initial, always, instances}
use Rattle.vast.specs.declared.statement.Edge.{Edge}
use Rattle.vast.specs.declared.module.NetKind.{NetKind}
use Rattle.vast.specs.Expressions.{spell_expression, spell_parts, spell_more_parts}
use Rattle.vast.specs.Statements.{with_commas, spell_target, spell_targets, spell_more_targets, spell_delay, spell_optional_delay, spell_edge, spell_term, spell_further_term, spell_event, spell_argument, spell_arguments, spell_path, spell_selection, spell_number, spell_task, case_word, spell_condition, spell_statement, spell_statements, spell_branch, spell_branches}
use Rattle.vast.specs.Modules as plain
use Rattle.vast.specs.Modules.{spell_range, spell_signed, spell_type, spell_parameter_type, spell_value, spell_declared, spell_net, spell_wire, spell_direction, spell_port, spell_kind, spell_head_parameter, spell_optional, spell_connection, spell_connections, spell_overrides, spell_instance, spell_declaration_kind, spell_item, spell_head_parameters, spell_ports}
use Rattle.vast.specs.TreeWords.{expression_with, expressions_with, target_with, targets_with, delay_with, term_with, further_with, event_with, argument_with, selection_with, task_with, statement_with, statements_with, branch_with, branches_with, range_with, type_with, parameter_type_with, setting_with, net_assignment_with, declared_with, direction_with, port_with, head_with, connection_with, connections_with, instance_with, declaration_kind_with, item_with}
use Rattle.action_origins.specs.Lengths.{length_if, word_if, word_where, length_of_each, list_length, expression_length, each_part, parts_length, target_length, each_target, end_of_targets, delay_length, term_length, further_length, event_length, argument_length, arguments_length, path_length, paths_length, selection_length, task_length, assignment_length, pair_length, head_length, for_length, turn_length, default_length, statement_length, statements_length, branch_length, branches_length, range_length, type_length, parameter_type_length, setting_length, net_assignment_length, value_length, declared_length, direction_length, port_length, kind_length, head_parameter_length, connection_length, connections_length, overrides_length, instance_length, declaration_kind_length, item_length, head_parameters_length, ports_length}
use Rattle.action_origins.specs.Laws.{letters, words_of_expression, spelled_pair, AreLengths}

-- words behind others
pub both : (xs ys : List Text) (n m : ℕ) → n ≡ length xs → m ≡ length ys → n + m ≡ length (xs ++ ys)
both xs ys n m one two = omega (arith, one, two, length-append xs ys)

-- ---- lists, a comma between two

module _ {A B : Type 0} (f : A → B) (size : A → ℕ) (spell : B → List Text) (one : (a : A) → size a ≡ length (spell (f a))) where
  more_listed : (xs : List A) → length_of_each size xs ≡ length (flat_map (λ other. codes "," ∷ spell other) (map f xs))
  more_listed [] = refl
  more_listed (x ∷ xs) =
      let rest : List Text = flat_map (λ other. codes "," ∷ spell other) (map f xs) in
      omega (arith, one x, more_listed xs, length-append (spell (f x)) rest)

  pub list_spelled : (xs : List A) (end : Text) → list_length size xs ≡ length (with_commas spell (map f xs) ++ end ∷ [])
  list_spelled [] end = refl
  list_spelled (x ∷ xs) end =
      let rest : List Text = flat_map (λ other. codes "," ∷ spell other) (map f xs) in
      omega (arith, one x, more_listed xs, length-append (spell (f x)) rest, length-append (spell (f x) ++ rest) (end ∷ []))

-- ---- expressions

-- round an operator
combined : (left right : ExpressionTree) (word : Text) → expression_length left ≡ length (words_of_expression left) → expression_length right ≡ length (words_of_expression right) →
    1 + (expression_length left + expression_length right) ≡ length (words_of_expression left ++ word ∷ words_of_expression right)
combined left right word one two = omega (arith, one, two, length-append (words_of_expression left) (word ∷ words_of_expression right))

mutual
  pub expression_spelled : (e : ExpressionTree) → expression_length e ≡ length (words_of_expression e)
  expression_spelled (text.number digits) = refl
  expression_spelled (text.name name) = refl
  expression_spelled (text.time word) = refl
  expression_spelled (text.bit name index) = omega (arith, expression_spelled index, length-append (words_of_expression index) (codes "]" ∷ []))
  expression_spelled (text.part name left right) =
      omega (
        arith,
        expression_spelled left,
        expression_spelled right,
        length-append (words_of_expression left) (codes ":" ∷ (words_of_expression right ++ codes "]" ∷ [])),
        length-append (words_of_expression right) (codes "]" ∷ []),
      )
  expression_spelled (text.parentheses inner) = omega (arith, expression_spelled inner, length-append (words_of_expression inner) (codes ")" ∷ []))
  expression_spelled (text.concatenation parts) = omega (arith, parts_spelled parts (codes "}") [])
  expression_spelled (text.replication count parts) =
      omega (
        arith,
        expression_spelled count,
        parts_spelled parts (codes "}") (codes "}" ∷ []),
        length-append (words_of_expression count) (codes "{" ∷ (spell_parts (expressions_with letters parts) ++ codes "}" ∷ codes "}" ∷ [])),
      )
  expression_spelled (text.conversion signed inner) = omega (arith, expression_spelled inner, length-append (words_of_expression inner) (codes ")" ∷ []))
  expression_spelled (text.apply operator inner) = omega (arith, expression_spelled inner)
  expression_spelled (text.combine operator left right) =
      combined left right _ (expression_spelled left) (expression_spelled right)
  expression_spelled (text.conditional condition when_true when_false) =
      omega (
        arith,
        expression_spelled condition,
        expression_spelled when_true,
        expression_spelled when_false,
        length-append (words_of_expression condition) (codes "?" ∷ (words_of_expression when_true ++ codes ":" ∷ words_of_expression when_false)),
        length-append (words_of_expression when_true) (codes ":" ∷ words_of_expression when_false),
      )

  -- with the word that ends them, and what stands behind it
  pub parts_spelled : (parts : ExpressionTrees) (end : Text) (rest : List Text) →
      parts_length parts + length rest ≡ length (spell_parts (expressions_with letters parts) ++ end ∷ rest)
  parts_spelled text.none end rest = omega arith
  parts_spelled (text.first one more) end rest =
      omega (
        arith,
        expression_spelled one,
        more_parts_spelled more,
        length-append (words_of_expression one) (spell_more_parts (expressions_with letters more)),
        length-append (words_of_expression one ++ spell_more_parts (expressions_with letters more)) (end ∷ rest),
      )

  more_parts_spelled : (parts : ExpressionTrees) → each_part parts ≡ length (spell_more_parts (expressions_with letters parts))
  more_parts_spelled text.none = refl
  more_parts_spelled (text.first one more) =
      omega (arith, expression_spelled one, more_parts_spelled more, length-append (words_of_expression one) (spell_more_parts (expressions_with letters more)))

-- ---- parts of statements

mutual
  pub target_spelled : (t : TargetTree) → target_length t ≡ length (spell_target (target_with letters t))
  target_spelled (written.whole name) = refl
  target_spelled (written.bit name index) = omega (arith, expression_spelled index, length-append (words_of_expression index) (codes "]" ∷ []))
  target_spelled (written.part name left right) =
      omega (
        arith,
        expression_spelled left,
        expression_spelled right,
        length-append (words_of_expression left) (codes ":" ∷ (words_of_expression right ++ codes "]" ∷ [])),
        length-append (words_of_expression right) (codes "]" ∷ []),
      )
  target_spelled (written.joined targets) = omega (arith, targets_spelled targets)

  targets_spelled : (targets : TargetTrees) →
      end_of_targets targets + each_target targets ≡ length (spell_targets (targets_with letters targets) ++ codes "}" ∷ [])
  targets_spelled written.none = refl
  targets_spelled (written.first one more) =
      omega (
        arith,
        target_spelled one,
        more_targets_spelled more,
        length-append (spell_target (target_with letters one)) (spell_more_targets (targets_with letters more)),
        length-append (spell_target (target_with letters one) ++ spell_more_targets (targets_with letters more)) (codes "}" ∷ []),
      )

  more_targets_spelled : (targets : TargetTrees) → each_target targets ≡ length (spell_more_targets (targets_with letters targets))
  more_targets_spelled written.none = refl
  more_targets_spelled (written.first one more) =
      omega (
        arith,
        target_spelled one,
        more_targets_spelled more,
        length-append (spell_target (target_with letters one)) (spell_more_targets (targets_with letters more)),
      )

-- ( words )
enclosed : (xs : List Text) (n : ℕ) → n ≡ length xs → 2 + n ≡ length (codes "(" ∷ (xs ++ codes ")" ∷ []))
enclosed xs n is = omega (arith, is, length-append xs (codes ")" ∷ []))

pub delay_spelled : (amount : DelayTree) → delay_length amount ≡ length (spell_delay (delay_with letters amount))
delay_spelled (by_number digits) = refl
delay_spelled (by_name name) = refl
delay_spelled (by_value amount) = omega (arith, enclosed (words_of_expression amount) (expression_length amount) (expression_spelled amount))

own_delay_spelled : (amount : Option DelayTree) → length_if delay_length amount ≡ length (spell_optional_delay (option_map (delay_with letters) amount))
own_delay_spelled None = refl
own_delay_spelled (Some amount) = delay_spelled amount

edge_spelled : (e : Option Edge) → word_if e ≡ length (spell_edge e)
edge_spelled None = refl
edge_spelled (Some one) = refl

term_spelled : (term : TermTree) → term_length term ≡ length (spell_term (term_with letters term))
term_spelled term = omega (arith, edge_spelled term.edge, length-append (spell_edge term.edge) (letters term.name ∷ []))

further_spelled : (list : List written.FurtherTerm) → further_length list ≡ length (flat_map spell_further_term (map (further_with letters) list))
further_spelled [] = refl
further_spelled (one ∷ more) =
    omega (
      arith,
      term_spelled one.term,
      further_spelled more,
      length-append (spell_term (term_with letters one.term)) (flat_map spell_further_term (map (further_with letters) more)),
    )

pub event_spelled : (control : EventTree) → event_length control ≡ length (spell_event (event_with letters control))
event_spelled (by_event name) = refl
event_spelled by_any = refl
event_spelled by_any_enclosed = refl
event_spelled (by_terms term further) =
    let first : List Text = spell_term (term_with letters term) in
    let rest : List Text = flat_map spell_further_term (map (further_with letters) further) in
    omega
    (arith, enclosed (first ++ rest) (term_length term + further_length further) (both first rest _ _ (term_spelled term) (further_spelled further)))

argument_spelled : (argument : ArgumentTree) → argument_length argument ≡ length (spell_argument (argument_with letters argument))
argument_spelled (quoted word) = refl
argument_spelled (printed value) = expression_spelled value
argument_spelled left_out = refl

arguments_spelled : (list : List ArgumentTree) → arguments_length list ≡ length (spell_arguments (map (argument_with letters) list))
arguments_spelled [] = refl
arguments_spelled (one ∷ more) = omega (arith, list_spelled (argument_with letters) argument_length spell_argument argument_spelled (one ∷ more) (codes ")"))

more_path_spelled : (path : List Word) → length path + length path ≡ length (flat_map (λ other. codes "." ∷ other ∷ []) (map letters path))
more_path_spelled [] = refl
more_path_spelled (one ∷ more) = omega (arith, more_path_spelled more)

path_spelled : (path : List Word) → path_length path ≡ length (spell_path (map letters path))
path_spelled [] = refl
path_spelled (one ∷ more) = omega (arith, more_path_spelled more)

paths_spelled : (paths : List (List Word)) → paths_length paths ≡ length (flat_map (λ path. codes "," ∷ spell_path path) (map (map letters) paths))
paths_spelled [] = refl
paths_spelled (one ∷ more) =
    omega (
      arith,
      path_spelled one,
      paths_spelled more,
      length-append (spell_path (map letters one)) (flat_map (λ path. codes "," ∷ spell_path path) (map (map letters) more)),
    )

selection_spelled : (selection : Option SelectionTree) →
    length_if selection_length selection ≡ length (spell_selection (option_map (selection_with letters) selection))
selection_spelled None = refl
selection_spelled (Some selection) =
    let rest : List Text = flat_map (λ path. codes "," ∷ spell_path path) (map (map letters) selection.paths) in
    omega (arith, paths_spelled selection.paths, length-append rest (codes ")" ∷ []))

number_spelled : (digits : Option Word) → length_if (λ word. 3) digits ≡ length (spell_number (option_map letters digits))
number_spelled None = refl
number_spelled (Some word) = refl

task_spelled : (call : TaskTree) → task_length call ≡ length (spell_task (task_with letters call))
task_spelled (print kind arguments) = omega (arith, arguments_spelled arguments)
task_spelled (idle kind arguments) = omega (arith, arguments_spelled arguments)
task_spelled (dump_file word) = refl
task_spelled (dump_vars selection) = omega (arith, selection_spelled selection)
task_spelled (dump kind) = refl
task_spelled (end_run stops digits) = omega (arith, number_spelled digits)

pub pair_spelled : (target : TargetTree) (value : ExpressionTree) → pair_length target value ≡ length (spelled_pair target value)
pair_spelled target value =
    omega (arith, target_spelled target, expression_spelled value, length-append (spell_target (target_with letters target)) (codes "=" ∷ words_of_expression value))

pub head_spelled : (keyword : Text) (condition : ExpressionTree) →
    head_length condition ≡ length (keyword ∷ spell_condition (expression_with letters condition))
head_spelled keyword condition = omega (arith, enclosed (words_of_expression condition) (expression_length condition) (expression_spelled condition))

assignment_spelled : (sign : Text) (target : TargetTree) (amount : Option DelayTree) (value : ExpressionTree) →
    assignment_length target amount value
    ≡ length (spell_target (target_with letters target) ++ sign ∷ (spell_optional_delay (option_map (delay_with letters) amount) ++ (words_of_expression value ++ codes ";" ∷ [])))
assignment_spelled sign target amount value =
    let own : List Text = spell_optional_delay (option_map (delay_with letters) amount) in
    omega (
      arith,
      target_spelled target,
      own_delay_spelled amount,
      expression_spelled value,
      length-append (spell_target (target_with letters target)) (sign ∷ (own ++ (words_of_expression value ++ codes ";" ∷ []))),
      length-append own (words_of_expression value ++ codes ";" ∷ []),
      length-append (words_of_expression value) (codes ";" ∷ []),
    )

-- before anything
pub for_before : (target : TargetTree) (value condition : ExpressionTree) (rest : List Text) →
    for_length target value condition + length rest
    ≡ length (codes "for" ∷ codes "(" ∷ (spelled_pair target value ++ codes ";" ∷ (words_of_expression condition ++ codes ";" ∷ rest)))
for_before target value condition rest =
    omega (
      arith,
      pair_spelled target value,
      expression_spelled condition,
      length-append (spelled_pair target value) (codes ";" ∷ (words_of_expression condition ++ codes ";" ∷ rest)),
      length-append (words_of_expression condition) (codes ";" ∷ rest),
    )

pub turn_before : (target : TargetTree) (value : ExpressionTree) (rest : List Text) →
    turn_length target value + length rest ≡ length (spelled_pair target value ++ codes ")" ∷ rest)
turn_before target value rest = omega (arith, pair_spelled target value, length-append (spelled_pair target value) (codes ")" ∷ rest))

pub default_spelled : (colon : Bool) → default_length colon ≡ length (codes "default" ∷ (if colon then codes ":" ∷ [] else []))
default_spelled true = refl
default_spelled false = refl

-- ---- statements

-- keyword ( condition ) and more
round : (keyword : Text) (condition : ExpressionTree) (rest : List Text) (n : ℕ) → n ≡ length rest →
    head_length condition + n ≡ length (keyword ∷ (spell_condition (expression_with letters condition) ++ rest))
round keyword condition rest n is =
    omega (arith, is, head_spelled keyword condition, length-append (spell_condition (expression_with letters condition)) rest)

mutual
  pub statement_spelled : (s : StatementTree) → statement_length s ≡ length (spell_statement (statement_with letters s))
  statement_spelled empty = refl
  statement_spelled (block None list) =
      omega (arith, statements_spelled list, length-append (spell_statements (statements_with letters list)) (codes "end" ∷ []))
  statement_spelled (block (Some label) list) =
      omega (arith, statements_spelled list, length-append (spell_statements (statements_with letters list)) (codes "end" ∷ []))
  statement_spelled (assign target amount value) = assignment_spelled (codes "=") target amount value
  statement_spelled (nonblocking target amount value) = assignment_spelled (codes "<=") target amount value
  statement_spelled (trigger name) = refl
  statement_spelled (if_true condition body) = round (codes "if") condition _ _ (statement_spelled body)
  statement_spelled (if_else condition body other) =
      let one : List Text = spell_statement (statement_with letters body) in
      let two : List Text = spell_statement (statement_with letters other) in
      let rest : (statement_length body + 1) + statement_length other ≡ length (one ++ codes "else" ∷ two) =
      omega (arith, statement_spelled body, statement_spelled other, length-append one (codes "else" ∷ two)) in
      round (codes "if") condition (one ++ codes "else" ∷ two) _ rest
  statement_spelled (case_of kind value branches) =
      let inner : List Text = spell_branches (branches_with letters branches) in
      let rest : branches_length branches + 1 ≡ length (inner ++ codes "endcase" ∷ []) =
      omega (arith, branches_spelled branches, length-append inner (codes "endcase" ∷ [])) in
      round (case_word kind) value (inner ++ codes "endcase" ∷ []) _ rest
  statement_spelled (while_true condition body) = round (codes "while") condition _ _ (statement_spelled body)
  statement_spelled (repeat_times count body) = round (codes "repeat") count _ _ (statement_spelled body)
  statement_spelled (forever body) = omega (arith, statement_spelled body)
  statement_spelled (for_loop target value condition next_target next_value body) =
      let inner : List Text = spell_statement (statement_with letters body) in
      omega (
        arith,
        statement_spelled body,
        turn_before next_target next_value inner,
        for_before target value condition (spelled_pair next_target next_value ++ codes ")" ∷ inner),
      )
  statement_spelled (wait_for condition body) = round (codes "wait") condition _ _ (statement_spelled body)
  statement_spelled (delay amount body) =
      both (spell_delay (delay_with letters amount)) (spell_statement (statement_with letters body)) _ _ (delay_spelled amount) (statement_spelled body)
  statement_spelled (event control body) =
      both (spell_event (event_with letters control)) (spell_statement (statement_with letters body)) _ _ (event_spelled control) (statement_spelled body)
  statement_spelled (task call) = both (spell_task (task_with letters call)) (codes ";" ∷ []) _ 1 (task_spelled call) refl

  statements_spelled : (list : StatementTrees) → statements_length list ≡ length (spell_statements (statements_with letters list))
  statements_spelled no_statement = refl
  statements_spelled (first_statement one more) =
      both (spell_statement (statement_with letters one)) (spell_statements (statements_with letters more)) _ _ (statement_spelled one) (statements_spelled more)

  pub branch_spelled : (b : BranchTree) → branch_length b ≡ length (spell_branch (branch_with letters b))
  branch_spelled (labelled labels body) = omega (arith, statement_spelled body, parts_spelled labels (codes ":") (spell_statement (statement_with letters body)))
  branch_spelled (default true body) = omega (arith, statement_spelled body)
  branch_spelled (default false body) = omega (arith, statement_spelled body)

  branches_spelled : (list : BranchTrees) → branches_length list ≡ length (spell_branches (branches_with letters list))
  branches_spelled no_branch = refl
  branches_spelled (first_branch one more) =
      both (spell_branch (branch_with letters one)) (spell_branches (branches_with letters more)) _ _ (branch_spelled one) (branches_spelled more)

-- ---- modules

range_spelled : (range : Option RangeTree) → length_if range_length range ≡ length (spell_range (option_map (range_with letters) range))
range_spelled None = refl
range_spelled (Some range) =
    omega (
      arith,
      expression_spelled range.left,
      expression_spelled range.right,
      length-append (words_of_expression range.left) (codes ":" ∷ (words_of_expression range.right ++ codes "]" ∷ [])),
      length-append (words_of_expression range.right) (codes "]" ∷ []),
    )

signed_spelled : (signed : Bool) → word_where signed ≡ length (spell_signed signed)
signed_spelled true = refl
signed_spelled false = refl

wire_spelled : (wire : Bool) → word_where wire ≡ length (spell_wire wire)
wire_spelled true = refl
wire_spelled false = refl

net_spelled : (net : Option NetKind) → word_if net ≡ length (spell_net net)
net_spelled None = refl
net_spelled (Some kind) = refl

type_spelled : (type : TypeTree) → type_length type ≡ length (spell_type (type_with letters type))
type_spelled type = both (spell_signed type.signed) (spell_range (option_map (range_with letters) type.range)) _ _ (signed_spelled type.signed) (range_spelled type.range)

parameter_type_spelled : (type : ParameterType) → parameter_type_length type ≡ length (spell_parameter_type (parameter_type_with letters type))
parameter_type_spelled (integer long) = refl
parameter_type_spelled (typed type) = type_spelled type

setting_spelled : (setting : SettingTree) → setting_length setting ≡ length (plain.spell_setting (setting_with letters setting))
setting_spelled setting = omega (arith, expression_spelled setting.value)

value_spelled : (name : Text) (value : Option ExpressionTree) → 1 + length_if value_length value ≡ length (spell_value name (option_map (expression_with letters) value))
value_spelled name None = refl
value_spelled name (Some value) = omega (arith, expression_spelled value)

declared_spelled : (declared : DeclaredTree) → declared_length declared ≡ length (spell_declared (declared_with letters declared))
declared_spelled declared = value_spelled (letters declared.name) declared.value

direction_spelled : (direction : Option DirectionTree) → length_if direction_length direction ≡ length (spell_direction (option_map (direction_with letters) direction))
direction_spelled None = refl
direction_spelled (Some (input wire type)) =
    omega (arith, wire_spelled wire, type_spelled type, length-append (spell_wire wire) (spell_type (type_with letters type)))
direction_spelled (Some (output net type)) =
    omega (arith, net_spelled net, type_spelled type, length-append (spell_net net) (spell_type (type_with letters type)))
direction_spelled (Some (output_integer long)) = refl

port_spelled : (port : PortTree) → port_length port ≡ length (spell_port (port_with letters port))
port_spelled port =
    both (spell_direction (option_map (direction_with letters) port.direction)) (spell_value (letters port.name) (option_map (expression_with letters) port.value)) _ _
    (direction_spelled port.direction) (value_spelled (letters port.name) port.value)

kind_spelled : (kind : Option ParameterType) → length_if kind_length kind ≡ length (spell_kind (option_map (parameter_type_with letters) kind))
kind_spelled None = refl
kind_spelled (Some type) = omega (arith, parameter_type_spelled type)

head_parameter_spelled : (head : HeadParameter) → head_parameter_length head ≡ length (spell_head_parameter (head_with letters head))
head_parameter_spelled head =
    both (spell_kind (option_map (parameter_type_with letters) head.kind)) (plain.spell_setting (setting_with letters head.setting)) _ _
    (kind_spelled head.kind) (setting_spelled head.setting)

optional_spelled : (value : Option ExpressionTree) → length_if expression_length value ≡ length (spell_optional (option_map (expression_with letters) value))
optional_spelled None = refl
optional_spelled (Some value) = expression_spelled value

connection_spelled : (connection : ConnectionTree) → connection_length connection ≡ length (spell_connection (connection_with letters connection))
connection_spelled connection =
    omega
    (arith, enclosed (spell_optional (option_map (expression_with letters) connection.value)) (length_if expression_length connection.value) (optional_spelled connection.value))

connections_spelled : (connections : ConnectionsTree) → connections_length connections ≡ length (spell_connections (connections_with letters connections))
connections_spelled (modules.by_order values) =
    omega (arith, list_spelled (expression_with letters) expression_length spell_expression expression_spelled values (codes ")"))
connections_spelled (modules.by_name list) =
    omega (arith, list_spelled (connection_with letters) connection_length spell_connection connection_spelled list (codes ")"))

overrides_spelled : (overrides : Option ConnectionsTree) →
    length_if overrides_length overrides ≡ length (spell_overrides (option_map (connections_with letters) overrides))
overrides_spelled None = refl
overrides_spelled (Some connections) = omega (arith, connections_spelled connections)

instance_spelled : (instance : InstanceTree) → instance_length instance ≡ length (spell_instance (instance_with letters instance))
instance_spelled instance = omega (arith, connections_spelled instance.connections)

declaration_kind_spelled : (kind : DeclarationKind) → declaration_kind_length kind ≡ length (spell_declaration_kind (declaration_kind_with letters kind))
declaration_kind_spelled (variables net type) = omega (arith, type_spelled type)
declaration_kind_spelled (integers long) = refl
declaration_kind_spelled (directed direction) = direction_spelled (Some direction)

settings_spelled : (settings : List SettingTree) → list_length setting_length settings ≡ length (with_commas plain.spell_setting (map (setting_with letters) settings) ++ codes ";" ∷ [])
settings_spelled settings = list_spelled (setting_with letters) setting_length plain.spell_setting setting_spelled settings (codes ";")

net_assignment_spelled : (one : NetAssignment) → net_assignment_length one ≡ length (plain.spell_net_assignment (net_assignment_with letters one))
net_assignment_spelled one = pair_spelled one.target one.value

net_assignments_spelled : (list : List NetAssignment) →
    list_length net_assignment_length list ≡ length (with_commas plain.spell_net_assignment (map (net_assignment_with letters) list) ++ codes ";" ∷ [])
net_assignments_spelled list =
    list_spelled (net_assignment_with letters) net_assignment_length plain.spell_net_assignment net_assignment_spelled list (codes ";")

pub item_spelled : (i : ItemTree) → item_length i ≡ length (spell_item (item_with letters i))
item_spelled (parameters local type settings) =
    omega (
      arith,
      parameter_type_spelled type,
      settings_spelled settings,
      length-append (spell_parameter_type (parameter_type_with letters type)) (with_commas plain.spell_setting (map (setting_with letters) settings) ++ codes ";" ∷ []),
    )
item_spelled (declaration kind list) =
    both (spell_declaration_kind (declaration_kind_with letters kind)) (with_commas spell_declared (map (declared_with letters) list) ++ codes ";" ∷ []) _ _
    (declaration_kind_spelled kind) (list_spelled (declared_with letters) declared_length spell_declared declared_spelled list (codes ";"))
item_spelled (events names) =
    omega (arith, list_spelled letters (λ name. 1) (λ word. word ∷ []) (λ name. refl) names (codes ";"))
item_spelled (assignments list) = omega (arith, net_assignments_spelled list)
item_spelled (initial statement) = omega (arith, statement_spelled statement)
item_spelled (always statement) = omega (arith, statement_spelled statement)
item_spelled (instances name overrides list) =
    omega (
      arith,
      overrides_spelled overrides,
      list_spelled (instance_with letters) instance_length spell_instance instance_spelled list (codes ";"),
      length-append (spell_overrides (option_map (connections_with letters) overrides)) (with_commas spell_instance (map (instance_with letters) list) ++ codes ";" ∷ []),
    )

pub head_parameters_spelled : (list : Option (List HeadParameter)) →
    length_if head_parameters_length list ≡ length (spell_head_parameters (option_map (map (head_with letters)) list))
head_parameters_spelled None = refl
head_parameters_spelled (Some list) =
    omega (arith, list_spelled (head_with letters) head_parameter_length spell_head_parameter head_parameter_spelled list (codes ")"))

pub ports_spelled : (list : Option (List PortTree)) → length_if ports_length list ≡ length (spell_ports (option_map (map (port_with letters)) list))
ports_spelled None = refl
ports_spelled (Some list) = omega (arith, list_spelled (port_with letters) port_length spell_port port_spelled list (codes ")"))

-- all of them
pub are_lengths : AreLengths
are_lengths = record {
  parts = λ labels. omega (arith, parts_spelled labels (codes ":") []);
  head = head_spelled;
  for = λ target value condition. omega (arith, for_before target value condition []);
  turn = λ target value. omega (arith, turn_before target value []);
  default = default_spelled;
  delay = delay_spelled;
  event = event_spelled;
  statement = statement_spelled;
  branch = branch_spelled;
  head_parameters = head_parameters_spelled;
  ports = ports_spelled;
  item = item_spelled;
}
