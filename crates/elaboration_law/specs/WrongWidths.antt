-- *trusted*: E306: sizes that aren't right, in an instance and in a hierarchy (IEEE 1364-2005, 4.3.1, 4.10, 5.1.14, 5.2.1, 5.4.1).
use Rattle.std.specs.Prelude.{◌≡◌, ℕ, zero, suc, Bool, true, false, ◌&&◌, List, [], ◌∷◌, ◌++◌, map, Option, None, Some}
use Rattle.std.specs.List.{flat_map, list_all}
use Rattle.vwords.specs.Words.{Text}
use Rattle.vast.specs.NumberedExpressions as text
use Rattle.vast.specs.NumberedStatements.{TargetTree, ArgumentTree, quoted, printed, left_out, TaskTree, print, idle, dump_file, dump_vars, dump, end_run, DelayTree, by_number, by_name, by_value, StatementTree, StatementTrees, empty, block, assign, nonblocking, trigger, if_true, if_else, case_of, while_true, repeat_times, forever, for_loop, wait_for, delay, event, task, no_statement, first_statement, BranchTree, BranchTrees, labelled, default, no_branch, first_branch}
use Rattle.vast.specs.NumberedModules.{ConnectionsTree, InstanceTree, ItemTree, parameters, declaration, events, assignments, initial, always, instances, ModuleTree, SourceTree}
use Rattle.vmodules.specs.Names.{letters_of}
use Rattle.vmodules.specs.Hierarchy.{module_of, top_of}
use Rattle.vmodules.specs.Ports.{Port, ports_of, process_items}
use Rattle.vmodules.specs.Connected.{NamedConnection, open_names, named_connections, named_connections_if, value_for}
use Rattle.velab_declaration.specs.Variables.{Declaration, port_declaration, declarations, port_names}
use Rattle.velab_expr.specs.Written.{target_of}
use Rattle.velab_process.specs.Processes.{ProcessTree, procedural, continuous, process_trees_by}
use Rattle.elaboration_law.specs.Widths.{Worth, is_sized, are_sized, is_target}
use Rattle.elaboration_law.specs.Worths.{with_name, nothing_known, worths_in, are_set_in, are_ranged, declared_worth}

-- ---- statements, by what names are worth

module _ (named : Text → Worth) where
  abbrev pub is_sized_delay : DelayTree → Bool
  is_sized_delay (by_number digits) = true
  is_sized_delay (by_name letters) = true
  is_sized_delay (by_value amount) = is_sized named amount

  abbrev pub is_sized_own_delay : Option DelayTree → Bool
  is_sized_own_delay None = true
  is_sized_own_delay (Some amount) = is_sized_delay amount

  abbrev pub is_sized_assignment : TargetTree → Option DelayTree → text.ExpressionTree → Bool
  is_sized_assignment target amount value = is_target named target && (is_sized_own_delay amount && is_sized named value)

  abbrev pub is_sized_argument : ArgumentTree → Bool
  is_sized_argument (quoted letters) = true
  is_sized_argument (printed tree) = is_sized named tree
  is_sized_argument left_out = true

  abbrev pub is_sized_task : TaskTree → Bool
  is_sized_task (print kind arguments) = list_all is_sized_argument arguments
  is_sized_task (idle kind arguments) = true
  is_sized_task (dump_file letters) = true
  is_sized_task (dump_vars selection) = true
  is_sized_task (dump kind) = true
  is_sized_task (end_run stops digits) = true

  -- all sizes in it are right; an event control has none
  abbrev mutual
    pub is_sized_statement : StatementTree → Bool
    is_sized_statement empty = true
    is_sized_statement (block label statements) = are_sized_statements statements
    is_sized_statement (assign target amount value) = is_sized_assignment target amount value
    is_sized_statement (nonblocking target amount value) = is_sized_assignment target amount value
    is_sized_statement (trigger letters) = true
    is_sized_statement (if_true condition body) = is_sized named condition && is_sized_statement body
    is_sized_statement (if_else condition body other) = is_sized named condition && (is_sized_statement body && is_sized_statement other)
    is_sized_statement (case_of kind value branches) = is_sized named value && are_sized_branches branches
    is_sized_statement (while_true condition body) = is_sized named condition && is_sized_statement body
    is_sized_statement (repeat_times count body) = is_sized named count && is_sized_statement body
    is_sized_statement (forever body) = is_sized_statement body
    is_sized_statement (for_loop target value condition next_target next_value body) =
        is_sized_assignment target None value && (is_sized named condition && (is_sized_statement body && is_sized_assignment next_target None next_value))
    is_sized_statement (wait_for condition body) = is_sized named condition && is_sized_statement body
    is_sized_statement (delay amount body) = is_sized_delay amount && is_sized_statement body
    is_sized_statement (event control body) = is_sized_statement body
    is_sized_statement (task call) = is_sized_task call

    pub are_sized_statements : StatementTrees → Bool
    are_sized_statements no_statement = true
    are_sized_statements (first_statement statement rest) = is_sized_statement statement && are_sized_statements rest

    pub is_sized_branch : BranchTree → Bool
    is_sized_branch (labelled items body) = is_sized_statement body && are_sized named items
    is_sized_branch (default colon body) = is_sized_statement body

    pub are_sized_branches : BranchTrees → Bool
    are_sized_branches no_branch = true
    are_sized_branches (first_branch branch rest) = is_sized_branch branch && are_sized_branches rest

  abbrev pub is_sized_process : ProcessTree → Bool
  is_sized_process (procedural statement) = is_sized_statement statement
  is_sized_process (continuous target value) = is_target named target && is_sized named value

  abbrev pub is_sized_item : ItemTree → Bool
  is_sized_item item = list_all is_sized_process (process_trees_by item)

  -- 12.3.9.2: an output drives what it is connected to, if it can be driven (or E305), and an input is driven by it
  abbrev pub is_sized_output : Option TargetTree → Bool
  is_sized_output None = true
  is_sized_output (Some target) = is_target named target

  abbrev pub is_sized_at : Bool → text.ExpressionTree → Bool
  is_sized_at true value = is_sized_output (target_of value)
  is_sized_at false value = is_sized named value

  abbrev pub is_sized_connection : Port → Option text.ExpressionTree → Bool
  is_sized_connection p None = true
  is_sized_connection p (Some value) = is_sized_at p.output value

-- ---- an instance (12.1)

-- its module, what names are worth outside it, and what is said there of its parameters (12.2) and its ports (12.3)
pub record Instantiated : Type 0 where
  pub unit : ModuleTree
  pub outside : Text → Worth
  pub values : List NamedConnection
  pub connections : List NamedConnection

-- names with those of variables
abbrev pub with_variables : (Text → Worth) → List Declaration → Text → Worth
with_variables constants [] = constants
with_variables constants (d ∷ more) = with_name (with_variables constants more) d.name.letters (declared_worth constants d)

module _ (one : Instantiated) where
  -- what its parameters are worth
  abbrev pub constants_in : Text → Worth
  constants_in = worths_in one.outside one.values one.unit

  -- and with them its variables
  abbrev pub worth_in : Text → Worth
  worth_in = with_variables constants_in (map port_declaration (ports_of one.unit) ++ declarations one.unit)

  -- what the port is connected to
  abbrev pub is_connected : Port → Bool
  is_connected p = is_sized_connection one.outside p (value_for one.connections p.name.letters)

  -- its parameters, its declarations, its connections and its processes
  abbrev pub has_right_widths : Bool
  has_right_widths =
      are_set_in one.outside one.values one.unit
      && (are_ranged constants_in one.unit && (list_all is_connected (ports_of one.unit) && list_all (is_sized_item worth_in) (process_items one.unit)))

-- ---- in a hierarchy

-- nothing is said of the top (12.1.1)
abbrev pub top_instantiated : ModuleTree → Instantiated
top_instantiated m = record { unit = m; outside = nothing_known; values = []; connections = [] }

-- an instance by what is said of it where names are worth so
abbrev pub instantiated_as : (Text → Worth) → Option ConnectionsTree → ModuleTree → InstanceTree → Instantiated
instantiated_as outside overrides unit made = record {
  unit = unit;
  outside = outside;
  values = named_connections_if (letters_of (open_names unit)) overrides;
  connections = named_connections (letters_of (port_names unit)) made.connections;
}

-- those of a module, where it is in the text
abbrev pub instantiated_of : (Text → Worth) → Option ConnectionsTree → Option ModuleTree → List InstanceTree → List Instantiated
instantiated_of outside overrides None list = []
instantiated_of outside overrides (Some unit) list = map (instantiated_as outside overrides unit) list

abbrev pub instantiated_by : SourceTree → (Text → Worth) → ItemTree → List Instantiated
instantiated_by modules outside (parameters local type settings) = []
instantiated_by modules outside (declaration kind list) = []
instantiated_by modules outside (events names) = []
instantiated_by modules outside (assignments settings) = []
instantiated_by modules outside (initial statement) = []
instantiated_by modules outside (always statement) = []
instantiated_by modules outside (instances name overrides list) = instantiated_of outside overrides (module_of modules name.letters) list

-- an instance and those below it, down to so many levels, in the order of the text
abbrev pub instantiated_below : ℕ → SourceTree → Instantiated → List Instantiated
instantiated_below zero modules one = one ∷ []
instantiated_below (suc levels) modules one = one ∷ flat_map (instantiated_below levels modules) (flat_map (instantiated_by modules (worth_in one)) one.unit.items)

-- The top, or an instance below it, has a size that isn't right. Down to 16 levels they are looked at: deeper ones are E308.
pub record HasWrongWidth (modules : SourceTree) (top : Option Text) : Type 0 where
  pub unit : ModuleTree
  pub is_top : top_of modules top ≡ Some unit
  pub wrong : list_all has_right_widths (instantiated_below 16 modules (top_instantiated unit)) ≡ false
