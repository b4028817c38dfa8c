-- *trusted*: The processes of items (IEEE 1364-2005, 6.1, 9.9), in the order of the text. A module's are those of its `process_items`
-- (`Ports` of `vmodules`): of the values of its ports, and then of its items.
use Rattle.std.specs.Prelude.{ℕ, List, [], ◌∷◌, ◌++◌, map, Option, None, option_map, Result, Ok}
use Rattle.std.specs.List.{filter_map}
use Rattle.vast.specs.NumberedWords.{Word}
use Rattle.vast.specs.NumberedExpressions as text
use Rattle.vast.specs.NumberedStatements.{TargetTree, StatementTree, assign, forever}
use Rattle.vast.specs.NumberedStatements as written
use Rattle.vast.specs.NumberedModules.{DeclarationKind, variables, integers, directed, NetAssignment, DeclaredTree, ItemTree, parameters, declaration, events, assignments, initial, always, instances}
use Rattle.vast.specs.declared.module.NetKind.{NetKind}
use Rattle.vast.specs.declared.module.NetKind.TheVariants as net
use Rattle.vdesign.specs.declared.action.Action.TheVariants.{ContinuousAssign}
use Rattle.velab_expr.specs.declared.fault.ElabFault.{ElabFault}
use Rattle.velab_expr.specs.Symbols.{behind_item}
use Rattle.velab_expr.specs.Answers.{◌>>=◌}
use Rattle.velab_expr.specs.FirstWords.{first_target}
use Rattle.velab_expr.specs.Scopes.{Scope}
use Rattle.velab_expr.specs.Resolved.{lower_expression}
use Rattle.velab_expr.specs.Written.{lower_net_target}
use Rattle.velab_process.specs.Waits.{any_of, names_in}
use Rattle.velab_process.specs.Statements.{Table, Lowered, lowered_action, lower_statement}

-- what a process does: a statement, or it drives the net of this name (6.1)
pub data ProcessTree : Type 0 where
  procedural : StatementTree → ProcessTree
  continuous : TargetTree → text.ExpressionTree → ProcessTree

-- the table of several processes, and where each of them begins
pub record Processes : Type 0 where
  pub table : Table
  pub begins : List (List ℕ)

-- the same, with these in front
abbrev pub with_begins_before : List (List ℕ) → Result Processes ElabFault → Result Processes ElabFault
with_begins_before before answer = answer >>= λ processes. Ok (record { table = processes.table; begins = before ++ processes.begins })

-- 6.1, 11.6.1, and for the connections of ports 11.6.6: it writes, and it writes again at any change of a name that is read. Evaluation and
-- update are one step (own): a change that is taken back before the step comes isn't seen
abbrev pub lower_drive : Scope → Table → TargetTree → text.ExpressionTree → Result Lowered ElabFault
lower_drive scope table target value =
    lower_net_target scope target >>= λ targets.
    lower_expression scope value >>= λ e.
    Ok (lowered_action table (first_target target) (ContinuousAssign targets e (any_of scope (names_in value))))

abbrev pub lower_process : Scope → Table → ProcessTree → Result Lowered ElabFault
lower_process scope table (procedural statement) = lower_statement scope table statement
lower_process scope table (continuous target value) = lower_drive scope table target value

abbrev pub lower_processes : Scope → Table → List ProcessTree → Result Processes ElabFault
lower_processes scope table [] = Ok (record { table = table; begins = [] })
lower_processes scope table (process ∷ rest) =
    lower_process scope table process >>= λ front. with_begins_before (front.places ∷ []) (lower_processes scope front.table rest)

-- `reg a = e` is an `initial a = e` at its place (6.2.1; that e may name variables is own), and `wire a = e` drives a (6.1.1); a port with a
-- value is a variable (A.2.1.2, A.2.3)
abbrev pub process_by : NetKind → Word → text.ExpressionTree → ProcessTree
process_by net.Wire letters value = continuous (written.whole letters) value
process_by net.Reg letters value = procedural (assign (written.whole letters) None value)

abbrev pub process_of : NetKind → DeclaredTree → Option ProcessTree
process_of word declared = option_map (process_by word declared.name) declared.value

abbrev pub starts_of : DeclarationKind → List DeclaredTree → List ProcessTree
starts_of (variables word type) list = filter_map (process_of word) list
starts_of (integers long) list = filter_map (process_of net.Reg) list
starts_of (directed direction) list = filter_map (process_of net.Reg) list

-- 6.1.2
abbrev pub driven_by : NetAssignment → ProcessTree
driven_by one = continuous one.target one.value

-- the processes that an item makes
abbrev pub process_trees_by : ItemTree → List ProcessTree
process_trees_by (parameters local type settings) = []
process_trees_by (declaration kind list) = starts_of kind list
process_trees_by (events names) = []
process_trees_by (assignments list) = map driven_by list
process_trees_by (initial statement) = procedural statement ∷ []
process_trees_by (always statement) = procedural (forever statement) ∷ []  -- 9.9.2
process_trees_by (instances letters overrides list) = []

-- the processes of items, each in the scope of its place
abbrev pub lower_items : Scope → Table → List ItemTree → Result Processes ElabFault
lower_items scope table [] = Ok (record { table = table; begins = [] })
lower_items scope table (item ∷ more) =
    lower_processes scope table (process_trees_by item) >>= λ front. with_begins_before front.begins (lower_items (behind_item scope item) front.table more)
