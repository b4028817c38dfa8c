-- *trusted*: Statements (IEEE 1364-2005, clause 9): what they are lowered to, which is actions, each after those of its body; or the
-- first fault in them.
use Rattle.std.specs.Prelude.{ℕ, if◌then◌else◌, List, [], ◌∷◌, ◌++◌, length, Option, None, Some, option_map, Bool, true, false, Result, Ok}
use Rattle.vast.specs.NumberedWords.{Word}
use Rattle.vast.specs.NumberedExpressions as text
use Rattle.vast.specs.NumberedStatements.{TargetTree, DelayTree, by_number, by_name, by_value, TaskTree, print, idle, dump_file, dump_vars, dump, end_run, StatementTree, StatementTrees, empty, block, assign, nonblocking, trigger, if_true, if_else, case_of, while_true, repeat_times, forever, for_loop, wait_for, delay, event, task, no_statement, first_statement, BranchTree, BranchTrees, labelled, default, no_branch, first_branch}
use Rattle.vdesign.specs.declared.action.Action.{Action}
use Rattle.vdesign.specs.declared.action.Action.TheVariants.{Assign, Nonblocking, AssignDelayed, NonblockingDelayed, Trigger, Test, Case, While, Repeat, Forever, Delay, EventControl, Wait, Print, DumpVars, Dump, NoOperation, Finish, Stop}
use Rattle.vdesign.specs.declared.action.Branch.{Branch}
use Rattle.vdesign.specs.declared.dump.DumpSwitch.TheVariants as switches
use Rattle.vast.specs.declared.statement.Dumping.{Dumping}
use Rattle.vast.specs.declared.statement.Dumping.TheVariants as dumps
use Rattle.vdesign.specs.declared.action.Target.{Target}
use Rattle.vdesign.specs.Expressions.{ExpressionTree}
use Rattle.velab_expr.specs.declared.fault.ElabFault.{ElabFault}
use Rattle.velab_expr.specs.FirstWords.{first_in, first_target, first_delay, first_argument}
use Rattle.velab_expr.specs.Answers.{◌>>=◌}
use Rattle.velab_expr.specs.Rules.{number_in}
use Rattle.velab_expr.specs.Scopes.{Scope, lower_event}
use Rattle.velab_expr.specs.Resolved.{lower_expression}
use Rattle.velab_expr.specs.Written.{lower_target}
use Rattle.velab_expr.specs.Selections.{lower_selection}
use Rattle.velab_process.specs.Prints.{when_of, lower_line}
use Rattle.velab_process.specs.Waits.{any_of, names_in, lower_control}

-- actions, and beside each the number of a word of the text, if it has one, by which a fault of it is told
pub record Table : Type 0 where
  pub actions : List Action
  pub words : List (Option ℕ)

-- one action more, at the next place
abbrev pub with_numbered : Table → Option ℕ → Action → Table
with_numbered table number action =
    record { actions = table.actions ++ action ∷ []; words = table.words ++ number ∷ [] }

-- the table of actions so far, with what a statement adds to it, and the places at which the statement begins
pub record Lowered : Type 0 where
  pub table : Table
  pub places : List ℕ

-- an action goes by the next place
abbrev pub at_next : Table → Option ℕ → Action → Lowered
at_next table number action = record { table = with_numbered table number action; places = length table.actions ∷ [] }

abbrev pub lowered_action : Table → Option Word → Action → Lowered
lowered_action table word action = at_next table (number_in word) action

-- the same, with these places in front
abbrev pub with_places_before : List ℕ → Result Lowered ElabFault → Result Lowered ElabFault
with_places_before before answer = answer >>= λ lowered. Ok (record { table = lowered.table; places = before ++ lowered.places })

-- ---- assignments (9.2), delays (9.7.1, 9.7.7) and tasks

abbrev pub assignment_action : Bool → Option ExpressionTree → List Target → ExpressionTree → Action
assignment_action true None targets value = Assign targets value
assignment_action true (Some amount) targets value = AssignDelayed amount targets value
assignment_action false None targets value = Nonblocking targets value
assignment_action false (Some amount) targets value = NonblockingDelayed amount targets value

abbrev pub lower_amount : Scope → DelayTree → Result ExpressionTree ElabFault
lower_amount scope (by_number digits) = lower_expression scope (text.number digits)
lower_amount scope (by_name letters) = lower_expression scope (text.name letters)
lower_amount scope (by_value amount) = lower_expression scope amount

-- the amount of an assignment's own delay, where it has one
abbrev pub lower_own_amount : Scope → Option DelayTree → Result (Option ExpressionTree) ElabFault
lower_own_amount scope None = Ok None
lower_own_amount scope (Some amount) = lower_amount scope amount >>= λ e. Ok (Some e)

-- an assignment of either kind
abbrev pub lower_assignment : Bool → Scope → Table → TargetTree → Option DelayTree → text.ExpressionTree → Result Lowered ElabFault
lower_assignment blocking scope table target amount value =
    lower_target scope target >>= λ targets.
    lower_own_amount scope amount >>= λ delay.
    lower_expression scope value >>= λ e.
    Ok (lowered_action table (first_target target) (assignment_action blocking delay targets e))

-- 18.1.3, 18.1.4, 18.1.6: `$dumpflush` does nothing more
abbrev pub dump_action : Dumping → Action
dump_action dumps.On = Dump switches.On
dump_action dumps.Off = Dump switches.Off
dump_action dumps.All = Dump switches.All
dump_action dumps.Flush = NoOperation

-- 17.4
abbrev pub end_action : Bool → Action
end_action stops = if stops then Stop else Finish

abbrev pub lower_task : Scope → Table → TaskTree → Result Lowered ElabFault
lower_task scope table (print kind arguments) =  -- 17.1
    lower_line scope kind arguments >>= λ pieces. Ok (lowered_action table (first_argument arguments) (Print (when_of kind) pieces))
lower_task scope table (idle kind arguments) = Ok (lowered_action table None NoOperation)  -- clause 17 (own)
lower_task scope table (dump_file letters) = Ok (lowered_action table None NoOperation)  -- 18.1.1
lower_task scope table (dump_vars selection) =  -- 18.1.2
    lower_selection scope selection >>= λ chosen. Ok (lowered_action table (option_map (λ s. s.levels) selection) (DumpVars chosen))
lower_task scope table (dump kind) = Ok (lowered_action table None (dump_action kind))
lower_task scope table (end_run stops digits) = Ok (lowered_action table None (end_action stops))

-- ---- statements (clause 9)

-- the table of actions so far, with what the branches of a `case` add to it: the branches, and the places of the `default`
pub record LoweredBranches : Type 0 where
  pub table : Table
  pub branches : List Branch
  pub otherwise : List ℕ

-- the same, with these branches and these places of a `default` in front
abbrev pub with_branches_before : List Branch → List ℕ → Result LoweredBranches ElabFault → Result LoweredBranches ElabFault
with_branches_before before places answer =
    answer >>= λ lowered. Ok (record { table = lowered.table; branches = before ++ lowered.branches; otherwise = places ++ lowered.otherwise })

-- 9.5: an item in front of a statement, in a list of one; each is a branch of its own with the same places
abbrev pub lower_label : Scope → List ℕ → text.ExpressionTree → Result (List Branch) ElabFault
lower_label scope places item = lower_expression scope item >>= λ e. Ok (record { item = e; body = places } ∷ [])

abbrev pub lower_labels : Scope → List ℕ → text.ExpressionTrees → Result (List Branch) ElabFault
lower_labels scope places text.none = Ok []
lower_labels scope places (text.first item more) =
    lower_label scope places item >>= λ front. lower_labels scope places more >>= λ others. Ok (front ++ others)

-- What a statement adds to a table. `begin`, `end` and `;` are no action. A condition, a value, a count, a delay or an event control is
-- lowered before the body, the items of a `case` after the statement that they stand before. An action stands after those of its body.
abbrev mutual
  pub lower_statement : Scope → Table → StatementTree → Result Lowered ElabFault
  lower_statement scope table empty = Ok (record { table = table; places = [] })
  lower_statement scope table (block label statements) = lower_all scope table statements
  lower_statement scope table (assign target amount value) = lower_assignment true scope table target amount value
  lower_statement scope table (nonblocking target amount value) = lower_assignment false scope table target amount value
  lower_statement scope table (trigger letters) =  -- 9.7.3
      lower_event scope letters >>= λ event_number. Ok (lowered_action table None (Trigger event_number))
  lower_statement scope table (if_true condition body) =  -- 9.4
      lower_expression scope condition >>= λ test.
      lower_statement scope table body >>= λ inner.
      Ok (lowered_action inner.table (first_in condition) (Test test inner.places []))
  lower_statement scope table (if_else condition body other) =
      lower_expression scope condition >>= λ test.
      lower_statement scope table body >>= λ one.
      lower_statement scope one.table other >>= λ two.
      Ok (lowered_action two.table (first_in condition) (Test test one.places two.places))
  lower_statement scope table (case_of kind value branches) =  -- 9.5
      lower_expression scope value >>= λ e.
      lower_branches scope table branches >>= λ inner.
      Ok (lowered_action inner.table (first_in value) (Case kind e inner.branches inner.otherwise))
  lower_statement scope table (while_true condition body) =  -- 9.6
      lower_expression scope condition >>= λ test.
      lower_statement scope table body >>= λ inner.
      Ok (lowered_action inner.table (first_in condition) (While test inner.places))
  lower_statement scope table (repeat_times count body) =
      lower_expression scope count >>= λ turns.
      lower_statement scope table body >>= λ inner.
      Ok (lowered_action inner.table (first_in count) (Repeat turns inner.places))
  lower_statement scope table (forever body) =
      lower_statement scope table body >>= λ inner. Ok (lowered_action inner.table None (Forever inner.places))
  -- the first assignment, and then a `while` whose body ends with the other one
  lower_statement scope table (for_loop target value condition next_target next_value body) =
      lower_assignment true scope table target None value >>= λ first.
      with_places_before first.places
      (
      lower_expression scope condition >>= λ test.
      lower_statement scope first.table body >>= λ inner.
      with_places_before inner.places (lower_assignment true scope inner.table next_target None next_value) >>= λ turn.
      Ok (lowered_action turn.table (first_in condition) (While test turn.places))
      )
  lower_statement scope table (wait_for condition body) =  -- 9.7.6
      lower_expression scope condition >>= λ test.
      lower_statement scope table body >>= λ inner.
      Ok (lowered_action inner.table (first_in condition) (Wait test (any_of scope (names_in condition)) inner.places))
  lower_statement scope table (delay amount body) =  -- 9.7.1
      lower_amount scope amount >>= λ e.
      lower_statement scope table body >>= λ inner.
      Ok (lowered_action inner.table (first_delay amount) (Delay e inner.places))
  lower_statement scope table (event control body) =  -- 9.7.2
      lower_control scope control body >>= λ terms.
      lower_statement scope table body >>= λ inner.
      Ok (lowered_action inner.table None (EventControl terms inner.places))
  lower_statement scope table (task call) = lower_task scope table call

  pub lower_all : Scope → Table → StatementTrees → Result Lowered ElabFault
  lower_all scope table no_statement = Ok (record { table = table; places = [] })
  lower_all scope table (first_statement statement rest) =
      lower_statement scope table statement >>= λ front. with_places_before front.places (lower_all scope front.table rest)

  pub lower_branch : Scope → Table → BranchTree → Result LoweredBranches ElabFault
  lower_branch scope table (labelled items body) =
      lower_statement scope table body >>= λ inner.
      lower_labels scope inner.places items >>= λ branches.
      Ok (record { table = inner.table; branches = branches; otherwise = [] })
  lower_branch scope table (default colon body) =
      lower_statement scope table body >>= λ inner. Ok (record { table = inner.table; branches = []; otherwise = inner.places })

  -- the `default` may stand anywhere among them; a case has one at most
  pub lower_branches : Scope → Table → BranchTrees → Result LoweredBranches ElabFault
  lower_branches scope table no_branch = Ok (record { table = table; branches = []; otherwise = [] })
  lower_branches scope table (first_branch branch rest) =
      lower_branch scope table branch >>= λ front. with_branches_before front.branches front.otherwise (lower_branches scope front.table rest)
