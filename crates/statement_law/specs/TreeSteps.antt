-- *trusted*: What a process does that stands before statements (IEEE 1364-2005, clause 9), told by their trees and the values of their expressions.
use Rattle.std.specs.Prelude.{Bool, true, false, ◌≡◌, ℕ, zero, suc, ◌-◌, if◌then◌else◌, List, [], ◌∷◌, ◌++◌, Option, None, Some}
use Rattle.vbits.specs.Vectors.{Vector}
use Rattle.vast.specs.NumberedExpressions as text
use Rattle.vast.specs.NumberedStatements.{TargetTree, DelayTree, EventTree, ArgumentTree, TaskTree, print, idle, dump_file, dump_vars, dump, end_run, StatementTree, StatementTrees, empty, block, assign, nonblocking, trigger, if_true, if_else, case_of, while_true, repeat_times, forever, for_loop, wait_for, delay, event, task, no_statement, first_statement, BranchTree, BranchTrees, labelled, default, no_branch, first_branch}
use Rattle.vwords.specs.declared.cases.CaseKind.{CaseKind}
use Rattle.vast.specs.declared.statement.Dumping.{Dumping}
use Rattle.vast.specs.declared.statement.Dumping.TheVariants as dumps
use Rattle.vast.specs.declared.statement.Printing.{Printing}
use Rattle.vast.specs.declared.statement.Printing.TheVariants as printing
use Rattle.vdesign.specs.Expressions.{ExpressionTree}
use Rattle.vdesign.specs.declared.action.Term.{Term}
use Rattle.vdesign.specs.declared.dump.Chosen.{Chosen}
use Rattle.vdesign.specs.declared.dump.DumpSwitch.{DumpSwitch}
use Rattle.vdesign.specs.declared.dump.DumpSwitch.TheVariants as switches
use Rattle.vdesign.specs.declared.print.Piece.{Piece}
use Rattle.vvalue.specs.declared.size_and_sign.SizeAndSign.{SizeAndSign}
use Rattle.vvalue.specs.Value.{Environment, holds, delay_of, self_determined, common, value_of}
use Rattle.vvalue.specs.Cases.{matches, turns_of}
use Rattle.velab_expr.specs.Answers.{value_or}
use Rattle.velab_expr.specs.Scopes.{Scope, event_of}
use Rattle.velab_expr.specs.Resolved.{no_parts, known_expression}
use Rattle.velab_expr.specs.Written.{row_of, net_row_of}
use Rattle.velab_expr.specs.Selections.{selection_of}
use Rattle.velab_process.specs.Waits.{any_of, names_in, lower_control}
use Rattle.velab_process.specs.Prints.{lower_line}
use Rattle.velab_process.specs.Statements.{lower_amount}
use Rattle.velab_process.specs.Processes.{ProcessTree, procedural, continuous}
use Rattle.vmodel.specs.declared.part.Part.{Part}
use Rattle.vmodel.specs.declared.effect.Post.{Post}
use Rattle.sched_core.specs.declared.end.Cause.{Cause}
use Rattle.sched_core.specs.declared.end.Cause.TheVariants as causes
use Rattle.vmodel.specs.Value.{assigned_parts, held_value, resumed_parts}
use Rattle.vmodel.specs.Step.{post_after}

-- ---- what a process has left

pub data Pending : Type 0 where
  executing : StatementTree → Pending  -- this statement
  repeating : ℕ → text.ExpressionTree → StatementTree → Pending  -- so many turns of this `repeat` (9.6)
  writing : TargetTree → DelayTree → text.ExpressionTree → Pending  -- what `target = #amount value` does after its delay (9.7.7)
  driving : Scope → TargetTree → Scope → text.ExpressionTree → Pending  -- nets of one scope are driven by a value of one (6.1, 12.3.9.2)

-- 9.8.1: two statements in order
abbrev pub in_order : StatementTree → StatementTree → StatementTree
in_order one other = block None (first_statement one (first_statement other no_statement))

-- A statement, before what is left. `;`, `begin` and `end` take no step (9.8.1); a `for` is its first assignment, and then a `while`
-- whose body ends with the other one (9.6).
abbrev mutual
  pub before : StatementTree → List Pending → List Pending
  before empty rest = rest
  before (block label statements) rest = before_all statements rest
  before (for_loop target value condition next_target next_value body) rest =
      executing (assign target None value) ∷ (executing (while_true condition (in_order body (assign next_target None next_value))) ∷ rest)
  before statement rest = executing statement ∷ rest

  pub before_all : StatementTrees → List Pending → List Pending
  before_all no_statement rest = rest
  before_all (first_statement statement more) rest = before statement (before_all more rest)

-- what a process begins before (9.9, 6.1)
abbrev pub begin_of : Scope → ProcessTree → List Pending
begin_of scope (procedural statement) = before statement []
begin_of scope (continuous target value) = driving scope target scope value ∷ []

-- `before` leaves none but these
abbrev pub takes_step : StatementTree → Bool
takes_step empty = false
takes_step (block label statements) = false
takes_step (for_loop target value condition next_target next_value body) = false
takes_step statement = true

-- ---- what it does in a step

-- what becomes of it: it goes on, sleeps so long (9.7.1), or waits for one of these terms (9.7.2, 9.7.4)
pub data Suspension : Type 0 where
  none : Suspension
  sleeps : ℕ → Suspension
  waits : List Term → Suspension

-- what it shows at once: a line (17.1.1), a monitor that is in force from now on (17.1.3), a dump's selection or command (18.1)
pub data Showing : Type 0 where
  line : List Piece → Showing
  monitor : List Piece → Showing
  selection : List Chosen → Showing
  command : DumpSwitch → Showing

pub record TreeEffect : Type 0 where
  pub held : Option Vector  -- the value that it holds during the delay of an assignment (9.7.7)
  pub suspension : Suspension
  pub wrote : List Part
  pub posted : Option Post  -- a nonblocking update (11.4)
  pub triggered : Option ℕ
  pub shown : Option Showing
  pub strobed : Option (List Piece)  -- a line for the end of the slot (17.1.2)
  pub cause : Option Cause  -- why the run ends

abbrev pub nothing : TreeEffect
nothing = record { held = None; suspension = none; wrote = []; posted = None; triggered = None; shown = None; strobed = None; cause = None }

-- what it does, and what it has left then
pub record TreeStep : Type 0 where
  pub effect : TreeEffect
  pub next : List Pending

-- it does nothing but go on
abbrev pub moves : List Pending → TreeStep
moves next = record { effect = nothing; next = next }

abbrev pub suspends : Suspension → List Pending → TreeStep
suspends suspension next = record { effect = record nothing { suspension = suspension }; next = next }

abbrev pub writes : List Part → List Pending → TreeStep
writes parts next = record { effect = record nothing { wrote = parts }; next = next }

abbrev pub posts : Post → List Pending → TreeStep
posts post next = record { effect = record nothing { posted = Some post }; next = next }

abbrev pub shows : Showing → List Pending → TreeStep
shows showing next = record { effect = record nothing { shown = Some showing }; next = next }

abbrev pub ends : Cause → List Pending → TreeStep
ends cause next = record { effect = record nothing { cause = Some cause }; next = next }

-- ---- the parts of a statement in a scope

abbrev pub amount_of : Scope → DelayTree → ExpressionTree
amount_of scope amount = value_or no_parts (lower_amount scope amount)

abbrev pub terms_of : Scope → EventTree → StatementTree → List Term
terms_of scope control body = value_or [] (lower_control scope control body)

abbrev pub line_for : Scope → Printing → List ArgumentTree → List Piece
line_for scope kind arguments = value_or [] (lower_line scope kind arguments)

-- ---- 9.5: `case`

-- an item, and the statement behind it
pub record Choice : Type 0 where
  pub item : ExpressionTree
  pub body : StatementTree

abbrev pub labels_of : Scope → text.ExpressionTrees → StatementTree → List Choice
labels_of scope text.none body = []
labels_of scope (text.first item more) body = record { item = known_expression scope item; body = body } ∷ labels_of scope more body

abbrev pub choices_of_branch : Scope → BranchTree → List Choice
choices_of_branch scope (labelled items body) = labels_of scope items body
choices_of_branch scope (default colon body) = []

-- all items, in the order of the text
abbrev pub choices_of : Scope → BranchTrees → List Choice
choices_of scope no_branch = []
choices_of scope (first_branch branch more) = choices_of_branch scope branch ++ choices_of scope more

abbrev pub default_of_branch : BranchTree → List Pending → List Pending
default_of_branch (labelled items body) rest = rest
default_of_branch (default colon body) rest = before body rest

-- the statement under `default`; where there is none, nothing
abbrev pub default_before : BranchTrees → List Pending → List Pending
default_before no_branch rest = rest
default_before (first_branch branch more) rest = default_of_branch branch (default_before more rest)

-- the longest of the sizes, signed where all are
abbrev pub widest_of : Environment → SizeAndSign → List Choice → SizeAndSign
widest_of now here [] = here
widest_of now here (choice ∷ more) = widest_of now (common here (self_determined now choice.item)) more

-- the statement behind the first item that matches, and else what is under `default`
abbrev pub first_match : Environment → CaseKind → SizeAndSign → Vector → List Choice → List Pending → List Pending → List Pending
first_match now kind here value [] rest otherwise = otherwise
first_match now kind here value (choice ∷ more) rest otherwise =
    if matches kind value (value_of now choice.item here) then before choice.body rest
    else first_match now kind here value more rest otherwise

abbrev pub chosen_before : Environment → CaseKind → ExpressionTree → List Choice → List Pending → List Pending → List Pending
chosen_before now kind value choices rest otherwise =
    let here = widest_of now (self_determined now value) choices in
    first_match now kind here (value_of now value here) choices rest otherwise

-- ---- clause 9

-- 9.6: so many turns of a `repeat`; where none is left it has ended
abbrev pub turns_before : ℕ → text.ExpressionTree → StatementTree → List Pending → List Pending
turns_before zero count body rest = rest
turns_before (suc n) count body rest = repeating (suc n) count body ∷ rest

-- 17.1
abbrev pub prints : Printing → List Piece → List Pending → TreeStep
prints (printing.Display base) pieces rest = shows (line pieces) rest
prints (printing.Write base) pieces rest = shows (line pieces) rest
prints (printing.Strobe base) pieces rest = record { effect = record nothing { strobed = Some pieces }; next = rest }
prints (printing.Monitor base) pieces rest = shows (monitor pieces) rest

-- 18.1
abbrev pub dumps_by : Dumping → List Pending → TreeStep
dumps_by dumps.On rest = shows (command switches.On) rest
dumps_by dumps.Off rest = shows (command switches.Off) rest
dumps_by dumps.All rest = shows (command switches.All) rest
dumps_by dumps.Flush rest = moves rest

abbrev pub calls : Scope → TaskTree → List Pending → TreeStep
calls scope (print kind arguments) rest = prints kind (line_for scope kind arguments) rest
calls scope (idle kind arguments) rest = moves rest
calls scope (dump_file letters) rest = moves rest
calls scope (dump_vars selected) rest = shows (selection (selection_of scope selected)) rest
calls scope (dump kind) rest = dumps_by kind rest
calls scope (end_run stops digits) rest = ends (if stops then causes.Stop else causes.Finish) rest

-- what a process does in a scope at a moment that stands before this and then before the rest, with the value that it holds
abbrev pub execute_pending : Scope → Environment → Option Vector → Pending → List Pending → TreeStep
-- 9.2.1
execute_pending scope now held (executing (assign target None value)) rest = writes (assigned_parts now (row_of scope target) (known_expression scope value)) rest
-- 9.2.2
execute_pending scope now held (executing (nonblocking target None value)) rest =
    posts (post_after 0 (assigned_parts now (row_of scope target) (known_expression scope value))) rest
-- 9.7.7: it takes the value, sleeps, and then writes it
execute_pending scope now held (executing (assign target (Some amount) value)) rest = record {
  effect = record nothing {
    held = Some (held_value now (row_of scope target) (known_expression scope value));
    suspension = sleeps (delay_of now (amount_of scope amount));
  };
  next = writing target amount value ∷ rest;
}
execute_pending scope now held (writing target amount value) rest = writes (resumed_parts now (row_of scope target) held) rest
execute_pending scope now held (executing (nonblocking target (Some amount) value)) rest =
    posts (post_after (delay_of now (amount_of scope amount)) (assigned_parts now (row_of scope target) (known_expression scope value))) rest
-- 9.7.3
execute_pending scope now held (executing (trigger letters)) rest = record { effect = record nothing { triggered = Some (event_of scope letters) }; next = rest }
-- 9.4
execute_pending scope now held (executing (if_true condition body)) rest = moves (if holds now (known_expression scope condition) then before body rest else rest)
execute_pending scope now held (executing (if_else condition body other)) rest =
    moves (if holds now (known_expression scope condition) then before body rest else before other rest)
-- 9.5
execute_pending scope now held (executing (case_of kind value branches)) rest =
    moves (chosen_before now kind (known_expression scope value) (choices_of scope branches) rest (default_before branches rest))
-- 9.6
execute_pending scope now held (executing (while_true condition body)) rest =
    moves (if holds now (known_expression scope condition) then before body (executing (while_true condition body) ∷ rest) else rest)
execute_pending scope now held (executing (repeat_times count body)) rest = moves (turns_before (turns_of now (known_expression scope count)) count body rest)
execute_pending scope now held (repeating n count body) rest = moves (before body (turns_before (n - 1) count body rest))
execute_pending scope now held (executing (forever body)) rest = moves (before body (executing (forever body) ∷ rest))
-- 9.7.1
execute_pending scope now held (executing (delay amount body)) rest = suspends (sleeps (delay_of now (amount_of scope amount))) (before body rest)
-- 9.7.2
execute_pending scope now held (executing (event control body)) rest = suspends (waits (terms_of scope control body)) (before body rest)
-- 9.7.6: where the condition doesn't hold, it waits until a variable in it changes, and tests once more
execute_pending scope now held (executing (wait_for condition body)) rest =
    if holds now (known_expression scope condition) then moves (before body rest)
    else suspends (waits (any_of scope (names_in condition))) (executing (wait_for condition body) ∷ rest)
-- 6.1, 11.6.1: it writes, waits for a change of what is read, and writes again
execute_pending scope now held (driving outside target inside value) rest = record {
  effect = record nothing {
    wrote = assigned_parts now (net_row_of outside target) (known_expression inside value);
    suspension = waits (any_of inside (names_in value));
  };
  next = driving outside target inside value ∷ rest;
}
-- clauses 17 and 18
execute_pending scope now held (executing (task call)) rest = calls scope call rest
-- the others take no step
execute_pending scope now held (executing statement) rest = moves (before statement rest)

abbrev pub IsStep : Pending → Type 0
IsStep (executing statement) = takes_step statement ≡ true
IsStep _ = Unit {0}

-- a process that stands before these goes on so
abbrev pub GoesOn : Scope → Environment → Option Vector → List Pending → TreeStep → Type 0
GoesOn scope now held [] step = ⊥
GoesOn scope now held (first ∷ rest) step = IsStep first × (execute_pending scope now held first rest ≡ step)
