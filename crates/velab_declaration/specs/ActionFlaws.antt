-- *trusted*: What is wrong with the expressions of actions (IEEE 1364-2005, 5.1.14, 5.2.1): their sizes, and bits of what has none.
use Rattle.std.specs.Prelude.{ℕ, List, [], ◌∷◌, map, drop, slice_get, Option, None, unwrap_or, option_map}
use Rattle.std.specs.Option.{option_or}
use Rattle.vbits.specs.declared.bit4.Bit4.TheVariants.{X}
use Rattle.vbits.specs.Vectors.{Vector, filled}
use Rattle.vdesign.specs.Design.{Variable}
use Rattle.vdesign.specs.declared.action.Action.{Action}
use Rattle.vdesign.specs.declared.print.Piece.{Piece}
use Rattle.vdesign.specs.declared.print.Piece.TheVariants.{Text, Value}
use Rattle.vdesign.specs.declared.action.Action.TheVariants.{Assign, Nonblocking, AssignDelayed, NonblockingDelayed, Trigger, Test, Case, While, Repeat, Forever, Delay, EventControl, Wait, ContinuousAssign, Print, DumpVars, Dump, NoOperation, Finish, Stop}
use Rattle.vdesign.specs.declared.action.Branch.{Branch}
use Rattle.vdesign.specs.declared.action.Target.{Target}
use Rattle.vdesign.specs.Expressions.{ExpressionTree}
use Rattle.vvalue.specs.Value.{Environment}
use Rattle.vvalue.specs.Flaws.{flaw_of, targets_flaw}
use Rattle.vvalue.specs.declared.flaw.Flaw.{Flaw}
use Rattle.velab_expr.specs.Rules.{rule_of}
use Rattle.velab_expr.specs.declared.fault.Rule.{Rule}
use Rattle.velab_expr.specs.declared.fault.ElabFault.{ElabFault}

-- each of its bits is x: a size never depends on a value
abbrev pub blank : Variable → Vector
blank v = filled v.length X

abbrev pub blank_environment : List Variable → Environment
blank_environment variables = record { values = map blank variables; variables = variables; time = 0; factor = 1 }

-- the first that is wrong
abbrev pub first_flaw : {A : Type 0} → (A → Option Flaw) → List A → Option Flaw
first_flaw flaw [] = None
first_flaw flaw (one ∷ more) = option_or (flaw one) (first_flaw flaw more)

abbrev pub branch_flaw : Environment → Branch → Option Flaw
branch_flaw now branch = flaw_of now branch.item

abbrev pub piece_flaw : Environment → Piece → Option Flaw
piece_flaw now (Text bytes) = None
piece_flaw now (Value form watched value) = flaw_of now value

-- of an assignment: its targets, or else its value
abbrev pub assignment_flaw : Environment → List Target → ExpressionTree → Option Flaw
assignment_flaw now targets value = option_or (targets_flaw now targets) (flaw_of now value)

abbrev pub action_flaw : Environment → Action → Option Flaw
action_flaw now (Assign targets value) = assignment_flaw now targets value
action_flaw now (Nonblocking targets value) = assignment_flaw now targets value
action_flaw now (AssignDelayed amount targets value) = option_or (flaw_of now amount) (assignment_flaw now targets value)
action_flaw now (NonblockingDelayed amount targets value) = option_or (flaw_of now amount) (assignment_flaw now targets value)
action_flaw now (Trigger event) = None
action_flaw now (Test condition when_true otherwise) = flaw_of now condition
action_flaw now (Case kind value branches otherwise) = option_or (flaw_of now value) (first_flaw (branch_flaw now) branches)
action_flaw now (While condition body) = flaw_of now condition
action_flaw now (Repeat count body) = flaw_of now count
action_flaw now (Forever body) = None
action_flaw now (Delay amount body) = flaw_of now amount
action_flaw now (EventControl terms body) = None
action_flaw now (Wait condition terms body) = flaw_of now condition
action_flaw now (ContinuousAssign targets value terms) = assignment_flaw now targets value
action_flaw now (Print when pieces) = first_flaw (piece_flaw now) pieces
action_flaw now (DumpVars selection) = None
action_flaw now (Dump switch) = None
action_flaw now NoOperation = None
action_flaw now Finish = None
action_flaw now Stop = None

-- ---- faults of a table, each told by the word of its action

-- the first action that breaks a rule; beside the actions stand the numbers of their words
abbrev pub table_fault : (Action → Option Rule) → List Action → List (Option ℕ) → Option ElabFault
table_fault rule [] words = None
table_fault rule (action ∷ more) words =
    option_or (option_map (λ r. record { rule = r; at = unwrap_or (slice_get words 0) None }) (rule action))
    (table_fault rule more (drop 1 words))

-- whether an expression of it is wrong
abbrev pub flaw_rule : Environment → Action → Option Rule
flaw_rule now action = option_map rule_of (action_flaw now action)
