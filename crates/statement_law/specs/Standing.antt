-- *internal*: Where statements stand in a table of actions, and what a step that speaks of places tells.
use Rattle.std.specs.Prelude.{◌≡◌, ℕ, true, List, [], ◌∷◌, ◌++◌, Option, Some, option_map, slice_get, Ok}
use Rattle.vast.specs.NumberedExpressions as text
use Rattle.vast.specs.NumberedStatements.{TargetTree, StatementTree, assign, repeat_times}
use Rattle.vdesign.specs.Expressions.{ExpressionTree}
use Rattle.vdesign.specs.declared.action.Action.{Action}
use Rattle.vdesign.specs.declared.action.Action.TheVariants.{EventControl, Wait, ContinuousAssign, DumpVars}
use Rattle.vdesign.specs.declared.action.Target.{Target}
use Rattle.vdesign.specs.declared.action.Term.{Term}
use Rattle.vdesign.specs.declared.dump.Chosen.{Chosen}
use Rattle.vdesign.specs.declared.dump.DumpCommand.{DumpCommand}
use Rattle.vdesign.specs.declared.dump.DumpCommand.TheVariants as commands
use Rattle.vdesign.specs.declared.dump.DumpSwitch.TheVariants as switches
use Rattle.velab_expr.specs.Scopes.{Scope}
use Rattle.velab_expr.specs.Resolved.{lower_expression}
use Rattle.velab_expr.specs.Written.{lower_net_target}
use Rattle.velab_process.specs.Waits.{any_of, names_in}
use Rattle.velab_process.specs.Statements.{Table, lower_statement}
use Rattle.vmodel.specs.declared.frame.Frame.{Frame}
use Rattle.vmodel.specs.declared.frame.Frame.TheVariants.{Executing, Repeating, Writing}
use Rattle.vmodel.specs.declared.effect.Disposition.{Disposition}
use Rattle.vmodel.specs.declared.effect.Disposition.TheVariants.{Runnable, Delayed, Waiting}
use Rattle.vmodel.specs.Effects.{Effect}
use Rattle.vmodel.specs.declared.effect.Shown.{Shown}
use Rattle.vmodel.specs.declared.effect.Shown.TheVariants.{Commands, Prints, Watches}
use Rattle.vmodel.specs.Step.{pieces_of}
use Rattle.statement_law.specs.TreeSteps.{Pending, executing, repeating, writing, driving, takes_step, Suspension, none, sleeps, waits, Showing, line, monitor, selection, command, TreeEffect}

-- ---- where statements stand

-- a table, and behind it others
pub record IsFront (front all : List Action) : Type 0 where
  pub others : List Action
  pub whole : all ≡ front ++ others

-- the statement was lowered to these places, and the table that it left is a front of the actions
pub record Stands (scope : Scope) (actions : List Action) (statement : StatementTree) (places : List ℕ) : Type 0 where
  pub start : Table
  pub table : Table
  pub lowered : lower_statement scope start statement ≡ Ok (record { table = table; places = places })
  pub front : IsFront table.actions actions

-- at this place targets of one scope are driven by a value of one
pub record Drives (outside : Scope) (target : TargetTree) (inside : Scope) (value : text.ExpressionTree) (actions : List Action) (place : ℕ) : Type 0 where
  pub targets : List Target
  pub e : ExpressionTree
  pub driven : lower_net_target outside target ≡ Ok targets
  pub lowered : lower_expression inside value ≡ Ok e
  pub there : slice_get actions place ≡ Some (ContinuousAssign targets e (any_of inside (names_in value)))

-- what is left stands at a frame
abbrev pub StandsAt : Scope → List Action → Pending → Frame → Type 0
StandsAt scope actions (executing statement) (Executing place) = (takes_step statement ≡ true) × Stands scope actions statement (place ∷ [])
StandsAt scope actions (repeating n count body) (Repeating place turns) = (n ≡ turns) × Stands scope actions (repeat_times count body) (place ∷ [])
StandsAt scope actions (writing target amount value) (Writing place) = Stands scope actions (assign target (Some amount) value) (place ∷ [])
StandsAt scope actions (driving outside target inside value) (Executing place) = Drives outside target inside value actions place
StandsAt scope actions _ _ = ⊥

-- one behind another
abbrev pub StandAt : Scope → List Action → List Pending → List Frame → Type 0
StandAt scope actions [] [] = Unit {0}
StandAt scope actions (first ∷ rest) (frame ∷ after) = StandsAt scope actions first frame × StandAt scope actions rest after
StandAt scope actions _ _ = ⊥

-- ---- what a step does, with what its places stand for

abbrev pub terms_in : Option Action → List Term
terms_in (Some (EventControl terms body)) = terms
terms_in (Some (Wait condition terms body)) = terms
terms_in (Some (ContinuousAssign targets value terms)) = terms
terms_in _ = []

abbrev pub selection_in : Option Action → List Chosen
selection_in (Some (DumpVars selected)) = selected
selection_in _ = []

abbrev pub suspension_by : List Action → Disposition → Suspension
suspension_by actions Runnable = none
suspension_by actions (Delayed amount) = sleeps amount
suspension_by actions (Waiting place) = waits (terms_in (slice_get actions place))

abbrev pub dump_by : List Action → DumpCommand → Showing
dump_by actions (commands.Vars place) = selection (selection_in (slice_get actions place))
dump_by actions commands.Off = command switches.Off
dump_by actions commands.On = command switches.On
dump_by actions commands.All = command switches.All

abbrev pub showing_by : List Action → Shown → Showing
showing_by actions (Commands asked) = dump_by actions asked
showing_by actions (Prints place) = line (pieces_of (slice_get actions place))
showing_by actions (Watches place) = monitor (pieces_of (slice_get actions place))

abbrev pub tree_effect_of : List Action → Effect → TreeEffect
tree_effect_of actions effect = record {
  held = effect.held;
  suspension = suspension_by actions effect.disposition;
  wrote = effect.wrote;
  posted = effect.posted;
  triggered = effect.triggered;
  shown = option_map (showing_by actions) effect.shown;
  strobed = option_map (λ place. pieces_of (slice_get actions place)) effect.strobed;
  cause = effect.cause;
}
