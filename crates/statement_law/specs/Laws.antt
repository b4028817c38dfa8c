-- *internal*: The laws, which functions of `law` prove.
use Rattle.std.specs.Prelude.{◌≡◌, ℕ, List, [], ◌∷◌, ◌++◌, map, Option, Some, slice_get, Ok}
use Rattle.vbits.specs.Vectors.{Vector}
use Rattle.vast.specs.NumberedStatements.{StatementTree}
use Rattle.vast.specs.NumberedModules.{ItemTree}
use Rattle.vdesign.specs.declared.action.Action.{Action}
use Rattle.vvalue.specs.Value.{Environment}
use Rattle.velab_expr.specs.Scopes.{Scope}
use Rattle.velab_expr.specs.Symbols.{behind_item}
use Rattle.velab_process.specs.Statements.{Table}
use Rattle.velab_process.specs.Processes.{ProcessTree, Processes, process_trees_by, lower_items}
use Rattle.vmodel.specs.declared.frame.Frame.{Frame}
use Rattle.vmodel.specs.Step.{StepResult, frames, execute_at, place_of}
use Rattle.statement_law.specs.TreeSteps.{Pending, TreeStep, before, begin_of, GoesOn}
use Rattle.statement_law.specs.Standing.{IsFront, Stands, StandAt, tree_effect_of}

-- a process that begins at the places of a statement stands before it
abbrev pub BeginsBefore : Type 0
BeginsBefore = (scope : Scope) (actions : List Action) (statement : StatementTree) (places : List ℕ) →
    Stands scope actions statement places → StandAt scope actions (before statement []) (frames places [])

-- ---- what processes begin before

-- a scope, and what is left in it
pub record Begin : Type 0 where
  pub scope : Scope
  pub pending : List Pending

abbrev pub begins_of : Scope → List ProcessTree → List Begin
begins_of scope list = map (λ process. record { scope = scope; pending = begin_of scope process }) list

-- the processes of items, each in the scope of its item
abbrev pub begins_in : Scope → List ItemTree → List Begin
begins_in scope [] = []
begins_in scope (item ∷ more) = begins_of scope (process_trees_by item) ++ begins_in (behind_item scope item) more

-- one by one, they stand at these places
abbrev pub AllStand : List Action → List Begin → List (List ℕ) → Type 0
AllStand actions [] [] = Unit {0}
AllStand actions (one ∷ more) (places ∷ others) = StandAt one.scope actions one.pending (frames places []) × AllStand actions more others
AllStand actions _ _ = ⊥

-- the processes of a module's items begin before their statements, in the order of the text
abbrev pub ItemsBegin : Type 0
ItemsBegin = (actions : List Action) (scope : Scope) (table : Table) (items : List ItemTree) (processes : Processes) →
    lower_items scope table items ≡ Ok processes → IsFront processes.table.actions actions → AllStand actions (begins_in scope items) processes.begins

-- ---- steps

-- a step of a process that stands before statements, by the action at the place of its first frame
pub record Tells (scope : Scope) (actions : List Action) (step : TreeStep) (result : StepResult) : Type 0 where
  pub effect : tree_effect_of actions result.effect ≡ step.effect
  pub stands : StandAt scope actions step.next result.continuation

-- there is an action, and what it does is a step of the trees, behind which the process stands again before what is left
pub record HasTreeStep (scope : Scope) (now : Environment) (held : Option Vector) (actions : List Action) (pending : List Pending) (frame : Frame) (after : List Frame) : Type 0 where
  pub action : Action
  pub there : slice_get actions (place_of frame) ≡ Some action
  pub step : TreeStep
  pub goes_on : GoesOn scope now held pending step
  pub tells : Tells scope actions step (execute_at frame action after held now)

abbrev pub FollowsTrees : Type 0
FollowsTrees = (scope : Scope) (now : Environment) (held : Option Vector) (actions : List Action) (pending : List Pending) (frame : Frame) (after : List Frame) →
    StandAt scope actions pending (frame ∷ after) → HasTreeStep scope now held actions pending frame after

-- each step of the trees is what the process does
pub record HasPlaceStep (scope : Scope) (now : Environment) (held : Option Vector) (actions : List Action) (step : TreeStep) (left : List Frame) : Type 0 where
  pub frame : Frame
  pub after : List Frame
  pub begins : left ≡ frame ∷ after
  pub action : Action
  pub there : slice_get actions (place_of frame) ≡ Some action
  pub tells : Tells scope actions step (execute_at frame action after held now)

abbrev pub FollowsPlaces : Type 0
FollowsPlaces = (scope : Scope) (now : Environment) (held : Option Vector) (actions : List Action) (pending : List Pending) (left : List Frame) (step : TreeStep) →
    StandAt scope actions pending left → GoesOn scope now held pending step → HasPlaceStep scope now held actions step left
