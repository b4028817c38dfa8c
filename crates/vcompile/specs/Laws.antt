-- *internal*: What holds of the code of a design that is whole (IEEE 1364-2005, clause 9); `code_law` proves it.
use Rattle.std.specs.Prelude.{◌≡◌, ◌≢◌, ℕ, ◌-◌, ◌<◌, ◌≤◌, true, List, [], ◌∷◌, length, slice_get, Option, Some}
use Rattle.std.specs.List.{Contains}
use Rattle.vbits.specs.Vectors.{Vector}
use Rattle.vcode.specs.declared.point.Point.{Point}
use Rattle.vcode.specs.declared.point.Point.TheVariants as points
use Rattle.vcode.specs.declared.listener.Listener.{Listener}
use Rattle.vcode.specs.Code.{Code, link_at, listeners_at, begin_of, counter_at, turns_at, with_turns, settle, behind, operand_value}
use Rattle.vdesign.specs.Design.{Design}
use Rattle.vdesign.specs.declared.action.Edge.{Edge}
use Rattle.vdesign.specs.declared.action.Term.{Term}
use Rattle.vdesign.specs.declared.action.Term.TheVariants.{Change, Event}
use Rattle.vdesign.specs.declared.action.Action.{Action}
use Rattle.vdesign.specs.declared.action.Action.TheVariants.{Repeat}
use Rattle.vvalue.specs.Value.{Environment}
use Rattle.vvalue.specs.Cases.{turns_of}
use Rattle.vmodel.specs.declared.frame.Frame.{Frame}
use Rattle.vmodel.specs.declared.frame.Frame.TheVariants.{Executing, Repeating, Writing}
use Rattle.vmodel.specs.declared.effect.Disposition.TheVariants.{Waiting}
use Rattle.vmodel.specs.Step.{frames, place_of, execute_at}
use Rattle.vmodel.specs.Operands.{operand}
use Rattle.vmodel.specs.Waking.{hears, has_come}
use Rattle.vcompile.specs.Listening.{edge_of, resumes_at, listener_at}
use Rattle.vcompile.specs.CodeOf.{code_of}

-- ---- the links go the way of a continuation

abbrev pub point_of : Frame → Point
point_of (Executing place) = points.Executing place
point_of (Repeating place n) = points.Repeating place
point_of (Writing place) = points.Writing place

-- where a process stands that has so much left
abbrev pub first_of : List Frame → Point
first_of [] = points.Ended
first_of (frame ∷ rest) = point_of frame

-- 9.6: the counter of a `repeat` says how many turns are left
abbrev pub IsCounted : Code → List ℕ → Frame → Type 0
IsCounted code turns (Executing place) = Unit {0}
IsCounted code turns (Repeating place n) = (1 ≤ n) × (turns_at code turns place ≡ n)
IsCounted code turns (Writing place) = Unit {0}

-- the place of a frame is the process's, and leads to what is left then
pub record IsLed (code : Code) (process : ℕ) (turns : List ℕ) (frame : Frame) (rest : List Frame) : Type 0 where
  pub within : place_of frame < length code.links
  pub owner : (link_at code.links (place_of frame)).owner ≡ process
  pub counted : IsCounted code turns frame
  pub next : behind code turns (place_of frame) ≡ first_of rest

-- and so is each frame
abbrev pub AreLed : Code → ℕ → List ℕ → List Frame → Type 0
AreLed code process turns [] = Unit {0}
AreLed code process turns (frame ∷ rest) = IsLed code process turns frame rest × AreLed code process turns rest

-- 9.6: the counters behind a step: a `repeat` takes its count, and each turn is one less
abbrev pub turns_behind : Code → Frame → Action → Environment → List ℕ → List ℕ
turns_behind code (Executing place) (Repeat count body) now turns = with_turns code place (turns_of now count) turns
turns_behind code (Repeating place n) (Repeat count body) now turns = with_turns code place (n - 1) turns
turns_behind code _ _ now turns = turns

-- there are so many counters as the code has
abbrev pub HasCounters : Code → List ℕ → Type 0
HasCounters code turns = (place counter : ℕ) → counter_at code place ≡ Some counter → counter < length turns

-- a process begins at the first of its places, and its links lead along them
abbrev pub BeginsAlong : Type 0
BeginsAlong = (design : Design) (turns : List ℕ) (process : ℕ) (places : List ℕ) →
    (code_of design).whole ≡ true → slice_get design.processes process ≡ Some places →
    (begin_of (code_of design) process ≡ first_of (frames places [])) × AreLed (code_of design) process turns (frames places [])

-- a process takes a step of the action at the place of its first frame, and its links lead along what it has left
pub record TakesStep (design : Design) (turns : List ℕ) (process : ℕ) (frame : Frame) (after : List Frame) (action : Action) : Type 0 where
  pub whole : (code_of design).whole ≡ true
  pub counters : HasCounters (code_of design) turns
  pub there : slice_get design.actions (place_of frame) ≡ Some action
  pub led : AreLed (code_of design) process turns (frame ∷ after)

-- they lead along what it has left behind the step, too
abbrev pub StepsAlong : Type 0
StepsAlong = (design : Design) (turns : List ℕ) (process : ℕ) (frame : Frame) (after : List Frame) (action : Action) (held : Option Vector) (now : Environment) →
    TakesStep design turns process frame after action →
    AreLed (code_of design) process (turns_behind (code_of design) frame action now turns) (execute_at frame action after held now).continuation

-- where the step puts nothing before what was left, the process comes to what stands behind the place
abbrev pub PassesAlong : Type 0
PassesAlong = (design : Design) (turns : List ℕ) (process : ℕ) (frame : Frame) (after : List Frame) (action : Action) (now : Environment) →
    TakesStep design turns process frame after action →
    behind (code_of design) (turns_behind (code_of design) frame action now turns) (place_of frame) ≡ first_of after

-- where it waits, it waits at the place, and goes on where its listeners say (9.7.2, 9.7.6, 6.1)
abbrev pub ResumesAlong : Type 0
ResumesAlong = (design : Design) (turns : List ℕ) (process : ℕ) (frame : Frame) (after : List Frame) (action : Action) (held : Option Vector) (now : Environment) (place : ℕ) →
    TakesStep design turns process frame after action → (execute_at frame action after held now).effect.disposition ≡ Waiting place →
    (place ≡ place_of frame)
    × (settle (code_of design) turns (resumes_at place (link_at (code_of design).links place).next action) ≡ first_of (execute_at frame action after held now).continuation)

-- turns of a place of another process change nothing
abbrev pub StaysAlong : Type 0
StaysAlong = (design : Design) (turns : List ℕ) (process : ℕ) (left : List Frame) (place n : ℕ) →
    (code_of design).whole ≡ true → (link_at (code_of design).links place).owner ≢ process → AreLed (code_of design) process turns left →
    AreLed (code_of design) process (with_turns (code_of design) place n turns) left

pub record IsLinked : Type 0 where
  pub begins : BeginsAlong
  pub steps : StepsAlong
  pub passes : PassesAlong
  pub resumes : ResumesAlong
  pub stays : StaysAlong

-- ---- who waits is listed

-- those who listen to what a term is of
abbrev pub heard_of : Code → Term → List Listener
heard_of code (Change edge variable) = listeners_at code.by_variable variable
heard_of code (Event event) = listeners_at code.by_event event

-- the same with another edge; an event has none
abbrev pub with_edge : Term → Edge → Term
with_edge (Change edge variable) other = Change other variable
with_edge (Event event) other = Event event

-- what has come at an action is a term, and its process stands in the list of that
pub record IsHeard (design : Design) (place : ℕ) (action : Action) (before after : List Vector) (triggered : Option ℕ) : Type 0 where
  pub term : Term
  pub comes : hears before after triggered term ≡ true
  pub listed : Contains (heard_of (code_of design) term) (listener_at (code_of design).links place action (edge_of term))

-- 9.7.4: whoever may wait for what has come is listed
abbrev pub HearsAll : Type 0
HearsAll = (design : Design) (place : ℕ) (action : Action) (before after : List Vector) (triggered : Option ℕ) →
    (code_of design).whole ≡ true → slice_get design.actions place ≡ Some action → has_come (Some action) before after triggered ≡ true →
    IsHeard design place action before after triggered

-- a listener is the process of an action, for which that has come which it listens to
pub record Awaits (design : Design) (term : Term) (listener : Listener) : Type 0 where
  pub place : ℕ
  pub action : Action
  pub there : slice_get design.actions place ≡ Some action
  pub is : listener ≡ listener_at (code_of design).links place action listener.edge
  pub comes : (before after : List Vector) (triggered : Option ℕ) →
      hears before after triggered (with_edge term listener.edge) ≡ true → has_come (Some action) before after triggered ≡ true

-- and nobody else is listed
abbrev pub HearsOnly : Type 0
HearsOnly = (design : Design) (term : Term) (listener : Listener) →
    (code_of design).whole ≡ true → Contains (heard_of (code_of design) term) listener → Awaits design term listener

pub record IsHeardByAll : Type 0 where
  pub all : HearsAll
  pub only : HearsOnly

-- ---- operands

-- where the code of the operand at a place has a value, it is that of the operand of the action there
abbrev pub IsOperand : Type 0
IsOperand = (design : Design) (place : ℕ) (action : Action) (now : Environment) (value : Vector) →
    slice_get design.actions place ≡ Some action → now.variables ≡ design.variables →
    operand_value (code_of design) place now.values now.time ≡ Some value → value ≡ operand now action
