-- *product rule*: What is held back in a state, and what else can go on there (docs/SCHEDULING.md, "Departures that hold back").
use Rattle.std.specs.Prelude.{◌≡◌, ◌≢◌, ◌⊎◌, ℕ, ◌<◌, List, [], ◌∷◌, Some, unwrap_or, slice_get}
use Rattle.std.specs.List.{Contains}
use Rattle.vdesign.specs.Design.{Design}
use Rattle.vdesign.specs.declared.action.Action.{Action}
use Rattle.vmodel.specs.declared.frame.Frame.{Frame}
use Rattle.vmodel.specs.declared.choice.Choice.{Choice}
use Rattle.vmodel.specs.declared.choice.Choice.TheVariants.{Run}
use Rattle.vmodel.specs.Choices.{choices}
use Rattle.vmodel.specs.State.{State}
use Rattle.vmodel.specs.Step.{continuation_of, place_of, next}

-- nobody, where departures only take
abbrev pub held_in : State → List ℕ
held_in s = unwrap_or s.held_back []

abbrev pub IsHeld : State → ℕ → Type 0
IsHeld s p = Contains (held_in s) p

abbrev pub IsActive : State → ℕ → Type 0
IsActive s p = Contains s.queue.active p

-- an active process that isn't held back
abbrev pub HasFreeProcess : State → Type 0
HasFreeProcess s = (p : ℕ) × IsActive s p × (¬ IsHeld s p)

-- something can go on that isn't held back: a process, or an activated update
abbrev pub HasFree : State → Type 0
HasFree s = HasFreeProcess s ⊎ (s.queue.activated ≢ [])

-- what a process has left begins at the place of an action
abbrev pub HasActions : Design → State → Type 0
HasActions design s = (p : ℕ) (frame : Frame) (after : List Frame) →
    continuation_of (slice_get s.processes p) ≡ frame ∷ after →
    (action : Action) × (slice_get design.actions (place_of frame) ≡ Some action)

-- ---- choices that hold back

-- a lower choice takes the process
abbrev pub IsBefore : State → ℕ → ℕ → Type 0
IsBefore s k p = (i : ℕ) × (i < k) × (slice_get (choices s) i ≡ Some (Run p))

-- it stands before what choice k takes, or is held back already
abbrev pub StandsBefore : State → ℕ → ℕ → Type 0
StandsBefore s k p = IsBefore s k p ⊎ IsHeld s p

-- nothing can go on in t but what stood before what choice k of s takes
abbrev pub HasNothingElse : State → ℕ → State → Type 0
HasNothingElse s k t = (t.queue.activated ≡ []) × ((p : ℕ) → IsActive t p → StandsBefore s k p)

-- there is a choice that takes this, too, and after which all processes that stood before it are held back, unless nothing else can
-- go on then
abbrev pub HoldsBefore : Design → State → ℕ → Choice → Type 0
HoldsBefore design s k c =
    (j : ℕ) × (slice_get (choices s) j ≡ Some c)
    × (((p : ℕ) → StandsBefore s k p → c ≢ Run p → IsHeld (next design s j).state p) ⊎ HasNothingElse s k (next design s j).state)
