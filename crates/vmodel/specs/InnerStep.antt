-- *internal*: How the parts of a step are told: words for the contracts of parts within.
use Rattle.std.specs.Prelude.{ℕ, Bool, if◌then◌else◌, ◌∷◌, List, Option, Some, None, slice_get}
use Rattle.vmodel.specs.declared.frame.Frame.{Frame}
use Rattle.vmodel.specs.declared.frame.Frame.TheVariants.{Executing}
use Rattle.vmodel.specs.Effects.{Effect, no_effect}
use Rattle.vmodel.specs.declared.effect.Disposition.TheVariants.{Waiting}
use Rattle.sched_core.specs.declared.end.Cause.{Cause}
use Rattle.vmodel.specs.State.{Process, State}
use Rattle.vmodel.specs.Step.{StepResult, Transition, frames, continuation_of}

-- what a process has left, among all
abbrev pub continuation_in : List Process → ℕ → List Frame
continuation_in processes number = continuation_of (slice_get processes number)

-- what stands behind the places that come next: a frame, where one is given, and the rest
abbrev pub behind : Option Frame → List Frame → List Frame
behind None rest = rest
behind (Some frame) rest = frame ∷ rest

-- what a step did, after which these places come, and then this frame where one is given
abbrev pub step_result : Option Frame → List ℕ → List Frame → Effect → StepResult
step_result frame next after effect = record { continuation = frames next (behind frame after); effect = effect }

-- what a loop at a place does where its condition holds, and where it does not
abbrev pub while_result : ℕ → Bool → List ℕ → List Frame → StepResult
while_result place holds body after = record { continuation = if holds then frames body (Executing place ∷ after) else after; effect = no_effect }

-- what a `wait` at a place does where its condition holds, and where it does not
abbrev pub wait_result : ℕ → Bool → List ℕ → List Frame → StepResult
wait_result place holds body after =
    if holds then record { continuation = frames body after; effect = no_effect }
    else record { continuation = Executing place ∷ after; effect = record no_effect { disposition = Waiting place } }

-- the state after a step, what the step did, and the monitor events that ran
abbrev pub transition_to : State → Effect → List ℕ → Transition
transition_to state effect monitors = record { state = state; effect = effect; monitors = monitors }

-- a step that ends the run
abbrev pub effect_of_end : Cause → Effect
effect_of_end cause = record no_effect { cause = Some cause }
