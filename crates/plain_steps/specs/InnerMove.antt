-- *internal*: How a step places its process among all, and what a process comes to first: words for the contracts of parts within.
use Rattle.std.specs.Prelude.{◌≡◌, ℕ, List, [], ◌∷◌, Option, Some, None, slice_get, drop, slice_set}
use Rattle.vbits.specs.Vectors.{Vector}
use Rattle.std.specs.Borrow.{Bor}
use Rattle.vdesign.specs.declared.action.Action.{Action}
use Rattle.vmodel.specs.declared.frame.Frame.{Frame}
use Rattle.vmodel.specs.Queue.{Queue}
use Rattle.vmodel.specs.Step.{place_of, frames, process_to_continue, process_by, reschedule, posts, with_strobe, held_of}
use Rattle.vmodel.specs.Effects.{Effect}
use Rattle.sched_core.specs.declared.end.Cause.{Cause}
use Rattle.vmodel.specs.State.{Process, State}
use Rattle.vmodel.specs.InnerStep.{continuation_in, behind}

-- what a process holds, among all
abbrev pub held_in : List Process → ℕ → Option Vector
held_in processes number = held_of (slice_get processes number)

-- a process that had so much left, behind a step after which these places come
abbrev pub process_with_move : List Frame → Option Frame → List ℕ → Effect → Process
process_with_move continuation frame next effect = process_by (record { continuation = frames next (behind frame (drop 1 continuation)); effect = effect })

-- and the queue
abbrev pub queue_with_move : ℕ → List Frame → Option Frame → List ℕ → Effect → Queue → Queue
queue_with_move number continuation frame next effect q =
    reschedule number effect.disposition (process_to_continue number (frames next (behind frame (drop 1 continuation)))) (posts effect.posted (with_strobe effect.strobed q))

abbrev pub processes_with_move : ℕ → List Process → Option Frame → List ℕ → Effect → List Process
processes_with_move number processes frame next effect =
    slice_set processes number (process_with_move (continuation_in processes number) frame next effect)

-- the state after a process is placed and the queue has it
abbrev pub state_with_move : ℕ → Option Frame → List ℕ → Effect → State → State
state_with_move number frame next effect s = record s {
  processes = processes_with_move number s.processes frame next effect;
  queue = queue_with_move number (continuation_in s.processes number) frame next effect s.queue;
}

-- the state where the run ends for a reason, or goes on
abbrev pub with_cause : Option Cause → State → State
with_cause cause s = record s { cause = cause }

-- ---- what a process comes to

-- the action there
abbrev pub first_action : List Action → List Frame → Option Action
first_action actions [] = None
first_action actions (frame ∷ after) = slice_get actions (place_of frame)

-- the first of the frames and the action at its place, or none where either is missing
abbrev pub IsFirstAction : List Action → List Frame → Option (Frame × Bor Action) → Type 0
IsFirstAction actions continuation None = first_action actions continuation ≡ None
IsFirstAction actions continuation (Some found) = (slice_get continuation 0 ≡ Some found.0) × (first_action actions continuation ≡ Some found.1.now)
