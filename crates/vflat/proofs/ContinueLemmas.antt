-- A step does the same whatever its process has left behind the first frame, and puts places before that.
use Rattle.std.proofs.Common.{◌≡◌, ℕ, ◌-◌, zero, suc, Bool, true, false, if◌then◌else◌, List, [], ◌∷◌, ◌++◌, length, slice_set, ◌⊎◌, inl, inr, Option, None, Some, refl, ap, ◌∙◌, arith}
use Rattle.vbits.specs.Vectors.{Vector}
use Rattle.vcode.specs.Code.{Code, counter_at, with_counter, with_turns}
use Rattle.vdesign.specs.declared.action.Action.{Action}
use Rattle.vdesign.specs.declared.action.Action.TheVariants.{Assign, Nonblocking, AssignDelayed, NonblockingDelayed, Trigger, Test, Case, While, Repeat, Forever, Delay, EventControl, Wait, ContinuousAssign, Print, DumpVars, Dump, NoOperation, Finish, Stop}
use Rattle.vvalue.specs.Value.{Environment, holds, delay_of}
use Rattle.vvalue.specs.Cases.{places_of_case, turns_of}
use Rattle.vmodel.specs.declared.frame.Frame.{Frame}
use Rattle.vmodel.specs.declared.frame.Frame.TheVariants.{Executing, Repeating, Writing}
use Rattle.vmodel.specs.declared.effect.Disposition.TheVariants.{Delayed, Waiting}
use Rattle.vmodel.specs.Effects.{Effect, no_effect}
use Rattle.vmodel.specs.Step.{StepResult, frames, turns_left, place_of, execute_at}
use Rattle.vmodel.specs.InnerStep.{wait_result, while_result}
use Rattle.vcompile.specs.Laws.{turns_behind, HasCounters}

-- what a step did, before what was left
abbrev pub before_left : StepResult → List Frame → StepResult
before_left step after = record { continuation = step.continuation ++ after; effect = step.effect }

frames_more : (places : List ℕ) (xs after : List Frame) → frames places (xs ++ after) ≡ frames places xs ++ after
frames_more [] xs after = refl
frames_more (place ∷ places) xs after = ap (λ ys. Executing place ∷ ys) (frames_more places xs after)

abbrev step_with : Effect → List Frame → StepResult
step_with effect xs = record { continuation = xs; effect = effect }

with_effect : (effect : Effect) (xs ys : List Frame) → xs ≡ ys → step_with effect xs ≡ step_with effect ys
with_effect effect xs ys e = ap (step_with effect) e

turns_more : (place n : ℕ) (after : List Frame) → turns_left place n after ≡ turns_left place n [] ++ after
turns_more place zero after = refl
turns_more place (suc n) after = refl

while_more : (place : ℕ) (b : Bool) (body : List ℕ) (after : List Frame) → while_result place b body after ≡ before_left (while_result place b body []) after
while_more place true body after = with_effect no_effect (frames body (Executing place ∷ after)) (frames body (Executing place ∷ []) ++ after) (frames_more body (Executing place ∷ []) after)
while_more place false body after = refl

wait_more : (place : ℕ) (b : Bool) (body : List ℕ) (after : List Frame) → wait_result place b body after ≡ before_left (wait_result place b body []) after
wait_more place true body after = with_effect no_effect (frames body after) (frames body [] ++ after) (frames_more body [] after)
wait_more place false body after = refl

pub continues : (frame : Frame) (action : Action) (after : List Frame) (held : Option Vector) (now : Environment) →
    execute_at frame action after held now ≡ before_left (execute_at frame action [] held now) after
continues (Executing place) (Assign targets value) after held now = refl
continues (Executing place) (Nonblocking targets value) after held now = refl
continues (Executing place) (AssignDelayed amount targets value) after held now = refl
continues (Executing place) (NonblockingDelayed amount targets value) after held now = refl
continues (Executing place) (Trigger event) after held now = refl
continues (Executing place) (Test condition when_true otherwise) after held now =
    with_effect no_effect (frames (if holds now condition then when_true else otherwise) after) (frames (if holds now condition then when_true else otherwise) [] ++ after)
    (frames_more (if holds now condition then when_true else otherwise) [] after)
continues (Executing place) (Case kind value branches otherwise) after held now =
    with_effect no_effect (frames (places_of_case now kind value branches otherwise) after) (frames (places_of_case now kind value branches otherwise) [] ++ after)
    (frames_more (places_of_case now kind value branches otherwise) [] after)
continues (Executing place) (While condition body) after held now = while_more place (holds now condition) body after
continues (Executing place) (Repeat count body) after held now = with_effect no_effect (turns_left place (turns_of now count) after) (turns_left place (turns_of now count) [] ++ after) (turns_more place (turns_of now count) after)
continues (Executing place) (Forever body) after held now = with_effect no_effect (frames body (Executing place ∷ after)) (frames body (Executing place ∷ []) ++ after) (frames_more body (Executing place ∷ []) after)
continues (Executing place) (Delay amount body) after held now = with_effect (record no_effect { disposition = Delayed (delay_of now amount) }) (frames body after) (frames body [] ++ after) (frames_more body [] after)
continues (Executing place) (EventControl terms body) after held now = with_effect (record no_effect { disposition = Waiting place }) (frames body after) (frames body [] ++ after) (frames_more body [] after)
continues (Executing place) (Wait condition terms body) after held now = wait_more place (holds now condition) body after
continues (Executing place) (ContinuousAssign targets value terms) after held now = refl
continues (Executing place) (Print when pieces) after held now = refl
continues (Executing place) (DumpVars selection) after held now = refl
continues (Executing place) (Dump switch) after held now = refl
continues (Executing place) NoOperation after held now = refl
continues (Executing place) Finish after held now = refl
continues (Executing place) Stop after held now = refl
continues (Repeating place n) (Assign targets value) after held now = refl
continues (Repeating place n) (Nonblocking targets value) after held now = refl
continues (Repeating place n) (AssignDelayed amount targets value) after held now = refl
continues (Repeating place n) (NonblockingDelayed amount targets value) after held now = refl
continues (Repeating place n) (Trigger event) after held now = refl
continues (Repeating place n) (Test condition when_true otherwise) after held now = refl
continues (Repeating place n) (Case kind value branches otherwise) after held now = refl
continues (Repeating place n) (While condition body) after held now = refl
continues (Repeating place n) (Repeat count body) after held now =
    with_effect no_effect (frames body (turns_left place (n - 1) after)) (frames body (turns_left place (n - 1) []) ++ after)
    (ap (frames body) (turns_more place (n - 1) after) ∙ frames_more body (turns_left place (n - 1) []) after)
continues (Repeating place n) (Forever body) after held now = refl
continues (Repeating place n) (Delay amount body) after held now = refl
continues (Repeating place n) (EventControl terms body) after held now = refl
continues (Repeating place n) (Wait condition terms body) after held now = refl
continues (Repeating place n) (ContinuousAssign targets value terms) after held now = refl
continues (Repeating place n) (Print when pieces) after held now = refl
continues (Repeating place n) (DumpVars selection) after held now = refl
continues (Repeating place n) (Dump switch) after held now = refl
continues (Repeating place n) NoOperation after held now = refl
continues (Repeating place n) Finish after held now = refl
continues (Repeating place n) Stop after held now = refl
continues (Writing place) (Assign targets value) after held now = refl
continues (Writing place) (Nonblocking targets value) after held now = refl
continues (Writing place) (AssignDelayed amount targets value) after held now = refl
continues (Writing place) (NonblockingDelayed amount targets value) after held now = refl
continues (Writing place) (Trigger event) after held now = refl
continues (Writing place) (Test condition when_true otherwise) after held now = refl
continues (Writing place) (Case kind value branches otherwise) after held now = refl
continues (Writing place) (While condition body) after held now = refl
continues (Writing place) (Repeat count body) after held now = refl
continues (Writing place) (Forever body) after held now = refl
continues (Writing place) (Delay amount body) after held now = refl
continues (Writing place) (EventControl terms body) after held now = refl
continues (Writing place) (Wait condition terms body) after held now = refl
continues (Writing place) (ContinuousAssign targets value terms) after held now = refl
continues (Writing place) (Print when pieces) after held now = refl
continues (Writing place) (DumpVars selection) after held now = refl
continues (Writing place) (Dump switch) after held now = refl
continues (Writing place) NoOperation after held now = refl
continues (Writing place) Finish after held now = refl
continues (Writing place) Stop after held now = refl

-- where a step suspends its process so, it takes no turn
pub no_turns : (code : Code) (frame : Frame) (action : Action) (after : List Frame) (held : Option Vector) (now : Environment) (turns : List ℕ) (place : ℕ) →
    (execute_at frame action after held now).effect.disposition ≡ Waiting place → turns_behind code frame action now turns ≡ turns
no_turns code (Executing one) (Assign targets value) after held now turns place e = refl
no_turns code (Executing one) (Nonblocking targets value) after held now turns place e = refl
no_turns code (Executing one) (AssignDelayed amount targets value) after held now turns place e = refl
no_turns code (Executing one) (NonblockingDelayed amount targets value) after held now turns place e = refl
no_turns code (Executing one) (Trigger event) after held now turns place e = refl
no_turns code (Executing one) (Test condition when_true otherwise) after held now turns place e = refl
no_turns code (Executing one) (Case kind value branches otherwise) after held now turns place e = refl
no_turns code (Executing one) (While condition body) after held now turns place e = refl
no_turns code (Executing one) (Repeat count body) after held now turns place e = absurd cc
no_turns code (Executing one) (Forever body) after held now turns place e = refl
no_turns code (Executing one) (Delay amount body) after held now turns place e = refl
no_turns code (Executing one) (EventControl terms body) after held now turns place e = refl
no_turns code (Executing one) (Wait condition terms body) after held now turns place e = refl
no_turns code (Executing one) (ContinuousAssign targets value terms) after held now turns place e = refl
no_turns code (Executing one) (Print when pieces) after held now turns place e = refl
no_turns code (Executing one) (DumpVars selection) after held now turns place e = refl
no_turns code (Executing one) (Dump switch) after held now turns place e = refl
no_turns code (Executing one) NoOperation after held now turns place e = refl
no_turns code (Executing one) Finish after held now turns place e = refl
no_turns code (Executing one) Stop after held now turns place e = refl
no_turns code (Repeating one n) (Assign targets value) after held now turns place e = refl
no_turns code (Repeating one n) (Nonblocking targets value) after held now turns place e = refl
no_turns code (Repeating one n) (AssignDelayed amount targets value) after held now turns place e = refl
no_turns code (Repeating one n) (NonblockingDelayed amount targets value) after held now turns place e = refl
no_turns code (Repeating one n) (Trigger event) after held now turns place e = refl
no_turns code (Repeating one n) (Test condition when_true otherwise) after held now turns place e = refl
no_turns code (Repeating one n) (Case kind value branches otherwise) after held now turns place e = refl
no_turns code (Repeating one n) (While condition body) after held now turns place e = refl
no_turns code (Repeating one n) (Repeat count body) after held now turns place e = absurd cc
no_turns code (Repeating one n) (Forever body) after held now turns place e = refl
no_turns code (Repeating one n) (Delay amount body) after held now turns place e = refl
no_turns code (Repeating one n) (EventControl terms body) after held now turns place e = refl
no_turns code (Repeating one n) (Wait condition terms body) after held now turns place e = refl
no_turns code (Repeating one n) (ContinuousAssign targets value terms) after held now turns place e = refl
no_turns code (Repeating one n) (Print when pieces) after held now turns place e = refl
no_turns code (Repeating one n) (DumpVars selection) after held now turns place e = refl
no_turns code (Repeating one n) (Dump switch) after held now turns place e = refl
no_turns code (Repeating one n) NoOperation after held now turns place e = refl
no_turns code (Repeating one n) Finish after held now turns place e = refl
no_turns code (Repeating one n) Stop after held now turns place e = refl
no_turns code (Writing one) (Assign targets value) after held now turns place e = refl
no_turns code (Writing one) (Nonblocking targets value) after held now turns place e = refl
no_turns code (Writing one) (AssignDelayed amount targets value) after held now turns place e = refl
no_turns code (Writing one) (NonblockingDelayed amount targets value) after held now turns place e = refl
no_turns code (Writing one) (Trigger event) after held now turns place e = refl
no_turns code (Writing one) (Test condition when_true otherwise) after held now turns place e = refl
no_turns code (Writing one) (Case kind value branches otherwise) after held now turns place e = refl
no_turns code (Writing one) (While condition body) after held now turns place e = refl
no_turns code (Writing one) (Repeat count body) after held now turns place e = refl
no_turns code (Writing one) (Forever body) after held now turns place e = refl
no_turns code (Writing one) (Delay amount body) after held now turns place e = refl
no_turns code (Writing one) (EventControl terms body) after held now turns place e = refl
no_turns code (Writing one) (Wait condition terms body) after held now turns place e = refl
no_turns code (Writing one) (ContinuousAssign targets value terms) after held now turns place e = refl
no_turns code (Writing one) (Print when pieces) after held now turns place e = refl
no_turns code (Writing one) (DumpVars selection) after held now turns place e = refl
no_turns code (Writing one) (Dump switch) after held now turns place e = refl
no_turns code (Writing one) NoOperation after held now turns place e = refl
no_turns code (Writing one) Finish after held now turns place e = refl
no_turns code (Writing one) Stop after held now turns place e = refl

-- a step takes turns of its own place alone
pub own_turns : (code : Code) (frame : Frame) (action : Action) (now : Environment) (turns : List ℕ) →
    (turns_behind code frame action now turns ≡ turns) ⊎ ((n : ℕ) × (turns_behind code frame action now turns ≡ with_turns code (place_of frame) n turns))
own_turns code (Executing one) (Assign targets value) now turns = inl refl
own_turns code (Executing one) (Nonblocking targets value) now turns = inl refl
own_turns code (Executing one) (AssignDelayed amount targets value) now turns = inl refl
own_turns code (Executing one) (NonblockingDelayed amount targets value) now turns = inl refl
own_turns code (Executing one) (Trigger event) now turns = inl refl
own_turns code (Executing one) (Test condition when_true otherwise) now turns = inl refl
own_turns code (Executing one) (Case kind value branches otherwise) now turns = inl refl
own_turns code (Executing one) (While condition body) now turns = inl refl
own_turns code (Executing one) (Repeat count body) now turns = inr (turns_of now count, refl)
own_turns code (Executing one) (Forever body) now turns = inl refl
own_turns code (Executing one) (Delay amount body) now turns = inl refl
own_turns code (Executing one) (EventControl terms body) now turns = inl refl
own_turns code (Executing one) (Wait condition terms body) now turns = inl refl
own_turns code (Executing one) (ContinuousAssign targets value terms) now turns = inl refl
own_turns code (Executing one) (Print when pieces) now turns = inl refl
own_turns code (Executing one) (DumpVars selection) now turns = inl refl
own_turns code (Executing one) (Dump switch) now turns = inl refl
own_turns code (Executing one) NoOperation now turns = inl refl
own_turns code (Executing one) Finish now turns = inl refl
own_turns code (Executing one) Stop now turns = inl refl
own_turns code (Repeating one n) (Assign targets value) now turns = inl refl
own_turns code (Repeating one n) (Nonblocking targets value) now turns = inl refl
own_turns code (Repeating one n) (AssignDelayed amount targets value) now turns = inl refl
own_turns code (Repeating one n) (NonblockingDelayed amount targets value) now turns = inl refl
own_turns code (Repeating one n) (Trigger event) now turns = inl refl
own_turns code (Repeating one n) (Test condition when_true otherwise) now turns = inl refl
own_turns code (Repeating one n) (Case kind value branches otherwise) now turns = inl refl
own_turns code (Repeating one n) (While condition body) now turns = inl refl
own_turns code (Repeating one n) (Repeat count body) now turns = inr (n - 1, refl)
own_turns code (Repeating one n) (Forever body) now turns = inl refl
own_turns code (Repeating one n) (Delay amount body) now turns = inl refl
own_turns code (Repeating one n) (EventControl terms body) now turns = inl refl
own_turns code (Repeating one n) (Wait condition terms body) now turns = inl refl
own_turns code (Repeating one n) (ContinuousAssign targets value terms) now turns = inl refl
own_turns code (Repeating one n) (Print when pieces) now turns = inl refl
own_turns code (Repeating one n) (DumpVars selection) now turns = inl refl
own_turns code (Repeating one n) (Dump switch) now turns = inl refl
own_turns code (Repeating one n) NoOperation now turns = inl refl
own_turns code (Repeating one n) Finish now turns = inl refl
own_turns code (Repeating one n) Stop now turns = inl refl
own_turns code (Writing one) (Assign targets value) now turns = inl refl
own_turns code (Writing one) (Nonblocking targets value) now turns = inl refl
own_turns code (Writing one) (AssignDelayed amount targets value) now turns = inl refl
own_turns code (Writing one) (NonblockingDelayed amount targets value) now turns = inl refl
own_turns code (Writing one) (Trigger event) now turns = inl refl
own_turns code (Writing one) (Test condition when_true otherwise) now turns = inl refl
own_turns code (Writing one) (Case kind value branches otherwise) now turns = inl refl
own_turns code (Writing one) (While condition body) now turns = inl refl
own_turns code (Writing one) (Repeat count body) now turns = inl refl
own_turns code (Writing one) (Forever body) now turns = inl refl
own_turns code (Writing one) (Delay amount body) now turns = inl refl
own_turns code (Writing one) (EventControl terms body) now turns = inl refl
own_turns code (Writing one) (Wait condition terms body) now turns = inl refl
own_turns code (Writing one) (ContinuousAssign targets value terms) now turns = inl refl
own_turns code (Writing one) (Print when pieces) now turns = inl refl
own_turns code (Writing one) (DumpVars selection) now turns = inl refl
own_turns code (Writing one) (Dump switch) now turns = inl refl
own_turns code (Writing one) NoOperation now turns = inl refl
own_turns code (Writing one) Finish now turns = inl refl
own_turns code (Writing one) Stop now turns = inl refl

-- ---- as many counters

set_many : (turns : List ℕ) (i n : ℕ) → length (slice_set turns i n) ≡ length turns
set_many [] i n = refl
set_many (t ∷ turns) zero n = refl
set_many (t ∷ turns) (suc i) n = ap suc (set_many turns i n)

counter_many : (counter : Option ℕ) (n : ℕ) (turns : List ℕ) → length (with_counter counter n turns) ≡ length turns
counter_many None n turns = refl
counter_many (Some counter) n turns = set_many turns counter n

pub turns_many : (code : Code) (place n : ℕ) (turns : List ℕ) → length (with_turns code place n turns) ≡ length turns
turns_many code place n turns = counter_many (counter_at code place) n turns

pub has_counters : (code : Code) (place n : ℕ) (turns : List ℕ) → HasCounters code turns → HasCounters code (with_turns code place n turns)
has_counters code place n turns h = λ other counter is. omega (arith, h other counter is, turns_many code place n turns)

pub turns_as_many : (code : Code) (frame : Frame) (action : Action) (now : Environment) (turns : List ℕ) → length (turns_behind code frame action now turns) ≡ length turns
turns_as_many code frame action now turns = elim (own_turns code frame action now turns) [
  | inl e ↦ ap length e
  | inr e ↦ ap length e.1 ∙ turns_many code (place_of frame) e.0 turns
]
