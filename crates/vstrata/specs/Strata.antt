-- *internal*: The choices of a slot, and what is taken of it (IEEE 1364-2005, 11.4). `Choices` and `Step` of `vmodel` say the rest.
use Rattle.std.specs.Prelude.{◌≡◌, ℕ, ◌<◌, List, [], ◌∷◌, Option, Some, None, slice_get}
use Rattle.vmodel.specs.declared.part.Part.{Part}
use Rattle.vmodel.specs.declared.choice.Choice.{Choice}
use Rattle.vmodel.specs.declared.choice.Choice.TheVariants.{Run, Update as UpdateChoice}
use Rattle.vmodel.specs.Choices.{offered_choices}
use Rattle.vmodel.specs.Queue.{Queue, with_process}
use Rattle.vmodel.specs.Step.{deactivate, without_update}
use Rattle.vstrata.specs.declared.settled.Settled.{Settled}
use Rattle.vstrata.specs.declared.settled.Settled.TheVariants.{Active, SlotEnd}
use Rattle.vstrata.specs.declared.taken.Taken.{Taken}
use Rattle.vstrata.specs.declared.taken.Taken.TheVariants.{Process, Update}

-- the choices of the current time: those of `queue_choices` but for the advance, which is the choice at a slot end
abbrev pub slot_choices : Queue → List Choice
slot_choices q = offered_choices q q.grain q.last

-- a choice is this process, or the first activated update, which is this one (11.4.1)
abbrev pub IsTaken : Queue → ℕ → Taken → Type 0
IsTaken q i (Process p) = slice_get (slot_choices q) i ≡ Some (Run p)
IsTaken q i (Update u) = (slice_get (slot_choices q) i ≡ Some UpdateChoice) × (slice_get q.activated 0 ≡ Some u)

-- a process that is handed out has a number that can be handed back
abbrev pub IsNumbered : Taken → Type 0
IsNumbered (Process p) = p < 256
IsNumbered (Update u) = Unit {0}

-- without what was taken: neither the process nor the update is active any more
abbrev pub without_taken : Taken → Queue → Queue
without_taken (Process p) q = deactivate p q
without_taken (Update u) q = without_update q.activated q

-- one more process is active
abbrev pub with_active : ℕ → Queue → Queue
with_active p q = record q { active = with_process p q.active }

-- the process is active, as the one that made the last step
abbrev pub with_last : ℕ → Queue → Queue
with_last p q = record q { last = Some p; active = with_process p q.active }

-- 11.4, 17.1.2: the monitor events of the slot where it has ended, in order of creation: nothing is active, inactive or posted
abbrev pub ended_with : List ℕ → List (List Part) → List ℕ → List (List Part) → List ℕ → Option (List ℕ)
ended_with (p ∷ ps) us is posts strobes = None
ended_with [] (u ∷ us) is posts strobes = None
ended_with [] [] (i ∷ is) posts strobes = None
ended_with [] [] [] (u ∷ us) strobes = None
ended_with [] [] [] [] strobes = Some strobes

abbrev pub slot_monitors : Queue → Option (List ℕ)
slot_monitors q = ended_with q.active q.activated q.inactive q.posted q.strobes

-- the monitor events that are handed out
abbrev pub monitors_of : Settled → Option (List ℕ)
monitors_of Active = None
monitors_of (SlotEnd monitors) = Some monitors.items
