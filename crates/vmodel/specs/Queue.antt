-- *trusted*: The stratified event queue (IEEE 1364-2005, 11.3; docs/SCHEDULING.md): what stands in which region, and what comes later.
-- Processes go by number and stand in the order of their numbers (specs/Kept.antt); updates stand in the order in which they were posted.
use Rattle.std.specs.Prelude.{ℕ, ◌+◌, ◌==◌, nat_lt, Bool, true, if◌then◌else◌, not, List, [], ◌∷◌, ◌++◌, Option, Some, None, filter}
use Rattle.sched_core.specs.declared.setting.Grain.{Grain}
use Rattle.vmodel.specs.declared.part.Part.{Part}

-- what a future time holds: processes to wake, and updates, each a list of written parts; it may hold nothing, where a
-- process that slept to it has ended
pub record Later : Type 0 where
  pub processes : List ℕ
  pub updates : List (List Part)

pub record Queue : Type 0 where
  pub grain : Grain
  pub until : ℕ  -- the time limit
  pub time : ℕ
  pub last : Option ℕ  -- the process that made the last step, if that step neither suspended nor ended it
  pub active : List ℕ
  pub inactive : List ℕ
  pub activated : List (List Part)  -- nonblocking updates that are active
  pub posted : List (List Part)
  pub strobes : List ℕ  -- monitor events, by the places of their actions, in order of creation (17.1.2; own)
  pub future : List (ℕ × Later)  -- in order of time, later than now and within the limit
  pub beyond : Bool  -- something is past the limit

-- a set of processes with one more
abbrev pub with_process : ℕ → List ℕ → List ℕ
with_process p [] = p ∷ []
with_process p (q ∷ qs) = if nat_lt p q then p ∷ q ∷ qs else if p == q then q ∷ qs else q ∷ with_process p qs

abbrev pub without_process : ℕ → List ℕ → List ℕ
without_process p = filter (λ q. not (p == q))

abbrev pub empty_slot : Later
empty_slot = record { processes = []; updates = [] }

-- what a time holds, with one more process to wake, or none more
abbrev pub slot_with_sleeper : Option ℕ → Later → Later
slot_with_sleeper None slot = slot
slot_with_sleeper (Some p) slot = record slot { processes = with_process p slot.processes }

-- 11.4: the same with one more update, after the others
abbrev pub slot_with_update : List Part → Later → Later
slot_with_update parts slot = record slot { updates = slot.updates ++ parts ∷ [] }

-- the future where more is put to what a time holds, which becomes a future time also where nothing is there
abbrev pub later_at : ℕ → (Later → Later) → List (ℕ × Later) → List (ℕ × Later)
later_at t put [] = (t, put empty_slot) ∷ []
later_at t put (e ∷ es) =
    if nat_lt t e.0 then (t, put empty_slot) ∷ e ∷ es
    else if t == e.0 then (e.0, put e.1) ∷ es
    else e ∷ later_at t put es

-- the same for the time after a delay. Past the limit nothing is kept but that something is there
abbrev pub later : ℕ → (Later → Later) → Queue → Queue
later d put q =
    if nat_lt q.until (q.time + d) then record q { beyond = true }
    else record q { future = later_at (q.time + d) put q.future }
