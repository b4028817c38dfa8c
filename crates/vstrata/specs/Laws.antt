-- *internal*: What the words of specs/Strata.antt come to in those of `Choices` and `Step` (each is proved of all queues: `strata_law`).
use Rattle.std.specs.Prelude.{◌≡◌, ℕ, ◌≤◌, List, [], Option, Some, None, unwrap_or}
use Rattle.sched_core.specs.declared.setting.Grain.{Grain}
use Rattle.vmodel.specs.declared.part.Part.{Part}
use Rattle.vmodel.specs.Choices.{or_advance, queue_choices}
use Rattle.vmodel.specs.Kept.{RisesFrom, IsInOrder, count_in}
use Rattle.vmodel.specs.Queue.{Queue}
use Rattle.vmodel.specs.Run.{opening_queue}
use Rattle.vmodel.specs.SlotEnds.{IsIdle}
use Rattle.vmodel.specs.Step.{deactivate, with_next_step, with_delay, posts_after, with_strobe, with_queue_moves, monitors_in, with_advance}
use Rattle.vstrata.specs.declared.taken.Taken.{Taken}
use Rattle.vstrata.specs.Strata.{slot_choices, with_active, with_last, without_taken, slot_monitors}

-- 11.4: where the current time has no choice, the advance is the one choice, if there is a future time
abbrev pub AddsTheAdvance : Type 0
AddsTheAdvance = (q : Queue) → queue_choices q ≡ or_advance (slot_choices q) q.future

-- an active process that is taken and made active again, as the one that made the last step, has gone on, and nothing else has changed
abbrev pub GoesOnAsTaken : Type 0
GoesOnAsTaken = (q : Queue) (p : ℕ) → RisesFrom 0 q.active → 1 ≤ count_in p q.active → with_last p (deactivate p q) ≡ with_next_step p (Some p) q

-- what a call makes of a queue that is in order is in order
abbrev pub KeepsOrder : (Queue → Queue) → Type 0
KeepsOrder change = (q : Queue) → IsInOrder q → IsInOrder (change q)

-- 11.3: a queue whose first processes rise by number is in order from the start and after each call; so its active processes rise
pub record StaysInOrder : Type 0 where
  pub opens : (processes : List ℕ) (until : ℕ) (grain : Grain) → RisesFrom 0 processes → IsInOrder (opening_queue processes until grain)
  pub activates : (p : ℕ) → KeepsOrder (with_last p)
  pub wakes : (p : ℕ) → KeepsOrder (with_active p)
  pub leaves : (p : ℕ) → KeepsOrder (deactivate p)
  pub sleeps : (d : ℕ) (sleeper : Option ℕ) → KeepsOrder (with_delay d sleeper)
  pub posts : (d : ℕ) (u : List Part) → KeepsOrder (posts_after d u)
  pub strobes : (strobed : Option ℕ) → KeepsOrder (with_strobe strobed)
  pub takes : (taken : Taken) → KeepsOrder (without_taken taken)
  pub moves : KeepsOrder with_queue_moves
  pub advances : KeepsOrder (λ q. with_advance q.future q)

-- 17.1.2: the monitor events that are handed out are those that run
abbrev pub HandsOutAll : Type 0
HandsOutAll = (q : Queue) → monitors_in q ≡ unwrap_or (slot_monitors q) []

-- 11.4: after the region moves nothing is active exactly where the slot has ended
abbrev pub EndsIdle : Type 0
EndsIdle = (q : Queue) (monitors : List ℕ) → slot_monitors q ≡ Some monitors → IsIdle (with_queue_moves q)

abbrev pub ElseIsActive : Type 0
ElseIsActive = (q : Queue) → slot_monitors q ≡ None → ¬ IsIdle (with_queue_moves q)
