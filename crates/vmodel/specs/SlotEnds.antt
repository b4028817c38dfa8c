-- *trusted*: When a state is the end of its slot (IEEE 1364-2005, 11.4; docs/SCHEDULING.md).
use Rattle.std.specs.Prelude.{◌≡◌, ℕ, List, [], None}
use Rattle.vbits.specs.Vectors.{Vector}
use Rattle.vmodel.specs.Queue.{Queue}
use Rattle.vmodel.specs.State.{State}

-- nothing is active, no process and no update. In a state of a run that goes on, nothing waits in another region of this time either then
-- ([kept] of `run_law`)
abbrev pub IsIdle : Queue → Type 0
IsIdle q = (q.active ≡ []) × (q.activated ≡ [])

-- 11.4: the state is a slot end: nothing is active and the run goes on, at this time and with these values
pub record IsSlotEnd (time : ℕ) (values : List Vector) (s : State) : Type 0 where
  pub goes_on : s.cause ≡ None
  pub idle : IsIdle s.queue
  pub time_is : s.queue.time ≡ time
  pub values_are : s.values ≡ values
