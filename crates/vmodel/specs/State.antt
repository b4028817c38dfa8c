-- *trusted*: A state of a run (IEEE 1364-2005, 11.1, 11.3; docs/SCHEDULING.md): values, what each process has left, the queue, why the run
-- ended if `$finish` or `$stop` was taken, and, where the setting asks for these, what is held back and the lines of the slot.
-- All of it is numbers, letters and lists of them; statements go by their places in the design's table of actions.
use Rattle.std.specs.Prelude.{ℕ, List, [], Option}
use Rattle.vbits.specs.Vectors.{Vector}
use Rattle.vmodel.specs.Queue.{Queue}
use Rattle.sched_core.specs.declared.end.Cause.{Cause}
use Rattle.vmodel.specs.declared.frame.Frame.{Frame}

-- what a process stands at (11.2)
pub record Process : Type 0 where
  pub continuation : List Frame  -- what it has left, the first of it first
  pub held : Option Vector  -- the value that a suspended assignment holds (9.7.7)
  pub waits : Option ℕ  -- the place of the action at which it waits for a change or a named event (9.7.2, 9.7.3)

pub record State : Type 0 where
  pub values : List Vector  -- by number of variable
  pub processes : List Process  -- by number
  pub queue : Queue
  pub cause : Option Cause  -- once `$finish` or `$stop` was taken (17.4)
  pub held_back : Option (List ℕ)  -- where departures may hold back: the active processes that are held back, by number
  pub printed : Option (List (List ℕ))  -- where lines are looked at: those of the slot so far, in the order of their bytes

-- all of a state but its processes
abbrev pub without_processes : State → State
without_processes t = record t { processes = [] }
