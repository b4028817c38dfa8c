-- *internal*: What is read of a state of a run: its end, and the slot that ends there (IEEE 1364-2005, 11.4).
use Rattle.std.specs.Prelude.{ℕ, ◌==◌, ◌&&◌, if◌then◌else◌, is_none, Option, Some, None, length}
use Rattle.sched_core.specs.declared.end.End.{End}
use Rattle.vmodel.specs.State.{State}
use Rattle.vmodel.specs.Choices.{choices}
use Rattle.vmodel.specs.Run.{end_of, is_mark}

-- where no choice is left the run has ended
abbrev pub end_in : State → Option End
end_in s = if length (choices s) == 0 then Some (end_of s) else None

-- a mark where the run goes on is a slot end
abbrev pub slot_in : State → Option ℕ
slot_in s = if is_mark s && is_none s.cause then Some s.queue.time else None
