-- *product rule*: When two states of a run are equal: by all that they hold, statements by their places (docs/SCHEDULING.md).
use Rattle.std.specs.Prelude.{ℕ, Bool, false, nat_eq, ◌&&◌, List, Option}
use Rattle.std.specs.Bool.{beq}
use Rattle.std.specs.Option.{option_eq}
use Rattle.std.specs.Cmp.Lexicographic.{pointwise}
use Rattle.vbits.specs.Vectors.{Vector, vector_same}
use Rattle.sched_core.specs.Bags.{lines_same}
use Rattle.sched_core.specs.Ends.{cause_same}
use Rattle.sched_core.specs.Settings.{grain_same}
use Rattle.vmodel.specs.declared.part.Part.{Part}
use Rattle.vmodel.specs.declared.part.Part.TheVariants.{Whole, Bits}
use Rattle.vmodel.specs.declared.frame.Frame.{Frame}
use Rattle.vmodel.specs.declared.frame.Frame.TheVariants.{Executing, Repeating, Writing}
use Rattle.vmodel.specs.Queue.{Later, Queue}
use Rattle.vmodel.specs.State.{Process, State}

abbrev pub values_same : List Vector → List Vector → Bool
values_same = pointwise vector_same

abbrev pub frame_same : Frame → Frame → Bool
frame_same (Executing p) (Executing q) = nat_eq p q
frame_same (Repeating p m) (Repeating q n) = nat_eq p q && nat_eq m n
frame_same (Writing p) (Writing q) = nat_eq p q
frame_same _ _ = false

abbrev pub process_same : Process → Process → Bool
process_same p q = (pointwise frame_same p.continuation q.continuation && option_eq vector_same p.held q.held) && option_eq nat_eq p.waits q.waits

abbrev pub part_same : Part → Part → Bool
part_same (Whole m v) (Whole n w) = nat_eq m n && vector_same v w
part_same (Bits m k v) (Bits n l w) = (nat_eq m n && nat_eq k l) && vector_same v w
part_same _ _ = false

abbrev pub parts_same : List Part → List Part → Bool
parts_same = pointwise part_same

abbrev pub slot_same : ℕ × Later → ℕ × Later → Bool
slot_same e f = (nat_eq e.0 f.0 && pointwise nat_eq e.1.processes f.1.processes) && pointwise parts_same e.1.updates f.1.updates

-- the limits of the queue, and where the run stands
abbrev pub stand_same : Queue → Queue → Bool
stand_same q r =
    (((grain_same q.grain r.grain && nat_eq q.until r.until) && nat_eq q.time r.time) && option_eq nat_eq q.last r.last)
    && beq q.beyond r.beyond

-- what its regions hold
abbrev pub regions_same : Queue → Queue → Bool
regions_same q r =
    ((((pointwise nat_eq q.active r.active && pointwise nat_eq q.inactive r.inactive) && pointwise parts_same q.activated r.activated)
    && pointwise parts_same q.posted r.posted)
    && pointwise nat_eq q.strobes r.strobes)
    && pointwise slot_same q.future r.future

abbrev pub queue_same : Queue → Queue → Bool
queue_same q r = stand_same q r && regions_same q r

abbrev pub held_back_same : Option (List ℕ) → Option (List ℕ) → Bool
held_back_same = option_eq (pointwise nat_eq)

abbrev pub printed_same : Option (List (List ℕ)) → Option (List (List ℕ)) → Bool
printed_same = option_eq lines_same

abbrev pub state_same : State → State → Bool
state_same s t =
    ((((values_same s.values t.values && queue_same s.queue t.queue) && held_back_same s.held_back t.held_back) && printed_same s.printed t.printed)
    && pointwise process_same s.processes t.processes)
    && option_eq cause_same s.cause t.cause
