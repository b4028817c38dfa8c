-- *internal*: The current time and the future times (IEEE 1364-2005, 11.3: a future event is evaluated at some future simulation time).
use Rattle.std.specs.Prelude.{ℕ, Bool, nat_eq, ◌&&◌, List, [], ◌∷◌, Option, Some, None}
use Rattle.std.specs.Cmp.Lexicographic.{pointwise}
use Rattle.vmodel.specs.Queue.{Later, later_at}
use Rattle.vmodel.specs.Same.{slot_same}

pub record Times : Type 0 where
  pub time : ℕ  -- the current time
  pub future : List (ℕ × Later)  -- the future times, in order, each with what it holds

-- time 0, with nothing in the future
abbrev pub no_times : Times
no_times = record { time = 0; future = [] }

-- more is put to what a time holds, which becomes a future time also where nothing is there
abbrev pub with_later_at : ℕ → (Later → Later) → Times → Times
with_later_at t put times = record times { future = later_at t put times.future }

-- the first future time, if there is one
abbrev pub first_time : List (ℕ × Later) → Option ℕ
first_time [] = None
first_time (e ∷ es) = Some e.0

-- the time goes on to the first future time, if there is one
abbrev pub with_first_taken : List (ℕ × Later) → Times → Times
with_first_taken [] times = times
with_first_taken (e ∷ es) times = record { time = e.0; future = es }

-- the same current time, and the same future times that hold the same
abbrev pub times_same : Times → Times → Bool
times_same s t = nat_eq s.time t.time && pointwise slot_same s.future t.future
