-- *internal*: The code of a design: by place what leads on from it and the code of its action's operand, by process where it begins, by
-- variable and by event who listens.
use Rattle.std.specs.Prelude.{ℕ, zero, suc, ◌==◌, Bool, false, if◌then◌else◌, List, [], Option, None, Some, length, slice_get, slice_set, unwrap_or, option_and_then}
use Rattle.vbits.specs.Vectors.{Vector}
use Rattle.expression_code.specs.Guards.{GuardedCode, guarded_value}
use Rattle.vcode.specs.declared.point.Point.{Point}
use Rattle.vcode.specs.declared.point.Point.TheVariants.{Ended, Executing, Repeating, Writing, Waiting}
use Rattle.vcode.specs.declared.link.Link.{Link}
use Rattle.vcode.specs.declared.listener.Listener.{Listener}
use Rattle.vcode.specs.Points.{place_of_point}

pub record Code : Type 0 where
  pub links : List Link  -- by place
  pub counters : List (Option ℕ)  -- by place the number of the counter of the `repeat` there, if one stands there
  pub operands : List (Option GuardedCode)  -- by place the code of the operand of the action there, if it has one
  pub begins : List Point  -- by process
  pub by_variable : List (List Listener)
  pub by_event : List (List Listener)
  pub whole : Bool  -- whether every place leads to what stands behind it in the design, and everybody who may wait is listed

-- what leads on from a place to which no process comes
abbrev pub no_link : Link
no_link = record { next = Ended; owner = 0 }

abbrev pub link_at : List Link → ℕ → Link
link_at links place = unwrap_or (slice_get links place) no_link

abbrev pub listeners_at : List (List Listener) → ℕ → List Listener
listeners_at lists number = unwrap_or (slice_get lists number) []

abbrev pub begin_of : Code → ℕ → Point
begin_of code process = unwrap_or (slice_get code.begins process) Ended

-- ---- 9.6: turns; counters go by their numbers

abbrev pub counter_at : Code → ℕ → Option ℕ
counter_at code place = unwrap_or (slice_get code.counters place) None

-- how many turns are left by a counter, where there is one
abbrev pub turns_by : List ℕ → Option ℕ → ℕ
turns_by turns None = 0
turns_by turns (Some counter) = unwrap_or (slice_get turns counter) 0

abbrev pub turns_at : Code → List ℕ → ℕ → ℕ
turns_at code turns place = turns_by turns (counter_at code place)

abbrev pub with_counter : Option ℕ → ℕ → List ℕ → List ℕ
with_counter None n turns = turns
with_counter (Some counter) n turns = slice_set turns counter n

-- the counters once so many turns are left at a place
abbrev pub with_turns : Code → ℕ → ℕ → List ℕ → List ℕ
with_turns code place n turns = with_counter (counter_at code place) n turns

-- whether it is at a `repeat` of which no turn is left
abbrev pub is_spent : Code → List ℕ → Point → Bool
is_spent code turns Ended = false
is_spent code turns (Executing place) = false
is_spent code turns (Repeating place) = turns_at code turns place == 0
is_spent code turns (Writing place) = false
is_spent code turns (Waiting place) = false

abbrev pub past_place : Code → Option ℕ → Point
past_place code None = Ended
past_place code (Some place) = (link_at code.links place).next

-- the point behind a point
abbrev pub past : Code → Point → Point
past code point = past_place code (place_of_point point)

-- past so many of these at most
abbrev pub pass_spent : Code → List ℕ → ℕ → Point → Point
pass_spent code turns zero point = point
pass_spent code turns (suc most) point = if is_spent code turns point then pass_spent code turns most (past code point) else point

-- where a process comes that comes to a point; no more are passed than there are places
abbrev pub settle : Code → List ℕ → Point → Point
settle code turns point = pass_spent code turns (length code.links) point

-- where it comes that is done with a place
abbrev pub behind : Code → List ℕ → ℕ → Point
behind code turns place = settle code turns (link_at code.links place).next

-- ---- operands

abbrev pub operand_code_at : Code → ℕ → Option GuardedCode
operand_code_at code place = unwrap_or (slice_get code.operands place) None

-- the value of the operand at a place, by the values of the variables and the time as `$time` tells it, where its guards hold
abbrev pub operand_value : Code → ℕ → List Vector → ℕ → Option Vector
operand_value code place values moment = option_and_then (guarded_value values moment) (operand_code_at code place)
