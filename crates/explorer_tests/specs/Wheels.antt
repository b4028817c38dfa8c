-- *internal*: Places in a ring, as a toy space that loops: the tests explore it.
use Rattle.std.specs.Prelude.{ℕ, ◌+◌, ◌==◌, ◌&&◌, nat_lt, not, Bool, zero, suc, if◌then◌else◌}
use Rattle.sched_core.specs.Rules.{Rules}

-- a place has one choice, place 0 two where there is a door; what is no place has none
abbrev pub wheel_width : ℕ → Bool → ℕ → ℕ
wheel_width places door s = if nat_lt s places then (if door && (s == 0) then 2 else 1) else 0

-- choice 0 steps on, from the last place back to the place named; another leaves the wheel
abbrev pub wheel_after : ℕ → ℕ → ℕ → ℕ → ℕ
wheel_after places back s zero = if s + 1 == places then back else s + 1
wheel_after places back s (suc i) = places

abbrev pub wheel_rules : ℕ → ℕ → Bool → Rules ℕ
wheel_rules places back door = record {
  same = λ s t. s == t;
  first = 0;
  width = wheel_width places door;
  mark = λ s. not (nat_lt s places);
  after = wheel_after places back;
}
