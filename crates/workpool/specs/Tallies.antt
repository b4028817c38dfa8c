-- *internal*: What a seat at a tally has counted.
use Rattle.std.specs.Prelude.{ℕ, ◌+◌, Bool, ◌||◌}
use Rattle.atomic_table.specs.Seated.{TableId}

-- Of which tally the seat is, how many of its parts the seat has, the steps that it has made, and whether it knows that the work is to stop.
pub record Seated : Type 0 where
  pub tally : TableId
  pub parts : ℕ
  pub opens : ℕ
  pub shuts : ℕ
  pub stopped : Bool

-- two seats in one
abbrev pub both : Seated → Seated → Seated
both v w = record { tally = v.tally; parts = v.parts + w.parts; opens = v.opens + w.opens; shuts = v.shuts + w.shuts; stopped = v.stopped || w.stopped }
