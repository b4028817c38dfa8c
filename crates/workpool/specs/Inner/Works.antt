-- *internal*: What a worker holds and has counted.
use Rattle.std.specs.Prelude.{◌≡◌, ℕ, ◌+◌, ◌%◌, ◌^◌, ◌≤◌, Bool, true, length, None}
use Rattle.atomic_table.specs.Seated.{TableId}
use Rattle.sched_core.specs.Rules.{Rules}
use Rattle.statebook.specs.declared.limits.Limits.{Limits}
use Rattle.statebook.specs.Ways.{SomeRunExceeds}
use Rattle.workpool.specs.declared.work.Work.{Work}

-- Its pass has counted as many New answers as its seat has opens; it gave no more jobs than that, and just as many unless memory
-- was refused; its counts of jobs given and taken are those of its ends of the deques, modulo 2^64; and each job that it took is
-- shut, but so many that it is running.
pub record IsCounted {B : Type 0} (running : ℕ) (w : Work B) : Type 0 where
  pub opens : w.pass.count ≡ w.tally.opens
  pub fewer : length w.seat.owner.put ≤ w.tally.opens
  pub all : w.refused ≡ None → length w.seat.owner.put ≡ w.tally.opens
  pub given : w.given ≡ length w.seat.owner.put % 2 ^ 64
  pub taken : w.taken ≡ (length w.seat.owner.taken + length w.seat.thief.taken) % 2 ^ 64
  pub shut : length w.seat.owner.taken + length w.seat.thief.taken ≡ w.tally.shuts + running

-- However many jobs it is running, it stays counted.
abbrev pub StaysCounted : {B : Type 0} → Work B → Work B → Type 0
StaysCounted old new = (running : ℕ) → IsCounted running old → IsCounted running new

-- It is at its place: the same deques, the same tally, as many parts of the tally and of the book.
pub record IsSamePlace {B : Type 0} (old new : Work B) : Type 0 where
  pub owner : new.seat.owner.deque ≡ old.seat.owner.deque
  pub thief : new.seat.thief.deque ≡ old.seat.thief.deque
  pub tally : new.tally.tally ≡ old.tally.tally
  pub seats : new.tally.parts ≡ old.tally.parts
  pub parts : new.pass.parts ≡ old.pass.parts

-- Its seat is at this tally, with one part.
pub record IsSeated {B : Type 0} (tally : TableId) (w : Work B) : Type 0 where
  pub here : w.tally.tally ≡ tally
  pub part : w.tally.parts ≡ 1

-- Where it is said that a way went past the limit, some run exceeds it.
abbrev pub TellsPast : {S : Type 0} → Rules S → Limits → Bool → Type 0
TellsPast r limits past = past ≡ true → SomeRunExceeds r limits
