-- *internal*: How workers are seated, and joined again.
use Rattle.std.specs.Prelude.{◌≡◌, ℕ, ◌+◌, ◌%◌, ◌^◌, ◌≤◌, ◌<◌, ◌||◌, List, [], ◌∷◌, length, slice_index_or, None}
use Rattle.atomic_table.specs.Seated.{TableId}
use Rattle.sched_core.specs.Rules.{Rules}
use Rattle.statebook.specs.declared.limits.Limits.{Limits}
use Rattle.workpool.specs.Tallies.{both}
use Rattle.workpool.specs.Inner.Sums.{total}
use Rattle.workpool.specs.Inner.Works.{IsCounted, IsSamePlace, IsSeated, TellsPast}
use Rattle.workpool.specs.declared.ring.Seat.{Seat}
use Rattle.workpool.specs.declared.sum.Sum.{Sum}
use Rattle.workpool.specs.declared.work.Work.{Work}

-- A worker that may work, or has worked.
pub record IsReady {S B : Type 0} (r : Rules S) (limits : Limits) (tally : TableId) (w : Work B) : Type 0 where
  pub seated : IsSeated tally w
  pub counted : IsCounted 0 w
  pub told : TellsPast r limits w.past

-- the first so many of the list are
abbrev pub AreReady : {S B : Type 0} → Rules S → Limits → TableId → ℕ → List (Work B) → Type 0
AreReady {S} {B} r limits tally count works = (i : ℕ) (d : Work B) → i < count → IsReady r limits tally (slice_index_or works i d)

-- each is at its place
abbrev pub AreSamePlaces : {B : Type 0} → List (Work B) → List (Work B) → Type 0
AreSamePlaces {B} olds news = (i : ℕ) (d : Work B) → i < length olds → IsSamePlace (slice_index_or olds i d) (slice_index_or news i d)

-- the workers' ends of the deques, those of the last worker first, and then these
abbrev pub seats_onto : {B : Type 0} → List (Work B) → List Seat → List Seat
seats_onto [] seats = seats
seats_onto (w ∷ works) seats = seats_onto works (w.seat ∷ seats)

-- how many parts of the book's pass the workers have together
abbrev pub all_parts : {B : Type 0} → List (Work B) → ℕ
all_parts {B} works = total (λ (w : Work B). w.pass.parts) works

-- how many entries they have opened together
abbrev pub all_opens : {B : Type 0} → List (Work B) → ℕ
all_opens {B} works = total (λ (w : Work B). w.tally.opens) works

-- how many jobs were put, and taken by whomever
abbrev pub seats_put : List Seat → ℕ
seats_put seats = total (λ (s : Seat). length s.owner.put) seats

abbrev pub seats_taken : List Seat → ℕ
seats_taken seats = total (λ (s : Seat). length s.owner.taken + length s.thief.taken) seats

-- The new sum has what the old one and the worker have together.
pub record IsSumOf {B : Type 0} (old : Sum B) (w : Work B) (new : Sum B) : Type 0 where
  pub seat : new.tally ≡ both old.tally w.tally
  pub parts : new.pass.parts ≡ old.pass.parts + w.pass.parts
  pub count : new.pass.count ≡ old.pass.count + w.pass.count
  pub given : new.given ≡ (old.given + w.given) % 2 ^ 64
  pub taken : new.taken ≡ (old.taken + w.taken) % 2 ^ 64
  pub refused : new.refused ≡ None → (old.refused ≡ None) × (w.refused ≡ None)
  pub past : new.past ≡ (old.past || w.past)

-- The sum is of workers at this tally who had these ends: what they counted is what their ends say, modulo 2^64, their opens are what
-- their passes counted beyond the start, and no more jobs were put, just as many unless memory was refused.
pub record IsSummed {S B : Type 0} (r : Rules S) (limits : Limits) (tally : TableId) (start : ℕ) (seats : List Seat) (sum : Sum B) : Type 0 where
  pub here : sum.tally.tally ≡ tally
  pub opens : sum.pass.count ≡ start + sum.tally.opens
  pub fewer : seats_put seats ≤ sum.tally.opens
  pub all : sum.refused ≡ None → seats_put seats ≡ sum.tally.opens
  pub given : sum.given ≡ seats_put seats % 2 ^ 64
  pub taken : sum.taken ≡ seats_taken seats % 2 ^ 64
  pub shut : sum.tally.shuts ≡ seats_taken seats
  pub told : TellsPast r limits sum.past
