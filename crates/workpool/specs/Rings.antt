-- *internal*: Threads in a ring, each of which steals from the next; and their deques, once the thieves have given their ends back.
use Rattle.std.specs.Prelude.{◌≡◌, ℕ, ◌+◌, ◌%◌, ◌^◌, List, [], ◌∷◌, ◌++◌, length, slice_get, Some}
use Rattle.workpool.specs.Inner.Sums.{total, times}
use Rattle.workpool.specs.Jobs.{DequeId, Owned}
use Rattle.workpool.specs.declared.ring.Seat.{Seat}

-- Each thread of the list owns the deque that the one before it steals from; the first owns d, and the last steals from e.
abbrev pub Links : List Seat → DequeId → DequeId → Type 0
Links [] d e = d ≡ e
Links (s ∷ seats) d e = (s.owner.deque ≡ d) × Links seats s.thief.deque e

-- The last one steals from the first.
abbrev pub IsRing : List Seat → Type 0
IsRing seats = (d : DequeId) × Links seats d d

-- how often a job was put by all, and taken by all from their own deques or from others
abbrev pub all_put : ℕ → List Seat → ℕ
all_put x seats = total (λ (s : Seat). times x s.owner.put) seats

abbrev pub all_taken : ℕ → List Seat → ℕ
all_taken x seats = total (λ (s : Seat). times x (s.owner.taken ++ s.thief.taken)) seats

-- how often a job was put into the deques, and taken out of them by their owners
abbrev pub times_put : ℕ → List Owned → ℕ
times_put x deques = total (λ (o : Owned). times x o.put) deques

abbrev pub times_taken : ℕ → List Owned → ℕ
times_taken x deques = total (λ (o : Owned). times x o.taken) deques

-- how many jobs were put into the deques, and taken out of them by their owners
abbrev pub jobs_put : List Owned → ℕ
jobs_put deques = total (λ (o : Owned). length o.put) deques

abbrev pub jobs_taken : List Owned → ℕ
jobs_taken deques = total (λ (o : Owned). length o.taken) deques

-- nothing was put or taken by anyone
abbrev pub AreIdle : List Seat → Type 0
AreIdle seats = (i : ℕ) (s : Seat) → slice_get seats i ≡ Some s → (s.owner.put ≡ []) × (s.owner.taken ≡ []) × (s.thief.taken ≡ [])

-- The owners have all ends of their deques: each job was put and taken as often as by all the threads.
pub record AreBack (seats : List Seat) (deques : List Owned) : Type 0 where
  pub put : (x : ℕ) → times_put x deques ≡ all_put x seats
  pub taken : (x : ℕ) → times_taken x deques ≡ all_taken x seats

-- So many jobs are left, modulo 2^64: each was put as often as it was taken or is left.
pub record AreSettled (deques : List Owned) (count : ℕ) : Type 0 where
  pub left : List ℕ
  pub counted : count ≡ length left % 2 ^ 64
  pub fair : (x : ℕ) → times_put x deques ≡ times_taken x deques + times x left
