-- *internal*: Which jobs were put into a deque and taken out of it.
use Rattle.std.specs.Prelude.{◌≡◌, ℕ, ◌+◌, List, length}
use Rattle.std.specs.declared.alloc.Global.{Global}
use Rattle.workpool.specs.Inner.Sums.{times}

-- Which deque it is.
abbrev pub DequeId : Type 0
DequeId = (ℕ × ℕ) × Global

-- The owner's end of a deque: what the owner has put and taken, in order; and behind that what the thief has taken, once that end
-- was given back.
pub record Owned : Type 0 where
  pub deque : DequeId
  pub put : List ℕ
  pub taken : List ℕ

-- A thief's end of a deque: what the thief has taken, in order.
pub record Robbed : Type 0 where
  pub deque : DequeId
  pub taken : List ℕ

-- So many jobs are left: each was put as often as the owner took it, the thief took it or it is left.
pub record IsSettled (owned : Owned) (robbed : Robbed) (count : ℕ) : Type 0 where
  pub left : List ℕ
  pub counted : length left ≡ count
  pub fair : (x : ℕ) → times x owned.put ≡ times x owned.taken + times x robbed.taken + times x left
