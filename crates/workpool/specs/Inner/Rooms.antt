-- *internal*: What there is before the workers of a search begin.
use Rattle.std.specs.Prelude.{◌≡◌, ℕ, ◌≤◌, [], length, vec_capacity}
use Rattle.workpool.specs.Rings.{AreIdle, IsRing}
use Rattle.workpool.specs.declared.room.Room.{Room}
use Rattle.workpool.specs.declared.tally.TheConstants.{SEATS}

-- There is room for so many workers: a ring of as many deques without jobs, no worker yet, room for as many deques that settle, and
-- all parts of a tally of nothing.
pub record IsRoomFor {B : Type 0} (count : ℕ) (room : Room B) : Type 0 where
  pub ring : IsRing room.ring.items
  pub idle : AreIdle room.ring.items
  pub seats : length room.ring.items ≡ count
  pub back : count ≤ vec_capacity room.ring
  pub none : room.works.items ≡ []
  pub enough : count ≤ vec_capacity room.works
  pub unsettled : room.deques.items ≡ []
  pub ends : count ≤ vec_capacity room.deques
  pub here : room.all.tally ≡ room.tally
  pub parts : room.all.parts ≡ SEATS
  pub opens : room.all.opens ≡ 0
  pub shuts : room.all.shuts ≡ 0
