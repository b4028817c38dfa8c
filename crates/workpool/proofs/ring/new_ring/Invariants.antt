use Rattle.std.proofs.Common.{◌≡◌, ◌+◌, [], vec_len}
use Rattle.workpool.specs.Rings.{Links, AreIdle}
use Rattle.workpool.proofs.ring.new_ring.Given as goal

abbrev pub invariant-loop : goal.invariant-loop
invariant-loop l = Links l.seats.items l.initial.last.deque l.last.deque × (vec_len l.seats + 1 ≡ l.counter) × AreIdle l.seats.items × (l.last.put ≡ []) × (l.last.taken ≡ [])
