use Rattle.std.proofs.Common.{List, arith, refl, sym, subst}
use Rattle.workpool.specs.Rings.{Links, AreIdle}
use Rattle.workpool.specs.declared.ring.Seat.{Seat}
use Rattle.workpool.proofs.RingLemmas.{links_snoc, idle_snoc}
use Rattle.workpool.proofs.ring.new_ring.Goals as goal

pub loop-preserved : goal.loop-preserved
loop-preserved c =
    let P : List Seat → Type 0 = λ l. Links l c.in_ok-owner.owner.deque c.in_ok-next.next.deque in
    let Q : List Seat → Type 0 = λ l. AreIdle l in
    let i = c.loop.invariant in
    let n = c.in_ok-next.ensures.nothing in (
      subst P (sym c.in_ok-push.ensures.items) (links_snoc c.loop.seats.items _ _ _ _ i.0 refl (sym c.in_ok-next.ensures.one)),
      omega (arith, i.1, c.in_ok-push.ensures.len),
      subst Q (sym c.in_ok-push.ensures.items) (idle_snoc c.loop.seats.items _ i.2 (i.3, i.4, n.2)),
      n.0,
      n.1,
    )

pub returns-clause-linked : goal.returns-clause-linked
returns-clause-linked c =
    let P : List Seat → Type 0 = λ l. Links l c.in_ok-owner.owner.deque c.in_ok-owner.owner.deque in (
      c.in_ok-owner.owner.deque,
      subst P (sym c.in_ok-push-2.ensures.items) (links_snoc c.loop.seats.items _ _ _ _ c.loop.invariant.0 refl (sym c.in_ok-owner.ensures.one)),
    )

pub returns-clause-idle : goal.returns-clause-idle
returns-clause-idle c =
    let P : List Seat → Type 0 = λ l. AreIdle l in
    let i = c.loop.invariant in
    subst P (sym c.in_ok-push-2.ensures.items) (idle_snoc c.loop.seats.items _ i.2 (i.3, i.4, c.in_ok-owner.ensures.nothing.2))
