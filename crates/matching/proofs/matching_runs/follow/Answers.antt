use Rattle.std.proofs.Common.{ℕ, inr, sym, subst}
use Rattle.explore.proofs.ListingLemmas.{on_ok}
use Rattle.matching.specs.Slots.{IsRunTo}
use Rattle.matching.specs.Inner.Candidates.{EndsNear, NearFrom, begins}
use Rattle.matching.proofs.Cuts.{too_long}
use Rattle.matching.proofs.Ends.{extends_into, follows_into, stands_next}
use Rattle.matching.proofs.NearLemmas.{goes_near, near_so}
use Rattle.matching.proofs.matching_runs.follow.Goals as goal

pub search_slot-requires-clause-start : goal.search_slot-requires-clause-start
search_slot-requires-clause-start g c κs within =
    let r = g.P.Space.rules c.args.space.now in
    let P : ℕ → Type 0 = λ n. IsRunTo r c.in-Some.next.state c.args.way.log n in
    subst P (sym c.in-Some-checked_add.ensures.1)
    (stands_next r (g.met.P.Space.lawful c.args.space.now) (g.P.Ranked.ranks c.args.space.now) c.args.state c.args.way c.in-Some.next
    c.requires.way c.in-Some.is)

pub returns-in-Some-checked_add-clause-extends : goal.returns-in-Some-checked_add-clause-extends
returns-in-Some-checked_add-clause-extends g c =
    on_ok c.search_slot.result (λ extends. extends_into (g.P.Space.rules c.args.space.now) (g.P.Ranked.ranks c.args.space.now)
    (g.R.Reference.piece c.args.reference.now).differ c.args.limits.now.depart c.args.search.now.time c.args.state c.args.way
    c.in-Some.next c.in-Some-checked_add.steps
    c.args.search.now c.search_slot.new.search c.in-Some.is c.if-next-search.true c.in-Some-checked_add.ensures.1 extends)
    c.search_slot.ensures.extends

pub returns-in-Some-checked_add-clause-follows : goal.returns-in-Some-checked_add-clause-follows
returns-in-Some-checked_add-clause-follows g c =
    on_ok c.search_slot.result (λ ends. follows_into (g.P.Space.rules c.args.space.now) (g.R.Reference.piece c.args.reference.now).differ
    c.args.limits.now.depart c.args.search.now.time c.args.state c.args.way c.in-Some.next c.in-Some-checked_add.steps
    c.search_slot.new.search.candidates.entries c.in-Some.is c.if-next-search.true c.in-Some-checked_add.ensures.1 ends)
    c.search_slot.ensures.ends

pub returns-in-Some-clause-reason : goal.returns-in-Some-clause-reason
returns-in-Some-clause-reason g c = inr
    (too_long (g.P.Space.rules c.args.space.now) c.args.way.log c.args.way.steps c.requires.way.stands.run c.in-None.ensures)

pub returns-in-Some-checked_add-clause-near : goal.returns-in-Some-checked_add-clause-near
returns-in-Some-checked_add-clause-near g c =
    let r = g.P.Space.rules c.args.space.now in
    let most = c.args.limits.now.depart in
    let v = c.args.search.now.time in
    on_ok c.search_slot.result (λ near. near_so (EndsNear r most (begins c.in-Some.next.state c.args.way c.in-Some-checked_add.steps))
    (NearFrom r most v (c.args.state, c.args.way)) c.args.search.now c.search_slot.new.search
    (λ e ends. goes_near r most v c.args.state c.args.way c.in-Some.next c.in-Some-checked_add.steps e c.in-Some.is c.if-next-search.true
    c.in-Some-checked_add.ensures.1 ends) near) c.search_slot.ensures.near
