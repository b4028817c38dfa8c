use Rattle.std.proofs.Common.{◌≡◌, ◌≤◌, ◌∙◌, sym, subst, arith}
use Rattle.std.proofs.lemmas.Option.{same_Some}
use Rattle.statebook.specs.declared.entry.Entry.{Entry}
use Rattle.statebook.specs.Inner.Forced.{Follows, GoesOn, MayBeAdded}
use Rattle.statebook.specs.Inner.Frontiers.{HasSuccessorIn}
use Rattle.statebook.proofs.FrontierLemmas.{follower_rises}
use Rattle.statebook.proofs.NextLemmas.{exceeds}
use Rattle.explore.specs.Inner.RankedSearches.{IsHeld, RankGrows}
use Rattle.explore.proofs.VisitLemmas.{budget_after-le}
use Rattle.explore.proofs.RankedLemmas.{is_successor, knows_instead, rank_grows_wider}
use Rattle.explore.proofs.ranked_visit.keep_choice.Goals as goal

pub keep-requires-clause-searching : goal.keep-requires-clause-searching
keep-requires-clause-searching g c κs within =
    knows_instead (g.P.Space.rules c.args.space.now) c.args.limits.now (g.P.Ranked.ranks c.args.space.now) c.args.search.now c.remember_way.new.known c.requires.searching c.remember_way.ensures

pub keep-requires-clause-rank : goal.keep-requires-clause-rank
keep-requires-clause-rank g c κs within =
    let r = g.P.Space.rules c.args.space.now in
    let e = c.read-entry.result.now in
    let here = c.requires.searching.held.current e (c.args.place, c.read-entry.ensures) in
    let goes : GoesOn e c.args.choice c.in-Some.next = rw c.in-Some.is at c.in_ok-next.ensures.goes_on in
    let follows : MayBeAdded r c.args.limits.now c.in-Some.next = rw c.in-Some.is at c.in_ok-next.ensures.allowed in
    omega (arith, here.1, follower_rises r (g.P.Ranked.ranks c.args.space.now) (g.met.P.Ranked.ranked c.args.space.now) c.args.limits.now.depart c.args.limits.now.steps e c.in-Some.next c.args.choice here.0 follows goes.log goes.later)

pub returns-in_ok-keep-in-Some-clause-met : goal.returns-in_ok-keep-in-Some-clause-met
returns-in_ok-keep-in-Some-clause-met g c = λ e at.
    let r = g.P.Space.rules c.args.space.now in
    let grows = c.in_ok-keep-in-Some.ensures.grows in
    let itself : c.read-entry.result.now ≡ e = same_Some _ _ (sym (grows.current.stays c.args.place c.read-entry.result.now c.read-entry.ensures) ∙ at) in
    let P : Entry g.row.P-State.Denot → Type 0 = λ x. HasSuccessorIn r (IsHeld c.keep.new.search) x c.args.choice in
    subst P itself (is_successor r (g.met.P.Space.lawful c.args.space.now) (IsHeld c.keep.new.search) c.read-entry.result.now c.in-Some.next c.args.choice (rw c.in-Some.is at c.in_ok-next.ensures.follows) c.in_ok-keep-in-Some.ensures.dominated)

pub returns-in-None-clause-why : goal.returns-in-None-clause-why
returns-in-None-clause-why g c =
    let e = c.read-entry.result.now in
    exceeds (g.P.Space.rules c.args.space.now) (g.met.P.Space.lawful c.args.space.now) c.args.limits.now e c.args.choice (c.requires.searching.held.current e (c.args.place, c.read-entry.ensures)).0 (c.requires.choice e c.read-entry.ensures)
    (rw c.in-None.is at c.in_ok-next.ensures.past)

pub returns-in_ok-keep-in-Some-clause-grows : goal.returns-in_ok-keep-in-Some-clause-grows
returns-in_ok-keep-in-Some-clause-grows g c = λ e at.
    let read = c.read-entry.result.now in
    let itself : read ≡ e = same_Some _ _ (sym c.read-entry.ensures ∙ at) in
    let follows : Follows (g.P.Space.rules c.args.space.now) read c.args.choice c.in-Some.next = rw c.in-Some.is at c.in_ok-next.ensures.follows in
    let le : c.in-Some.next.budget ≤ read.budget = omega (arith, follows.budget, budget_after-le read.budget c.args.choice) in
    let P : Entry g.row.P-State.Denot → Type 0 = λ x. RankGrows c.args.search.now c.keep.new.search x.budget in
    let grows = rank_grows_wider _ c.keep.new.search c.in-Some.next.budget read.budget le c.in_ok-keep-in-Some.ensures.grows in
    subst P itself (record { current = grows.current; held = grows.held; rank = grows.rank })
