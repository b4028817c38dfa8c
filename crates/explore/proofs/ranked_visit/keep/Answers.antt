use Rattle.std.proofs.Common.{true, false, arith, refl}
use Rattle.explore.proofs.RankedLemmas.{meets_dominated, meets_rank_grows, meets_searching}
use Rattle.explore.proofs.ranked_visit.keep.Goals as goal

pub returns-then-branch-clause-dominated : goal.returns-then-branch-clause-dominated
returns-then-branch-clause-dominated g c =
    meets_dominated (g.P.Space.rules c.args.space.now) g.P.State.PartialEq.eq (g.met.P.Space.same_is_eq c.args.space.now) (g.P.Ranked.ranks c.args.space.now c.args.entry.state) c.args.search.now.current c.args.search.now.later.items c.args.entry c.meet.new.current c.meet.new.later.items c.in_ok-meet.field-0
    c.in_ok-meet.ensures.ok

pub returns-then-branch-clause-searching : goal.returns-then-branch-clause-searching
returns-then-branch-clause-searching g c =
    meets_searching (g.P.Space.rules c.args.space.now) c.args.limits.now (g.P.Ranked.ranks c.args.space.now) (g.met.P.Ranked.ranked c.args.space.now) g.P.State.PartialEq.eq (g.met.P.Space.same_is_eq c.args.space.now) c.args.search.now _ c.args.entry true
    c.requires.searching c.requires.entry c.requires.rank (rw c.if-branch.true at c.in_ok-meet.ensures.ok) refl (omega (arith, c.saturating_add-search.ensures))

pub returns-then-branch-clause-grows : goal.returns-then-branch-clause-grows
returns-then-branch-clause-grows g c =
    meets_rank_grows g.P.State.PartialEq.eq (g.P.Ranked.ranks c.args.space.now c.args.entry.state) c.args.search.now _ c.args.entry c.in_ok-meet.field-0 c.in_ok-meet.ensures.ok

pub returns-else-branch-clause-dominated : goal.returns-else-branch-clause-dominated
returns-else-branch-clause-dominated g c =
    meets_dominated (g.P.Space.rules c.args.space.now) g.P.State.PartialEq.eq (g.met.P.Space.same_is_eq c.args.space.now) (g.P.Ranked.ranks c.args.space.now c.args.entry.state) c.args.search.now.current c.args.search.now.later.items c.args.entry c.meet.new.current c.meet.new.later.items c.in_ok-meet.field-0
    c.in_ok-meet.ensures.ok

pub returns-else-branch-clause-searching : goal.returns-else-branch-clause-searching
returns-else-branch-clause-searching g c =
    meets_searching (g.P.Space.rules c.args.space.now) c.args.limits.now (g.P.Ranked.ranks c.args.space.now) (g.met.P.Ranked.ranked c.args.space.now) g.P.State.PartialEq.eq (g.met.P.Space.same_is_eq c.args.space.now) c.args.search.now _ c.args.entry false
    c.requires.searching c.requires.entry c.requires.rank (rw c.if-branch.false at c.in_ok-meet.ensures.ok) refl (omega arith)

pub returns-else-branch-clause-grows : goal.returns-else-branch-clause-grows
returns-else-branch-clause-grows g c =
    meets_rank_grows g.P.State.PartialEq.eq (g.P.Ranked.ranks c.args.space.now c.args.entry.state) c.args.search.now _ c.args.entry c.in_ok-meet.field-0 c.in_ok-meet.ensures.ok
