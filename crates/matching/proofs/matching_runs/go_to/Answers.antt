use Rattle.std.proofs.Common.{◌∙◌, ℕ, subst, refl, rules}
use Rattle.matching.specs.Inner.Candidates.{Follows, KeepsFollowing, NearFrom, NearFromSome}
use Rattle.matching.specs.Inner.Searching.{AddsNear, Extends}
use Rattle.matching.proofs.Ends.{all_followed, one_followed}
use Rattle.matching.proofs.Kept.{in_first}
use Rattle.matching.proofs.NearLemmas.{are_more}
use Rattle.matching.proofs.matching_runs.go_to.Goals as goal

pub loop-state-init : goal.loop-state-init
loop-state-init g c = record { search = search rules; time = refl; near = record { ending = tt; waiting = tt }; follow = search rules }

pub follow-requires-clause-way : goal.follow-requires-clause-way
follow-requires-clause-way g c κs within =
    c.requires.ways (c.in-Some.state, c.in-Some.way)
    (c.loop-state.invariant.follow.those (c.in-Some.state, c.in-Some.way)
    (in_first c.loop-state.state-iterator c.next.new.self (c.in-Some.state, c.in-Some.way) c.in-Some.ensures.steps))

pub loop-state-preserved : goal.loop-state-preserved
loop-state-preserved g c =
    let r = g.P.Space.rules c.args.space.now in
    let rank = g.P.Ranked.ranks c.args.space.now in
    let differ = (g.R.Reference.piece c.args.reference.now).differ in
    let most = c.args.limits.now.depart in
    let E : ℕ → Type 0 = λ v. Extends r (Follows r rank differ most v (c.in-Some.state, c.in-Some.way)) c.loop-state.search
    c.follow.new.search in
    let A : ℕ → Type 0 = λ v. AddsNear (NearFrom r most v (c.in-Some.state, c.in-Some.way)) c.loop-state.search c.follow.new.search in
    let there = c.loop-state.invariant.follow.those (c.in-Some.state, c.in-Some.way)
    (in_first c.loop-state.state-iterator c.next.new.self (c.in-Some.state, c.in-Some.way) c.in-Some.ensures.steps) in
    let K : ℕ → Type 0 = λ v. KeepsFollowing r differ most v (c.in-Some.state, c.in-Some.way) c.follow.new.search.candidates.entries in
    record {
      search = c.in_ok-follow.ensures.search;
      time = c.in_ok-follow.ensures.extends.time ∙ c.loop-state.invariant.time;
      near = are_more (NearFrom r most c.args.time (c.in-Some.state, c.in-Some.way))
          (NearFromSome r most c.args.time c.args.before.candidates.entries)
          c.loop-state.search c.follow.new.search (λ e from. ((c.in-Some.state, c.in-Some.way), there, from)) c.loop-state.invariant.near
          (subst A c.loop-state.invariant.time c.in_ok-follow.ensures.near);
      follow = one_followed r rank differ most c.args.time c.args.before.candidates.entries c.loop-state.state-iterator c.next.new.self
          c.in-Some.state c.in-Some.way c.loop-state.search c.follow.new.search
          c.loop-state.invariant.follow c.in-Some.ensures.steps (subst E c.loop-state.invariant.time c.in_ok-follow.ensures.extends)
          (subst K c.loop-state.invariant.time c.in_ok-follow.ensures.follows);
    }

pub returns-clause-follow : goal.returns-clause-follow
returns-clause-follow g c =
    all_followed (g.P.Space.rules c.args.space.now) (g.P.Ranked.ranks c.args.space.now) (g.R.Reference.piece c.args.reference.now).differ
    c.args.limits.now.depart c.args.time c.args.before.candidates.entries c.loop-state.state-iterator
    c.loop-state.search.candidates.entries
    c.loop-state.invariant.follow c.in-None.ensures.steps.0
