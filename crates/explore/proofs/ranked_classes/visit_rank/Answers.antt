use Rattle.std.proofs.Common.{◌≡◌, ◌+◌, ◌-◌, ◌∙◌, ℕ, arith, refl}
use Rattle.explore.specs.Inner.RankedSearches.{IsLedOn}
use Rattle.explore.proofs.ClassLemmas.{from_next, none_over}
use Rattle.explore.proofs.RankedLemmas.{led_later, rank_entries}
use Rattle.explore.proofs.ranked_classes.visit_rank.Goals as goal

pub loop-departures-init : goal.loop-departures-init
loop-departures-init g c =
    let r = g.P.Space.rules c.args.space.now in
    let limits = c.args.limits.now in
    let s = c.args.search.now in
    record {
      searching = c.requires;
      rank = refl;
      led = none_over (IsLedOn r s) r limits s.current.book (limits.depart + 1 - 0) (rank_entries r limits (g.P.Ranked.ranks c.args.space.now) s.current c.requires.held.current) (omega arith);
    }

pub loop-departures-preserved : goal.loop-departures-preserved
loop-departures-preserved g c =
    let r = g.P.Space.rules c.args.space.now in
    let limits = c.args.limits.now in
    let old = c.loop-departures.search in
    let new = c.visit_budget.new.search in
    let i = c.loop-departures.invariant in
    let budget : ℕ = limits.depart - c.loop-departures.departures in
    let before : ℕ = limits.depart + 1 - c.loop-departures.departures in
    let after : ℕ = limits.depart + 1 - (c.loop-departures.departures + 1) in
    let next : before ≡ budget + 1 = omega (arith, c.loop-departures-test.true) in
    let here : after ≡ budget = omega arith in
    let grows = c.in_ok-visit_budget.ensures.grows in
    record {
      searching = c.in_ok-visit_budget.ensures.searching;
      rank = grows.rank ∙ i.rank;
      led = from_next (IsLedOn r old) (IsLedOn r new) old.current.book new.current.book before budget after next here (led_later r old new budget grows) grows.current i.led c.in_ok-visit_budget.ensures.leads;
    }

pub returns-clause-all : goal.returns-clause-all
returns-clause-all g c = λ i e at. c.loop-departures.invariant.led i e at (omega (arith, c.loop-departures-test.false, c.loop-departures.auto.departures-end))
