use Rattle.std.proofs.Common.{◌≡◌, ◌+◌, ◌-◌, ◌∙◌, ℕ, sym, arith}
use Rattle.statebook.specs.Books.{IsFinished}
use Rattle.explore.specs.Inner.Exploring.{WasVisited}
use Rattle.explore.proofs.ClassLemmas.{from_next, none_over, past_later, visited_later}
use Rattle.explore.proofs.VisitLemmas.{true_not_false}
use Rattle.explore.proofs.classes.visit_all.Goals as goal
use Rattle.explore.proofs.classes.visit_all.Goals.{then-not-branch, else-not-branch}

pub loop-departures-init : goal.loop-departures-init
loop-departures-init g c =
    let b = c.args.search.now.book in
    let r = g.P.Space.rules c.args.space.now in
    let limits = c.args.limits.now in
    record {
      searching = c.requires.searching;
      few = c.requires.few;
      bounded = c.requires.bounded;
      finished = λ t. none_over (IsFinished b) r limits b (limits.depart + 1 - 0) c.requires.searching.under_way.sound.entry (omega arith);
      visited = none_over (WasVisited r limits b.entries) r limits b (limits.depart + 1 - 0) c.requires.searching.under_way.sound.entry (omega arith);
      past = λ t. absurd (true_not_false t);
    }

pub loop-departures-preserved : goal.loop-departures-preserved
loop-departures-preserved g c =
    let r = g.P.Space.rules c.args.space.now in
    let limits = c.args.limits.now in
    let old = c.loop-departures.search.book in
    let new = c.visit_class.new.search.book in
    let i = c.loop-departures.invariant in
    let budget : ℕ = limits.depart - c.loop-departures.departures in
    let before : ℕ = limits.depart + 1 - c.loop-departures.departures in
    let after : ℕ = limits.depart + 1 - (c.loop-departures.departures + 1) in
    let next : before ≡ budget + 1 = omega (arith, c.loop-departures-test.true) in
    let here : after ≡ budget = omega arith in
    let grows = c.visit_class.ensures.grows in
    record {
      searching = c.visit_class.ensures.searching;
      few = c.visit_class.ensures.few;
      bounded = c.visit_class.ensures.bounded;
      finished = λ t. elim c.if-not-branch.branch [
        | then-not-branch w ↦ absurd (true_not_false (sym t ∙ w.within-is))
        | else-not-branch w ↦ from_next (IsFinished old) (IsFinished new) old new before budget after next here (λ k done. (done.0, grows.done k done.0 done.1)) grows (i.finished (sym w.within-is ∙ t)) (c.in_ok-visit_class.ensures.finished w.if-not-branch.false)
      ];
      visited = from_next (WasVisited r limits old.entries) (WasVisited r limits new.entries) old new before budget after next here (visited_later r limits old new budget grows) grows i.visited c.in_ok-visit_class.ensures.all;
      past = λ t. elim c.if-not-branch.branch [
        | then-not-branch w ↦ c.in_ok-visit_class.ensures.past w.if-not-branch.true
        | else-not-branch w ↦ past_later r limits old new budget grows (i.past (sym w.within-is ∙ t))
      ];
    }

pub returns-clause-all : goal.returns-clause-all
returns-clause-all g c = λ i e at. c.loop-departures.invariant.visited i e at (omega (arith, c.loop-departures-test.false, c.loop-departures.auto.departures-end))
