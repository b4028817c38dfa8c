use Rattle.std.proofs.Common.{subst, arith, ℕ}
use Rattle.explore.specs.Inner.Exploring.{BookGrows}
use Rattle.explore.proofs.ClassLemmas.{class_cut, class_done, class_finished, class_skipped, class_visited, bounded_now}
use Rattle.explore.proofs.VisitLemmas.{grows_twice}
use Rattle.explore.proofs.classes.visit_class.Goals as goal
use Rattle.explore.proofs.classes.visit_class.Goals.{then-read-budget+else-len-limits+in_ok-visit+then-not-branch, then-read-budget+else-len-limits+in_ok-visit+else-not-branch, else-read-budget}

pub returns-in_err-visit-clause-grows : goal.returns-in_err-visit-clause-grows
returns-in_err-visit-clause-grows g c =
    let P : ℕ → Type 0 = λ b. BookGrows c.loop-place.search.book c.visit.new.search.book b in
    grows_twice c.args.search.now.book c.loop-place.search.book c.visit.new.search.book c.args.budget c.loop-place.invariant.class.grows
    (subst P c.if-read-budget.true (c.visit.ensures.grows c.read.result.now c.read.ensures))

pub returns-in_err-visit-clause-bounded : goal.returns-in_err-visit-clause-bounded
returns-in_err-visit-clause-bounded g c =
    bounded_now (g.P.Space.rules c.args.space.now) c.args.limits.now c.loop-place.search.book c.loop-place.place c.visit.new.search.book c.read.result.now c.read.ensures
    (omega (arith, c.if-len-limits.false, c.len-then-read-budget.ensures.count)) c.visit.ensures.grows c.visit.ensures.few

pub loop-place-preserved : goal.loop-place-preserved
loop-place-preserved g c =
    let r = g.P.Space.rules c.args.space.now in
    let limits = c.args.limits.now in
    let now = c.loop-place.search.book in
    elim c.if-read-budget.branch [
      | then-read-budget+else-len-limits+in_ok-visit+then-not-branch w ↦
          rw (w.search-is, w.within-is)
          (record {
            class = class_cut r limits c.args.search.now.book now w.visit.new.search.book c.args.budget c.loop-place.place c.loop-place.within c.loop-place.invariant.class
                (record {
                  entry = c.read.result.now;
                  at = c.read.ensures;
                  fewer = omega (arith, w.if-len-limits.false, w.len-then-read-budget.ensures.count);
                  grows = w.visit.ensures.grows;
                  few = w.visit.ensures.few;
                  narrow = w.visit.ensures.narrow;
                  leads = w.in_ok-visit.ensures.leads;
                })
                w.if-read-budget.true (w.in_ok-visit.ensures.past w.if-not-branch.true);
            searching = w.visit.ensures.searching;
          })
      | then-read-budget+else-len-limits+in_ok-visit+else-not-branch w ↦
          rw (w.search-is, w.within-is)
          (record {
            class = class_finished r limits c.args.search.now.book now w.visit.new.search.book c.args.budget c.loop-place.place c.loop-place.within c.loop-place.invariant.class
                (record {
                  entry = c.read.result.now;
                  at = c.read.ensures;
                  fewer = omega (arith, w.if-len-limits.false, w.len-then-read-budget.ensures.count);
                  grows = w.visit.ensures.grows;
                  few = w.visit.ensures.few;
                  narrow = w.visit.ensures.narrow;
                  leads = w.in_ok-visit.ensures.leads;
                })
                w.if-read-budget.true (w.in_ok-visit.ensures.finished w.if-not-branch.false);
            searching = w.visit.ensures.searching;
          })
      | else-read-budget w ↦
          rw (w.search-is, w.within-is)
          (record { class = class_skipped r limits c.args.search.now.book now c.args.budget c.loop-place.place c.loop-place.within c.read.result.now c.loop-place.invariant.class c.read.ensures w.if-read-budget.false; searching = c.loop-place.invariant.searching })
    ]

pub returns-clause-finished : goal.returns-clause-finished
returns-clause-finished g c = λ t.
    class_done (g.P.Space.rules c.args.space.now) c.args.limits.now c.args.search.now.book c.loop-place.search.book c.args.budget c.loop-place.place c.loop-place.within c.loop-place.invariant.class
    (omega (arith, c.loop-place-test.false, c.len.ensures.count)) t

pub returns-clause-all : goal.returns-clause-all
returns-clause-all g c =
    class_visited (g.P.Space.rules c.args.space.now) c.args.limits.now c.args.search.now.book c.loop-place.search.book c.args.budget c.loop-place.place c.loop-place.within c.loop-place.invariant.class
    (omega (arith, c.loop-place-test.false, c.len.ensures.count))
