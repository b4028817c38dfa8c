use Rattle.std.proofs.Common.{arith}
use Rattle.explore.specs.Inner.RankedSearches.{IsLedOn}
use Rattle.explore.proofs.ClassLemmas.{one_other}
use Rattle.explore.proofs.RankedLemmas.{led_more, led_to_end, rank_grows_twice, rank_grows_wider}
use Rattle.explore.proofs.ranked_classes.visit_budget.Goals as goal
use Rattle.explore.proofs.ranked_classes.visit_budget.Goals.{then-read-budget+in_ok-take_entry, else-read-budget}

pub loop-place-preserved : goal.loop-place-preserved
loop-place-preserved g c =
    let r = g.P.Space.rules c.args.space.now in
    let now = c.loop-place.search in
    let i = c.loop-place.invariant in
    let e = c.read.result.now in
    elim c.if-read-budget.branch [
      | then-read-budget+in_ok-take_entry w ↦
          rw w.search-is (record {
            searching = w.in_ok-take_entry.ensures.searching;
            grows = rank_grows_twice c.args.search.now now w.take_entry.new.search c.args.budget i.grows
                (rank_grows_wider now w.take_entry.new.search e.budget c.args.budget (omega (arith, w.if-read-budget.true)) (w.in_ok-take_entry.ensures.grows e c.read.ensures));
            led = led_more r now w.take_entry.new.search c.args.budget c.loop-place.place e c.read.ensures w.if-read-budget.true w.in_ok-take_entry.ensures.grows i.led w.in_ok-take_entry.ensures.leads;
          })
      | else-read-budget w ↦
          rw w.search-is (record {
            searching = i.searching;
            grows = i.grows;
            led = one_other (IsLedOn r now) now.current.book c.args.budget c.loop-place.place e c.read.ensures w.if-read-budget.false i.led;
          })
    ]

pub returns-clause-leads : goal.returns-clause-leads
returns-clause-leads g c =
    led_to_end (g.P.Space.rules c.args.space.now) c.loop-place.search c.args.budget c.loop-place.place c.loop-place.invariant.led
    (omega (arith, c.loop-place-test.false, c.len.ensures.count))
