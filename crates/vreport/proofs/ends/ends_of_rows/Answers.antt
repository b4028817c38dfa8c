use Rattle.std.proofs.Common.{refl}
use Rattle.std.proofs.lemmas.Option.{slice_get_read}
use Rattle.vreport.proofs.HeldLemmas.{held_on}
use Rattle.vreport.proofs.ListingLemmas.{lists, skips}
use Rattle.vreport.proofs.ends.ends_of_rows.Goals as goal

pub loop-place-preserved : goal.loop-place-preserved
loop-place-preserved g c = (
  lists c.args.machine.now c.args.limits.now (g.M.Marks.pairs c.args.marks.now) c.args.rows.now c.requires.sorted c.loop-place.ends.items c.push.new.self.items c.loop-place.place
      c.index-rows-place.result _ c.in_ok-push-in-Ok.ensures.items (slice_get_read c.args.rows.now _ c.loop-place.place c.index-rows-place.result refl c.loop-place-test.true c.index-rows-place.is)
      (λ p. let bad = c.if-repeats.ensures.1 p in cc) c.in-Ok.ensures.ok c.loop-place.invariant.0,
  held_on c.args.machine.now c.args.limits.now.steps c.loop-place.ends.items _ c.loop-place.held.items _ _ _ c.in_ok-push-in-Ok.ensures.items c.in_ok-push-in-Ok-2.ensures.items c.loop-place.invariant.1 c.in-Ok.ensures.held,
)

pub loop-place-preserved-then-repeats : goal.loop-place-preserved-then-repeats
loop-place-preserved-then-repeats g c = (
  skips c.args.machine.now c.args.limits.now (g.M.Marks.pairs c.args.marks.now) c.args.rows.now c.requires.sorted c.loop-place.ends.items c.loop-place.ends.items c.loop-place.place refl
      (c.if-repeats.ensures.0 refl) c.loop-place.invariant.0,
  c.loop-place.invariant.1,
)
