use Rattle.std.proofs.Common.{ℕ, ap, arith}
use Rattle.vmodel.specs.Queue.{Later}
use Rattle.vstrata.proofs.PlaceLemmas.{place_passed, place_found, place_ended, placed_within}
use Rattle.vstrata.proofs.placed.place_from.Goals as goal

pub loop-place-preserved : goal.loop-place-preserved
loop-place-preserved c =
    place_passed c.args.time c.args.entries.now.items c.loop-place.place c.index-entry.result.now
    (omega (arith, c.loop-place-test.true, c.len-count.ensures, c.args.entries.now.ok.0)) c.index-entry.ensures
    (omega (arith, ap (λ (e : ℕ × Later). e.0) c.entry.view_is, c.if-stands-time.false)) c.loop-place.invariant

pub returns-then-stands-time-clause-exact : goal.returns-then-stands-time-clause-exact
returns-then-stands-time-clause-exact c =
    place_found c.args.time c.args.entries.now.items c.loop-place.place c.index-entry.result.now
    (omega (arith, c.loop-place-test.true, c.len-count.ensures, c.args.entries.now.ok.0)) c.index-entry.ensures
    (omega (arith, ap (λ (e : ℕ × Later). e.0) c.entry.view_is, c.if-stands-time.true)) c.loop-place.invariant

pub returns-clause-exact : goal.returns-clause-exact
returns-clause-exact c =
    place_ended c.args.time c.args.entries.now.items c.loop-place.place
    (omega (arith, c.loop-place-test.false, c.len-count.ensures, c.args.entries.now.ok.0)) c.loop-place.invariant

pub returns-clause-within : goal.returns-clause-within
returns-clause-within c =
    placed_within c.args.time c.loop-place.place c.args.entries.now.items
    (place_ended c.args.time c.args.entries.now.items c.loop-place.place
    (omega (arith, c.loop-place-test.false, c.len-count.ensures, c.args.entries.now.ok.0)) c.loop-place.invariant)
