use Rattle.std.proofs.Common.{length, refl}
use Rattle.std.proofs.lemmas.Option.{slice_get_read}
use Rattle.race_groups.proofs.StandingLemmas.{still_on}
use Rattle.race_groups.proofs.shown.put_all_still.Goals as goal

pub loop-place-preserved : goal.loop-place-preserved
loop-place-preserved c =
    let standing = c.args.standing.now in
    let one = c.index-standing-place.result in
    still_on c.args.machine.now c.args.time standing c.loop-place.place one c.args.slot_states.now.items c.loop-place.slot_states.items
    c.put_still.new.slot_states.items
    (slice_get_read standing (length standing) c.loop-place.place one refl c.loop-place-test.true c.index-standing-place.is)
    c.in_ok-put_still.ensures c.loop-place.invariant
