use Rattle.std.proofs.Common.{length, refl}
use Rattle.std.proofs.lemmas.Option.{slice_get_read}
use Rattle.explore.specs.Ranked.{pairs_of}
use Rattle.racebook.proofs.FoundLemmas.{pair_at, slot_states_all, slot_states_on, slot_states_wide}
use Rattle.racebook.proofs.slot_state.states_of_marks.Goals as goal

pub loop-place-preserved : goal.loop-place-preserved
loop-place-preserved c =
    let marks = c.args.marks.now in
    let found = c.index-marks-place.result in
    slot_states_on c.args.machine.now (pairs_of marks) c.loop-place.slot_states.items c.put_slot_state.new.slot_states.items c.put_slot_state.new.slot_states.items c.loop-place.place (found.state, found.log) refl
    (pair_at marks c.loop-place.place found (slice_get_read marks (length marks) c.loop-place.place found refl c.loop-place-test.true c.index-marks-place.is)) c.in_ok-put_slot_state.ensures c.loop-place.invariant

pub returns-clause-of : goal.returns-clause-of
returns-clause-of c = slot_states_all c.args.machine.now c.args.marks.now c.loop-place.slot_states.items c.loop-place.place c.loop-place-test.false c.loop-place.invariant

pub returns-clause-wide : goal.returns-clause-wide
returns-clause-wide c = slot_states_wide c.args.machine.now (pairs_of c.args.marks.now) c.loop-place.place c.loop-place.slot_states.items c.loop-place.invariant
