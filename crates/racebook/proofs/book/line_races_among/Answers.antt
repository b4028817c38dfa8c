use Rattle.std.proofs.Common.{◌≡◌, slice_get, get_or, Some, arith}
use Rattle.std.proofs.lemmas.Option.{slice_get-get_or}
use Rattle.racebook.specs.declared.slot_state.SlotState.{SlotState}
use Rattle.racebook.specs.Inner.{DifferInLines, IsLineRaceAmong, place_of_lines}
use Rattle.racebook.proofs.SlotLemmas.{slot_of, gap_on, up_on, at_end, lines_differ}
use Rattle.racebook.proofs.book.line_races_among.Goals as goal

pub slots-preserved : goal.slots-preserved
slots-preserved c =
    let gs = c.args.slot_states.now in
    let start = c.slots.start in
    let end = c.slot_end-end.result in
    let first : SlotState = get_or gs start c.index-slot_states-start.result in
    let at : slice_get gs start ≡ Some first = slice_get-get_or gs start c.index-slot_states-start.result c.slots-test.true in
    let is = c.slot_end-end.ensures in
    let gap = c.slots.invariant.gap in
    let order = c.requires.order in
    let of = slot_of gs start end first is order gap at in
    let old = c.slots.invariant.up_to first.time (λ i g lt here. gap i start g first lt (omega arith) here at) (λ i g le here. order start i first g le at here) in
    let up = c.in_ok-put_line_race.ensures gs of old in
    record {
      within = is.within;
      up_to = up_on place_of_lines (IsLineRaceAmong gs) (DifferInLines gs) gs 1 (lines_differ gs) start end first c.put_line_race.new.races.items is gap at up;
      gap = gap_on gs start end first is order gap at;
    }

pub returns : goal.returns
returns c =
    let gs = c.args.slot_states.now in
    at_end place_of_lines (IsLineRaceAmong gs) (DifferInLines gs) gs 1 (lines_differ gs) c.slots.start c.slots.races.items (omega (arith, c.slots-test.false)) c.slots.invariant.up_to
