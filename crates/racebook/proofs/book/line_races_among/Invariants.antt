use Rattle.std.proofs.Common.{ℕ, ◌-◌, ◌≤◌, length}
use Rattle.racebook.specs.Inner.{AreLineRacesUpTo}
use Rattle.racebook.proofs.SlotLemmas.{ComeBefore, ComeFrom, HasGap}
use Rattle.racebook.proofs.book.line_races_among.Given as goal

abbrev pub invariant-slots : goal.invariant-slots
invariant-slots l = record {
  within : l.start ≤ length l.slot_states;
  up_to : (time : ℕ) → ComeBefore l.slot_states l.start time → ComeFrom l.slot_states l.start time → AreLineRacesUpTo l.slot_states l.races.items time 0;
  gap : HasGap l.slot_states l.start;
}

abbrev pub decreases-slots : goal.decreases-slots
decreases-slots l = length l.slot_states - l.start
