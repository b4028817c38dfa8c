use Rattle.std.proofs.Common.{List}
use Rattle.racebook.specs.declared.slot_state.SlotState.{SlotState}
use Rattle.racebook.specs.Inner.{IsSlotOf, AreWide, AreRacesUpTo}
use Rattle.racebook.proofs.slot.put_races.Given as goal

abbrev pub invariant-loop-variable : goal.invariant-loop-variable
invariant-loop-variable l = (slot_states : List SlotState) → IsSlotOf slot_states l.slot l.time → AreWide l.count slot_states →
    AreRacesUpTo slot_states l.fn.races.items l.time 0 → AreRacesUpTo slot_states l.races.items l.time l.variable
