-- *internal*: What a dump keeps that is read slot by slot.
use Rattle.std.specs.Prelude.{◌≡◌, ℕ, ◌<◌, Some}
use Rattle.vcd_read.specs.Readers.{IsOpen}
use Rattle.vcd_slots.specs.Following.{IsSound}
use Rattle.vcd_slots.specs.declared.slots.DumpSlots.{DumpSlots}

-- it is ready to be read on
pub record IsUnderWay {R : Type 0} (slots : DumpSlots R) : Type 0 where
  pub is_open : IsOpen slots.dump
  pub sound : IsSound slots.columns
  pub later : (shown next : ℕ) → slots.time ≡ Some shown → slots.ahead ≡ Some next → shown < next
