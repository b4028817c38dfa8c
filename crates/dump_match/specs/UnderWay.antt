-- *internal*: What a dump keeps that runs are compared with.
use Rattle.std.specs.Prelude.{◌≡◌, ℕ, ◌<◌, Some, None}
use Rattle.vcd_read.specs.Readers.{IsOpen}
use Rattle.vcd_slots.specs.Following.{IsSound}
use Rattle.vcd_slots.specs.declared.slots.DumpSlots.{DumpSlots}

-- it is ready to be read on, and where it shows nothing yet, its first time isn't 0
pub record IsUnderWay {R : Type 0} (slots : DumpSlots R) : Type 0 where
  pub is_open : IsOpen slots.dump
  pub sound : IsSound slots.columns
  pub later : (shown next : ℕ) → slots.time ≡ Some shown → slots.ahead ≡ Some next → shown < next
  pub begins : (next : ℕ) → slots.time ≡ None → slots.ahead ≡ Some next → 0 < next
