-- Slots that are under way are ready to be read on.
use Rattle.std.proofs.Common.{◌≡◌, ℕ, ◌<◌, Option, Some, None, refl, subst}
use Rattle.vcd_slots.specs.Standing.{IsLater, IsReady}
use Rattle.vcd_slots.specs.declared.slots.DumpSlots.{DumpSlots}
use Rattle.drive_dump.specs.UnderWay.{IsUnderWay}

later_by : (time ahead : Option ℕ) → ((shown next : ℕ) → time ≡ Some shown → ahead ≡ Some next → shown < next) → IsLater time ahead
later_by None None h = tt
later_by None (Some next) h = tt
later_by (Some shown) None h = tt
later_by (Some shown) (Some next) h = h shown next refl refl

pub ready : {R : Type 0} (slots : DumpSlots R) → IsUnderWay slots → IsReady slots
ready slots way = record { is_open = way.is_open; sound = way.sound; later = later_by slots.time slots.ahead way.later }

by_later : (time ahead : Option ℕ) → IsLater time ahead → (shown next : ℕ) → time ≡ Some shown → ahead ≡ Some next → shown < next
by_later None ahead is shown next a b = cc
by_later (Some s) None is shown next a b = cc
by_later (Some s) (Some n) is shown next a b =
    let same : s ≡ shown = cc in
    let then : n ≡ next = cc in
    subst (λ (m : ℕ). m < next) same (subst (λ (m : ℕ). s < m) then is)

pub under_way : {R : Type 0} (slots : DumpSlots R) → IsReady slots → IsUnderWay slots
under_way slots ready = record {
  is_open = ready.is_open;
  sound = ready.sound;
  later = by_later slots.time slots.ahead ready.later;
}
