-- *internal*: How far the slots of a dump have come.
use Rattle.std.specs.Prelude.{◌≡◌, ℕ, ◌<◌, List, [], ◌∷◌, ◌++◌, Option, Some, None, ⊤}
use Rattle.vcd_read.specs.Words.{Text}
use Rattle.vcd_read.specs.Bytes.{Come, AreAll}
use Rattle.vcd_read.specs.Commands.{Item, at, Tells}
use Rattle.vcd_read.specs.Telling.{Tell}
use Rattle.vcd_read.specs.Readers.{IsOpen, to_come}
use Rattle.vcd_read.specs.declared.reader.VcdReader.{VcdReader}
use Rattle.vcd_slots.specs.Slots.{DoNotFall, last_time}
use Rattle.vcd_slots.specs.Units.{AreInUnit}
use Rattle.vcd_slots.specs.declared.units.Units.{Units}
use Rattle.vcd_slots.specs.Following.{IsSound, Show}
use Rattle.vcd_slots.specs.declared.columns.Columns.{Columns}
use Rattle.vcd_slots.specs.declared.slots.DumpSlots.{DumpSlots}

-- the next time, if there is one, is later than the one that is shown, if there is one
abbrev pub IsLater : Option ℕ → Option ℕ → Type 0
IsLater shown None = ⊤
IsLater None (Some next) = ⊤
IsLater (Some shown) (Some next) = shown < next

pub record IsReady {R : Type 0} (slots : DumpSlots R) : Type 0 where
  pub is_open : IsOpen slots.dump
  pub sound : IsSound slots.columns
  pub later : IsLater slots.time slots.ahead

-- Columns show what stands behind these items, whose times don't fall and end with this one.
pub record Behind (columns : Columns) (time : Option ℕ) (items : List Item) : Type 0 where
  pub order : DoNotFall None items
  pub last : last_time None items ≡ time
  pub show : Show columns items

-- a dump's slots stand behind these items
abbrev pub Stands : {R : Type 0} → DumpSlots R → List Item → Type 0
Stands slots items = Behind slots.columns slots.time items

-- whatever came before, these items come behind it
abbrev pub Leads : Columns → Columns → Option ℕ → List Item → Type 0
Leads old new time items = (before : List Item) → Behind old time before → Behind new time (before ++ items)

-- the time that comes next, as an item
abbrev pub pending : Option ℕ → List Item
pending None = []
pending (Some time) = at time ∷ []

-- The words that are taken tell items that are these ones and the next time, in the unit that is shown; or they are all, and tell these.
abbrev pub TakesUpTo : {R : Type 0} → (R → Option (List ℕ)) → Units → VcdReader R → VcdReader R → Option ℕ → List Item → Type 0
TakesUpTo remaining units old new (Some time) items = (words : List Text) × (told : List Item) × Come words (to_come remaining old) (to_come remaining new)
    × Tell words old.commands.inside new.commands.inside told × AreInUnit units told (items ++ at time ∷ [])
TakesUpTo remaining units old new None items = (words : List Text) × (told : List Item) × AreAll words (to_come remaining old) (to_come remaining new)
    × Tells old.commands.inside words told × AreInUnit units told items

abbrev pub Takes : {R : Type 0} → (R → Option (List ℕ)) → VcdReader R → DumpSlots R → List Item → Type 0
Takes remaining old new items = TakesUpTo remaining new.units old new.dump new.ahead items

-- of a dump that was read up to the end of its declarations: these items were taken, and the slots stand behind them
abbrev pub Reads : {R : Type 0} → (R → Option (List ℕ)) → VcdReader R → DumpSlots R → Type 0
Reads remaining dump slots = (items : List Item) × Takes remaining dump slots items × Stands slots items

-- The next slot is shown, of the same columns and in the same unit: these items were taken, and whatever came before, they come behind it and
-- their time.
pub record Advances {R : Type 0} (remaining : R → Option (List ℕ)) (old new : DumpSlots R) (items : List Item) : Type 0 where
  pub takes : Takes remaining old.dump new items
  pub stands : (before : List Item) → Stands old before → Stands new (before ++ pending old.ahead ++ items)
  pub watched : new.columns.watched ≡ old.columns.watched
  pub units : new.units ≡ old.units

-- whatever dump it is of, and whatever was read of it before: this was read behind that
abbrev pub ReadsOn : {R : Type 0} → (R → Option (List ℕ)) → DumpSlots R → DumpSlots R → Type 0
ReadsOn {R} remaining old new = (dump : VcdReader R) → Reads remaining dump old → Reads remaining dump new
