-- *internal*: What comes next of a dump, in the unit that is shown.
use Rattle.std.specs.Prelude.{ℕ, List, Option}
use Rattle.vcd_read.specs.Words.{Text}
use Rattle.vcd_read.specs.Bytes.{Come}
use Rattle.vcd_read.specs.Commands.{Item}
use Rattle.vcd_read.specs.Telling.{Tell}
use Rattle.vcd_read.specs.Readers.{to_come}
use Rattle.vcd_read.specs.declared.reader.VcdReader.{VcdReader}
use Rattle.vcd_slots.specs.Units.{AreInUnit}
use Rattle.vcd_slots.specs.declared.units.Units.{Units}

-- words come that tell these items
abbrev pub Comes : {R : Type 0} → (R → Option (List ℕ)) → Units → VcdReader R → VcdReader R → List Item → Type 0
Comes remaining units old new items = (words : List Text) × (told : List Item) × Come words (to_come remaining old) (to_come remaining new)
    × Tell words old.commands.inside new.commands.inside told × AreInUnit units told items
