-- *internal*: What slots show is what the dump shows at their time.
use Rattle.std.specs.Prelude.{◌≡◌, ℕ, ◌<◌, List, [], ◌∷◌, ◌++◌, Some, None, slice_get, ⊤}
use Rattle.vcd_read.specs.Commands.{Item, at, value, off, on}
use Rattle.vcd_slots.specs.Slots.{DoNotFall, items_until, last_time, shown_at}
use Rattle.vcd_slots.specs.Following.{told_at}
use Rattle.vcd_slots.specs.Standing.{Behind}
use Rattle.vcd_slots.specs.declared.column.Column.{Column}
use Rattle.vcd_slots.specs.declared.columns.Columns.{Columns}

-- nothing follows, or a later time
abbrev pub IsNext : ℕ → List Item → Type 0
IsNext now [] = ⊤
IsNext now (at time ∷ items) = now < time
IsNext now (value code digits ∷ items) = ⊥
IsNext now (off ∷ items) = ⊥
IsNext now (on ∷ items) = ⊥

-- items whose times don't fall are those up to the end of their last time, whatever follows from a later time on
abbrev pub until_now : Type 0
until_now = (now : ℕ) (items rest : List Item) → DoNotFall None items → last_time None items ≡ Some now → IsNext now rest →
    items_until now (items ++ rest) ≡ items

-- columns that show what stands behind items up to a time show what the dump shows at that time
abbrev pub shown_now : Type 0
shown_now = (columns : Columns) (now : ℕ) (items rest : List Item) → Behind columns (Some now) items → IsNext now rest →
    (place : ℕ) (column : Column) → slice_get columns.watched.items place ≡ Some column →
    told_at columns.told.items place ≡ shown_at now (items ++ rest) column.code.items column.width
