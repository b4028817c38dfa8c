-- *internal*: Variables that are followed.
use Rattle.std.specs.Prelude.{◌≡◌, ℕ, ◌≤◌, ◌&&◌, nat_eq, length, get_or, Bool, true, if◌then◌else◌, List, [], ◌∷◌, ◌++◌, Option, Some, None, slice_get}
use Rattle.std.specs.Cmp.Lexicographic.{pointwise}
use Rattle.vbits.specs.Vectors.{Vector}
use Rattle.vcd_read.specs.Words.{Text}
use Rattle.vcd_read.specs.Commands.{Item}
use Rattle.vcd_read.specs.declared.header.VcdVariable.{VcdVariable}
use Rattle.vcd_slots.specs.Slots.{Fit, on_behind, value_shown, vector_of}
use Rattle.vcd_slots.specs.declared.column.Column.{Column}
use Rattle.vcd_slots.specs.declared.columns.Columns.{Columns}

-- a column's value is put, or stays
abbrev pub put_by : Column → Bool → Option Vector → Text → Text → Option Vector
put_by column is_on before code digits =
    if is_on && pointwise nat_eq code column.code.items then vector_of column.width digits else before

pub record Puts (column : Column) (is_on : Bool) (before after : Option Vector) (code digits : Text) : Type 0 where
  pub value : after ≡ put_by column is_on before code digits
  pub fits : pointwise nat_eq code column.code.items ≡ true → (v : Vector) × (vector_of column.width digits ≡ Some v)

-- what a column shows
abbrev pub told_at : List (Option Vector) → ℕ → Option Vector
told_at told place = get_or told place None

-- of each column it is put
abbrev pub PutsEach : List Column → Bool → List (Option Vector) → List (Option Vector) → Text → Text → Type 0
PutsEach watched is_on old new code digits =
    (place : ℕ) (column : Column) → slice_get watched place ≡ Some column →
    Puts column is_on (told_at old place) (told_at new place) code digits

-- columns have 1 to 64 bits, and a value each, perhaps unknown
abbrev pub HasBits : Column → Type 0
HasBits column = (1 ≤ column.width) × (column.width ≤ 64)

pub record AreSound (watched : List Column) (told : List (Option Vector)) : Type 0 where
  pub matched : length told ≡ length watched
  pub widths : (place : ℕ) (column : Column) → slice_get watched place ≡ Some column → HasBits column

abbrev pub IsSound : Columns → Type 0
IsSound columns = AreSound columns.watched.items columns.told.items

-- nothing was told
pub record IsFresh (columns : Columns) : Type 0 where
  pub on : columns.is_on ≡ true
  pub unknown : (place : ℕ) → told_at columns.told.items place ≡ None

-- a column of the variable stands behind the other ones
pub record Follows (old new : Columns) (variable : VcdVariable) (place : ℕ) : Type 0 where
  pub column : Column
  pub code : column.code.items ≡ variable.code.items
  pub width : column.width ≡ variable.width
  pub last : place ≡ length old.watched.items
  pub added : new.watched.items ≡ old.watched.items ++ column ∷ []

-- Columns show what a dump shows behind these items.
pub record Show (columns : Columns) (items : List Item) : Type 0 where
  pub on : columns.is_on ≡ on_behind true items
  pub values : (place : ℕ) (column : Column) → slice_get columns.watched.items place ≡ Some column →
      told_at columns.told.items place ≡ value_shown items column.code.items column.width
  pub fit : (place : ℕ) (column : Column) → slice_get columns.watched.items place ≡ Some column →
      Fit column.code.items column.width items

-- whatever they showed before, an item comes behind it
abbrev pub ShowsMore : Columns → Columns → Item → Type 0
ShowsMore old new item = (items : List Item) → Show old items → Show new (items ++ item ∷ [])
