-- *product rule*: Variables of the files and of a dump that are the same one: they have one name, where the scope round the top is left out if
-- there is one, and as many bits.
use Rattle.std.specs.Prelude.{◌≡◌, ◌≢◌, ◌⊎◌, ℕ, ◌<◌, ◌≤◌, Bool, List, length, Option, Some, slice_get}
use Rattle.vdesign.specs.Design.{Variable}
use Rattle.vcd_read.specs.declared.header.VcdVariable.{VcdVariable}
use Rattle.vcd_slots.specs.declared.column.Column.{Column}
use Rattle.vcd_slots.specs.declared.columns.Columns.{Columns}
use Rattle.dump_match.specs.Scopes.{compared_name}
use Rattle.dump_match.specs.declared.comparison.Pair.{Pair}
use Rattle.dump_match.specs.declared.comparison.Likeness.{Likeness}
use Rattle.dump_match.specs.declared.comparison.Likeness.TheVariants.{Same, OtherWidth, Unknown}
use Rattle.dump_match.specs.declared.comparison.Meeting.{Meeting}
use Rattle.dump_match.specs.declared.comparison.Meeting.TheVariants.{Compared}

-- the variable of the files of this number is that of the dump
pub record IsLike (wrapped : Bool) (variables : List Variable) (told : VcdVariable) (number : ℕ) : Type 0 where
  pub variable : Variable
  pub in_files : slice_get variables number ≡ Some variable
  pub name : compared_name wrapped told.name.items ≡ variable.name
  pub width : told.width ≡ variable.length

-- the dump declares it
pub record IsDeclared (declared : List VcdVariable) (told : VcdVariable) : Type 0 where
  pub place : ℕ
  pub in_dump : slice_get declared place ≡ Some told

-- A pair is of one variable: that of the files is that of the dump, and its column has that one's code and as many bits.
pub record IsNamedSo (wrapped : Bool) (variables : List Variable) (declared : List VcdVariable) (watched : List Column) (pair : Pair) : Type 0 where
  pub told : VcdVariable
  pub like : IsLike wrapped variables told pair.variable
  pub in_dump : IsDeclared declared told
  pub column : Column
  pub in_columns : slice_get watched pair.column ≡ Some column
  pub code : column.code.items ≡ told.code.items
  pub bits : column.width ≡ told.width

-- so is each
abbrev pub AreNamedSo : Bool → List Variable → List VcdVariable → List Column → List Pair → Type 0
AreNamedSo wrapped variables declared watched pairs =
    (i : ℕ) (pair : Pair) → slice_get pairs i ≡ Some pair → IsNamedSo wrapped variables declared watched pair

-- Some pair is of the variable of the files of this number.
pub record IsCompared (pairs : List Pair) (number : ℕ) : Type 0 where
  pub place : ℕ
  pub pair : Pair
  pub in_pairs : slice_get pairs place ≡ Some pair
  pub variable : pair.variable ≡ number

-- No variable of the files behind this number has the name. In a design of files none of any other number has it (`AreNamed` of `vdesign`).
abbrev pub IsLastNamed : List Variable → ℕ → List ℕ → Type 0
IsLastNamed variables number name = (later : ℕ) (other : Variable) → number < later → slice_get variables later ≡ Some other → other.name ≢ name

-- Each variable that stands in both with equal name and equal width of 1 to 64 bits is compared. Where the dump declares several for one of the
-- files, that one is compared with one of these.
abbrev pub AreAllCompared : Bool → List Variable → List VcdVariable → List Pair → Type 0
AreAllCompared wrapped variables declared pairs =
    (told : VcdVariable) (number : ℕ) → IsDeclared declared told → IsLike wrapped variables told number →
    IsLastNamed variables number (compared_name wrapped told.name.items) → 1 ≤ told.width → told.width ≤ 64 → IsCompared pairs number

-- ---- for the calls within

abbrev pub IfSame : Likeness → (ℕ → Type 0) → Type 0
IfSame (Same number) P = P number
IfSame (OtherWidth number) P = Unit {0}
IfSame Unknown P = Unit {0}

abbrev pub KeepsNamed : Bool → List Variable → List VcdVariable → Columns → Columns → List Pair → List Pair → Type 0
KeepsNamed wrapped variables declared old new pairs more =
    AreNamedSo wrapped variables declared old.watched.items pairs → AreNamedSo wrapped variables declared new.watched.items more

-- of the first variables, so many, each name is found under the last number that has it
abbrev pub FindsBelow : List Variable → ℕ → (List ℕ → Option ℕ) → Type 0
FindsBelow variables n find =
    (number : ℕ) (variable : Variable) → number < n → slice_get variables number ≡ Some variable →
    ((later : ℕ) (other : Variable) → number < later → later < n → slice_get variables later ≡ Some other → other.name ≢ variable.name) →
    find variable.name ≡ Some number

-- and of all
abbrev pub FindsLast : List Variable → (List ℕ → Option ℕ) → Type 0
FindsLast variables find =
    (number : ℕ) (variable : Variable) → slice_get variables number ≡ Some variable → IsLastNamed variables number variable.name →
    find variable.name ≡ Some number

-- it is compared, if a variable of the dump that is like it can be followed
abbrev pub IsFollowed : Bool → List Variable → List Pair → ℕ → Type 0
IsFollowed wrapped variables pairs number =
    (told : VcdVariable) → IsLike wrapped variables told number → 1 ≤ told.width → told.width ≤ 64 → IsCompared pairs number

-- so are those that are said to be compared
abbrev pub AreMet : Bool → List Variable → List Meeting → List Pair → Type 0
AreMet wrapped variables met pairs =
    (number : ℕ) → slice_get met number ≡ Some Compared → IsFollowed wrapped variables pairs number

-- One more is said to be compared, if it wasn't before.
pub record MeetsAt (old new : List Meeting) (number : ℕ) (meeting before : Meeting) : Type 0 where
  pub same : length new ≡ length old
  pub only : (place : ℕ) → slice_get new place ≡ Some Compared →
      (slice_get old place ≡ Some Compared) ⊎ ((place ≡ number) × (meeting ≡ Compared) × (before ≢ Compared))
  pub there : number < length old → before ≡ Compared → slice_get old number ≡ Some Compared

-- what is compared stays so
abbrev pub KeepsCompared : List Pair → List Pair → Type 0
KeepsCompared pairs more = (number : ℕ) → IsCompared pairs number → IsCompared more number

-- With the next variable of the dump the one that it is like is compared.
pub record TakesMore (wrapped : Bool) (variables : List Variable) (told : VcdVariable) (likeness : Likeness) (old new : List Meeting)
    (pairs more : List Pair) : Type 0 where
  pub met : AreMet wrapped variables new more
  pub keeps : KeepsCompared pairs more
  pub compared : (number : ℕ) → likeness ≡ Same number → number < length old → IsFollowed wrapped variables more number

-- of the first variables of the dump, so many, each is compared
abbrev pub AreComparedBelow : Bool → List Variable → List VcdVariable → ℕ → List Pair → Type 0
AreComparedBelow wrapped variables declared n pairs =
    (place : ℕ) (told : VcdVariable) (number : ℕ) → place < n → slice_get declared place ≡ Some told → IsLike wrapped variables told number →
    IsLastNamed variables number (compared_name wrapped told.name.items) → 1 ≤ told.width → told.width ≤ 64 → IsCompared pairs number
