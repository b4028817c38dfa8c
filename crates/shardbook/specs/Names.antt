-- *internal*: By what a book is told from others.
use Rattle.std.specs.Prelude.{◌≡◌, ℕ}
use Rattle.boxcar.specs.Table.{Shelves}

-- The name of the vector of its entries, and the name and the parts of its ledger.
pub record Names : Type 0 where
  pub entries : Shelves
  pub name : ℕ
  pub parts : ℕ

-- The names are these.
pub record AreNames (names : Names) (entries : Shelves) (name parts : ℕ) : Type 0 where
  pub entries_are : names.entries ≡ entries
  pub name_is : names.name ≡ name
  pub parts_are : names.parts ≡ parts
