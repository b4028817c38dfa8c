-- *trusted*: Values are of variables that are declared (IEEE 1364-2005, 18.2.3.8).
use Rattle.std.specs.Prelude.{◌≡◌, ℕ, List, Some, slice_get, ⊤}
use Rattle.vcd_read.specs.Words.{Text}
use Rattle.vcd_read.specs.Commands.{Item, at, value, off, on}
use Rattle.vcd_read.specs.declared.header.VcdVariable.{VcdVariable}

-- one of the variables has the code
pub record IsCode (variables : List VcdVariable) (code : Text) : Type 0 where
  pub place : ℕ
  pub variable : VcdVariable
  pub stands : slice_get variables place ≡ Some variable
  pub same : variable.code.items ≡ code

abbrev pub IsDeclaredIn : List VcdVariable → Item → Type 0
IsDeclaredIn variables (at time) = ⊤
IsDeclaredIn variables (value code digits) = IsCode variables code
IsDeclaredIn variables off = ⊤
IsDeclaredIn variables on = ⊤
