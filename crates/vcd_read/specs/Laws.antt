-- *internal*: Words say one thing.
use Rattle.std.specs.Prelude.{◌≡◌, Bool, List, [], ◌++◌, Option, None}
use Rattle.basis.specs.declared.timescale.Span.{Span}
use Rattle.vcd_read.specs.Words.{Text}
use Rattle.vcd_read.specs.Declarations.{Variable, Declares}
use Rattle.vcd_read.specs.Commands.{Item, Tells}

-- words tell one list of items
abbrev pub tells_one : Type 0
tells_one = (inside : Bool) (words : List Text) (a b : List Item) → Tells inside words a → Tells inside words b → a ≡ b

-- words declare one unit and one list of variables, and their declarations end at one place
abbrev pub declares_one : Type 0
declares_one = (these those x y : List Text) (u v : Option Span) (a b : List Variable) → Declares None [] [] these u a → Declares None [] [] those v b →
    these ++ x ≡ those ++ y → (these ≡ those) × (u ≡ v) × (a ≡ b)
