-- *internal*: How far declarations have come.
use Rattle.std.specs.Prelude.{◌≡◌, List, ◌++◌, Option, map, reverse}
use Rattle.basis.specs.declared.timescale.Span.{Span}
use Rattle.vcd_read.specs.Words.{Text}
use Rattle.vcd_read.specs.Declarations.{Variable, Declares}
use Rattle.vcd_read.specs.declared.header.Header.{Header}
use Rattle.vcd_read.specs.declared.header.VcdVariable.{VcdVariable}

-- a variable as definitions see it
abbrev pub view_of : VcdVariable → Variable
view_of v = record { name = v.name.items; width = v.width; code = v.code.items }

abbrev pub all_seen : List VcdVariable → List Variable
all_seen = map view_of

-- the prefixes outside of the open scope, the innermost first
abbrev pub outer_of : Header → List Text
outer_of h = reverse (map (λ prefix. prefix.items) h.outer.items)

-- These words lead from one state of the header to another: whatever is declared behind them goes on from there.
pub record Lead (words : List Text) (old new : Header) : Type 0 where
  pub variables : List Variable
  pub added : all_seen new.variables.items ≡ all_seen old.variables.items ++ variables
  pub goes_on : (rest : List Text) (unit : Option Span) (more : List Variable) → Declares new.unit new.prefix.items (outer_of new) rest unit more →
      Declares old.unit old.prefix.items (outer_of old) (words ++ rest) unit (variables ++ more)
