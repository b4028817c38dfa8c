-- *product rule*: Rules that a text breaks, each told with the word at which it is broken. Of a part of the text the first that is broken
-- is told, in the order in which it is looked at.
use Rattle.std.specs.Prelude.{◌≡◌, ℕ, Bool, true, false, Option, None, Some, option_map}
use Rattle.vast.specs.NumberedWords.{Word}
use Rattle.vvalue.specs.declared.flaw.Flaw.{Flaw}
use Rattle.vvalue.specs.declared.flaw.Flaw.TheVariants.{NoBits, Size}
use Rattle.velab_expr.specs.declared.fault.Rule.{Rule}
use Rattle.velab_expr.specs.declared.fault.Rule.TheVariants.{Width, Kind}
use Rattle.velab_expr.specs.declared.fault.ElabFault.{ElabFault}

abbrev pub number_in : Option Word → Option ℕ
number_in word = option_map (λ w. w.number) word

-- a rule that is broken, and the word where, if there is one
abbrev pub fault_at : Rule → Option Word → ElabFault
fault_at rule word = record { rule = rule; at = number_in word }

-- the rule is broken there where this doesn't hold
abbrev pub unless : Bool → Rule → Option Word → Option ElabFault
unless true rule word = None
unless false rule word = Some (fault_at rule word)

-- the rule is broken there where this holds
abbrev pub broken_if : Bool → Rule → Option Word → Option ElabFault
broken_if true rule word = Some (fault_at rule word)
broken_if false rule word = None

-- the rule is broken at this word, if there is one
abbrev pub broken_at : Rule → Option Word → Option ElabFault
broken_at rule word = option_map (λ (w : Word). fault_at rule (Some w)) word

abbrev pub rule_of : Flaw → Rule
rule_of NoBits = Kind
rule_of Size = Width

-- a fault tells of this
abbrev pub IsBroken : Option ElabFault → ElabFault → Type 0
IsBroken broken fault = broken ≡ Some fault
