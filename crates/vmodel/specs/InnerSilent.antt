-- *internal*: Print tasks, and what shows no line: words for the contracts of parts within.
use Rattle.std.specs.Prelude.{Bool, true, false, Option, Some, None}
use Rattle.vdesign.specs.declared.action.Action.{Action}
use Rattle.vdesign.specs.declared.action.Action.TheVariants.{Print}
use Rattle.vmodel.specs.declared.effect.Shown.{Shown}
use Rattle.vmodel.specs.declared.effect.Shown.TheVariants.{Commands, Prints, Watches}

-- 17.1: `$display`, `$strobe` or `$monitor`
abbrev pub is_print : Action → Bool
is_print (Print when pieces) = true
is_print _ = false

abbrev pub is_some_print : Option Action → Bool
is_some_print None = false
is_some_print (Some action) = is_print action

-- what is shown is no line
abbrev pub ShowsNoLine : Option Shown → Type 0
ShowsNoLine None = Unit {0}
ShowsNoLine (Some (Commands command)) = Unit {0}
ShowsNoLine (Some (Prints place)) = ⊥
ShowsNoLine (Some (Watches place)) = Unit {0}
