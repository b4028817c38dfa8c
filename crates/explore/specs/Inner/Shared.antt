-- *internal*: Why workers stopped short, and what that tells.
use Rattle.std.specs.Prelude.{◌≡◌, Option, Some}
use Rattle.sched_core.specs.Rules.{Rules}
use Rattle.statebook.specs.declared.limits.Limits.{Limits}
use Rattle.statebook.specs.declared.reason.Reason.{Reason}
use Rattle.statebook.specs.declared.reason.Reason.TheVariants.{Entries, Steps}
use Rattle.statebook.specs.Ways.{SomeRunExceeds}

-- The workers stopped short by the limit of steps.
abbrev pub StopsForSteps : Option Reason → Type 0
StopsForSteps cut = cut ≡ Some Steps

-- The workers stopped short by the limit of entries.
abbrev pub StopsForEntries : Option Reason → Type 0
StopsForEntries cut = cut ≡ Some Entries

-- The limit of steps is told only where some run takes more steps.
abbrev pub TellsWhy : {S : Type 0} → Rules S → Limits → Option Reason → Type 0
TellsWhy r limits cut = StopsForSteps cut → SomeRunExceeds r limits
