-- *internal*: Steps where departures only take and no lines are looked at, and steps that are sure to print nothing: words for the
-- contracts of parts within.
use Rattle.std.specs.Prelude.{◌≡◌, ℕ, Bool, false, [], Some, None, slice_get}
use Rattle.vdesign.specs.Design.{Design}
use Rattle.vmodel.specs.declared.choice.Choice.{Choice}
use Rattle.vmodel.specs.declared.choice.Choice.TheVariants.{Run, Update, Advance}
use Rattle.vmodel.specs.State.{State}
use Rattle.plain_steps.specs.InnerMove.{first_action}
use Rattle.vmodel.specs.InnerSilent.{is_some_print, ShowsNoLine}
use Rattle.vmodel.specs.InnerStep.{continuation_in}
use Rattle.vmodel.specs.Choices.{choices}
use Rattle.vmodel.specs.Step.{transition_of}

-- whether the choice is of a process that comes first to a print task
abbrev pub is_at_print : Design → Choice → State → Bool
is_at_print design (Run p) s = is_some_print (first_action design.actions (continuation_in s.processes p))
is_at_print design Update s = false
is_at_print design Advance s = false

-- the step of a choice shows no line, and no monitor event runs after it
abbrev pub IsSilent : Design → Choice → State → Type 0
IsSilent design c s = ShowsNoLine (transition_of design c s).effect.shown × ((transition_of design c s).monitors ≡ [])

-- choice i is c, departures only take, and no lines are looked at
abbrev pub IsPlainChoice : State → ℕ → Choice → Type 0
IsPlainChoice s i c = (s.held_back ≡ None) × (s.printed ≡ None) × (slice_get (choices s) i ≡ Some c)
