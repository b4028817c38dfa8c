-- *internal*: The choices of the current time by what is active: words for the contracts of parts within.
use Rattle.std.specs.Prelude.{ℕ, List, ◌++◌, Option, Some, None, map}
use Rattle.vmodel.specs.declared.part.Part.{Part}
use Rattle.vmodel.specs.declared.choice.Choice.{Choice}
use Rattle.vmodel.specs.declared.choice.Choice.TheVariants.{Run, Update, Advance}
use Rattle.vmodel.specs.Choices.{in_order, first_update}

-- processes in order, then the first update
abbrev pub choices_among : Option ℕ → List ℕ → List (List Part) → List Choice
choices_among last active activated = map Run (in_order last active) ++ first_update activated

-- the process of a choice, if it is one
abbrev pub process_in : Option Choice → Option ℕ
process_in None = None
process_in (Some (Run p)) = Some p
process_in (Some Update) = None
process_in (Some Advance) = None
