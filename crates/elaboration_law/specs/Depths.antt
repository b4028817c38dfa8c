-- *product rule*: E308: how deep instances may nest.
use Rattle.std.specs.Prelude.{Option}
use Rattle.vwords.specs.Words.{Text}
use Rattle.vast.specs.NumberedModules.{SourceTree}
use Rattle.elaboration_law.specs.Hierarchy.{Instance, StandsAt}

-- an instance stands 16 levels below the top: with the top there are more than 16
abbrev pub IsTooDeep : SourceTree → Option Text → Type 0
IsTooDeep modules top = (one : Instance) × StandsAt modules top 16 one
