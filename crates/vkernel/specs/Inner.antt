-- *internal*: How the parts of a kernel are told: words for the contracts of parts within.
use Rattle.std.specs.Prelude.{ℕ, List, Option, slice_get}
use Rattle.vdesign.specs.Design.{Design}
use Rattle.sched_core.specs.declared.setting.Grain.{Grain}
use Rattle.sched_core.specs.declared.setting.Departures.{Departures}
use Rattle.sched_core.specs.declared.setting.Looked.{Looked}
use Rattle.vmodel.specs.declared.choice.Choice.{Choice}
use Rattle.vmodel.specs.Choices.{advance_choice}
use Rattle.vmodel.specs.Queue.{Later}
use Rattle.vmodel.specs.Run.{Setting}

-- a setting by its parts
abbrev pub setting_of : Design → ℕ → Grain → Departures → Looked → Setting
setting_of design until grain departures looked = record {
  design = design;
  until = until;
  grain = grain;
  departures = departures;
  looked = looked;
}

-- the choice of this number where nothing is active
abbrev pub advance_at : List (ℕ × Later) → ℕ → Option Choice
advance_at future i = slice_get (advance_choice future) i
