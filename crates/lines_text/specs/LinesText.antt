-- *trusted*: `LinesText` (IEEE 1364-2005, 17.1; docs/FORMATS.md, "Lines"): the printed lines of a design and what its run shows.
use Rattle.std.specs.Prelude.{ℕ, if◌then◌else◌, List, [], ◌∷◌, ◌++◌, Option, Some, None}
use Rattle.vbits.specs.Vectors.{Vector}
use Rattle.vdesign.specs.Design.{Design}
use Rattle.line_text.specs.LineText.{pieces_text, values_watched}
use Rattle.vmodel.specs.declared.history.Item.{Item}
use Rattle.vmodel.specs.declared.history.Item.TheVariants.{SlotEnd, Dump, Line, Monitor}
use Rattle.vmodel.specs.Same.{values_same}
use Rattle.vmodel.specs.Step.{environment_at, pieces_at}
use Rattle.lines_text.specs.declared.in_force.InForce.{InForce}
use Rattle.lines_text.specs.declared.in_force.InForce.TheVariants.{Nobody, Called, Printed}

-- ---- the monitor in force (17.1.3)

-- its arguments at a time, but for a bare `$time`
abbrev pub watched_values : Design → ℕ → ℕ → List Vector → List Vector
watched_values design place time values = values_watched (environment_at design values time) (pieces_at design place)

abbrev pub line_at : Design → ℕ → ℕ → List Vector → List ℕ
line_at design place time values = pieces_text (environment_at design values time) (pieces_at design place)

-- one that has printed prints again where an argument differs, at the end of a slot (own), from what it last showed
abbrev pub due_again : Design → ℕ → List Vector → ℕ → List Vector → Option ℕ
due_again design place last time values = if values_same last (watched_values design place time values) then None else Some place

-- the monitor that prints at the end of a slot, if one does: one that was called in the slot always does
abbrev pub due : Design → InForce → ℕ → List Vector → Option ℕ
due design Nobody time values = None
due design (Called place) time values = Some place
due design (Printed place last) time values = due_again design place last time values

abbrev pub monitor_text : Design → ℕ → List Vector → Option ℕ → List ℕ
monitor_text design time values None = []
monitor_text design time values (Some place) = line_at design place time values

-- what it showed is kept where it printed
abbrev pub in_force_after_slot : Design → ℕ → List Vector → Option ℕ → InForce → InForce
in_force_after_slot design time values None in_force = in_force
in_force_after_slot design time values (Some place) in_force = Printed place (watched_values design place time values)

-- ---- item by item

-- a line of `$display` or `$strobe` prints itself (17.1.1, 17.1.2), the monitor at a slot's end (17.1.3), after the strobes (own)
abbrev pub item_text : Design → InForce → Item → List ℕ
item_text design in_force (Line text) = text
item_text design in_force (Monitor place) = []
item_text design in_force (SlotEnd time values) = monitor_text design time values (due design in_force time values)
item_text design in_force (Dump command) = []

-- a `$monitor` replaces the one before
abbrev pub in_force_after : Design → InForce → Item → InForce
in_force_after design in_force (Line text) = in_force
in_force_after design in_force (Monitor place) = Called place
in_force_after design in_force (SlotEnd time values) = in_force_after_slot design time values (due design in_force time values) in_force
in_force_after design in_force (Dump command) = in_force

abbrev pub lines_from : Design → InForce → List Item → List ℕ
lines_from design in_force [] = []
lines_from design in_force (item ∷ items) =
    item_text design in_force item ++ lines_from design (in_force_after design in_force item) items

-- the lines of a whole history: at its start no monitor is in force
abbrev pub lines : Design → List Item → List ℕ
lines design items = lines_from design Nobody items
