-- *product rule*: The lines that steps put into the bag of their time slot (IEEE 1364-2005, 17.1.1, 17.1.2; docs/SCHEDULING.md,
-- "Lines of a slot"): in which order processes print whole lines doesn't count.
use Rattle.std.specs.Prelude.{ℕ, List, [], ◌∷◌, Option, Some, None}
use Rattle.sched_core.specs.Bags.{with_text}
use Rattle.vmodel.specs.declared.history.Item.{Item}
use Rattle.vmodel.specs.declared.history.Item.TheVariants.{SlotEnd, Dump, Line, Monitor}
use Rattle.vmodel.specs.declared.choice.Choice.{Choice}
use Rattle.vmodel.specs.declared.choice.Choice.TheVariants.{Run, Update, Advance}

-- 17.1.1, 17.1.2: a bag with this item, where it is a text, of `$display`, `$write` or `$strobe`
abbrev pub with_item : Item → List (List ℕ) → List (List ℕ)
with_item (Line text) bag = with_text text bag
with_item (SlotEnd time values) bag = bag
with_item (Dump command) bag = bag
with_item (Monitor place) bag = bag

-- a bag with the texts among these items
abbrev pub with_lines : List Item → List (List ℕ) → List (List ℕ)
with_lines [] bag = bag
with_lines (item ∷ items) bag = with_lines items (with_item item bag)

-- 11.3: an advance begins a slot, which has printed nothing
abbrev pub lines_before : Choice → List (List ℕ) → List (List ℕ)
lines_before Advance bag = []
lines_before (Run p) bag = bag
lines_before Update bag = bag

-- the bag after a step by the choice c, which gave these items to the history
abbrev pub printed_after : Choice → List Item → Option (List (List ℕ)) → Option (List (List ℕ))
printed_after c items None = None
printed_after c items (Some bag) = Some (with_lines items (lines_before c bag))
