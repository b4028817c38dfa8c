-- The lines of a slot's bag stay in order.
use Rattle.std.proofs.Common.{ℕ, List, [], ◌∷◌}
use Rattle.sched_core.proofs.BagLemmas.{with_text-order}
use Rattle.sched_core.specs.Bags.{AreLinesInOrder}
use Rattle.vmodel.specs.declared.history.Item.{Item}
use Rattle.vmodel.specs.declared.history.Item.TheVariants.{SlotEnd, Dump, Line, Monitor}
use Rattle.vmodel.specs.declared.choice.Choice.{Choice}
use Rattle.vmodel.specs.declared.choice.Choice.TheVariants.{Run, Update, Advance}
use Rattle.vmodel.specs.Printed.{with_item, with_lines, lines_before}

with_item-order : (item : Item) (bag : List (List ℕ)) → AreLinesInOrder bag → AreLinesInOrder (with_item item bag)
with_item-order (Line text) bag order = with_text-order text bag order
with_item-order (SlotEnd time values) bag order = order
with_item-order (Dump command) bag order = order
with_item-order (Monitor place) bag order = order

with_lines-order : (items : List Item) (bag : List (List ℕ)) → AreLinesInOrder bag → AreLinesInOrder (with_lines items bag)
with_lines-order [] bag order = order
with_lines-order (item ∷ items) bag order = with_lines-order items (with_item item bag) (with_item-order item bag order)

pub lines-kept : (c : Choice) (items : List Item) (bag : List (List ℕ)) → AreLinesInOrder bag → AreLinesInOrder (with_lines items (lines_before c bag))
lines-kept (Run p) items bag order = with_lines-order items bag order
lines-kept Update items bag order = with_lines-order items bag order
lines-kept Advance items bag order = with_lines-order items [] (λ i j a b lt at there. cc)
