use Rattle.std.proofs.Common.{◌≡◌, drop}
use Rattle.vmodel.specs.Printed.{with_lines}
use Rattle.plain_steps.proofs.printed.insert_items.Given as goal

abbrev pub invariant-loop-item : goal.invariant-loop-item
invariant-loop-item l = with_lines (drop l.item-index l.items) l.bag ≡ with_lines l.items l.initial.bag
