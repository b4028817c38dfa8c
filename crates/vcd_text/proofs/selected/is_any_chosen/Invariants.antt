use Rattle.std.proofs.Common.{◌≡◌, drop}
use Rattle.std.specs.List.{list_any}
use Rattle.vcd_text.specs.DumpText.{is_chosen}
use Rattle.vcd_text.proofs.selected.is_any_chosen.Given as goal

abbrev pub invariant-loop-chosen : goal.invariant-loop-chosen
invariant-loop-chosen l =
    list_any (is_chosen l.path) (drop l.chosen-index l.selection) ≡ list_any (is_chosen l.path) l.selection
