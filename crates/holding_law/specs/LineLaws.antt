-- *internal*: What holds of bags of lines, in every state of the runs of every setting; `holding_law` proves it.
use Rattle.std.specs.Prelude.{◌≡◌, ℕ, List, []}
use Rattle.sched_core.specs.Bags.{with_line, lines_of, pieces_of, with_text}
use Rattle.sched_core.specs.Rules.{IsRun}
use Rattle.sched_core.specs.declared.setting.Looked.TheVariants.{Lines}
use Rattle.vmodel.specs.Run.{Setting, rules_of, state_after, items_after}
use Rattle.holding_law.specs.SlotLines.{HasSlotLines}

-- in which order lines are put into a bag doesn't count
abbrev pub IsUnordered : Type 0
IsUnordered = (a b : List ℕ) (bag : List (List ℕ)) → with_line a (with_line b bag) ≡ with_line b (with_line a bag)

-- nor does the order in which texts of whole lines are printed, where no piece is there
abbrev pub PrintsUnordered : Type 0
PrintsUnordered = (a b : List ℕ) (bag : List (List ℕ)) → pieces_of (lines_of a) ≡ [] → pieces_of (lines_of b) ≡ [] → pieces_of bag ≡ [] →
    with_text a (with_text b bag) ≡ with_text b (with_text a bag)

-- in each state of a run where lines are looked at, at slot ends and on the way to them
abbrev pub HoldsSlotLines : Type 0
HoldsSlotLines = (setting : Setting) (log : List (ℕ × ℕ)) (n : ℕ) → setting.looked ≡ Lines → IsRun (rules_of setting) log n →
    HasSlotLines (state_after setting log n) (items_after setting log n)
