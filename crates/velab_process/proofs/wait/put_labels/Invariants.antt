use Rattle.std.proofs.Common.{◌≡◌, ◌++◌, drop}
use Rattle.vast.specs.NumberedTrees.{trees_of}
use Rattle.vexpr_parse.specs.Texts.{words_of}
use Rattle.velab_process.specs.Waits.{any_of, read_by_items}
use Rattle.velab_process.proofs.wait.put_labels.Given as goal

abbrev pub invariant-loop-label : goal.invariant-loop-label
invariant-loop-label l =
    l.terms.items ++ any_of l.scope (read_by_items (trees_of (words_of l.tokens) (drop l.label-index l.labels)))
    ≡ l.initial.terms.items ++ any_of l.scope (read_by_items (trees_of (words_of l.tokens) l.labels))
