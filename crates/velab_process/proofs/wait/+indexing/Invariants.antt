use Rattle.std.proofs.Common.{◌≡◌, ◌++◌, drop}
use Rattle.vast.specs.NumberedTrees.{target_trees}
use Rattle.vexpr_parse.specs.Texts.{words_of}
use Rattle.velab_process.specs.Waits.{any_of, read_by_targets}
use Rattle.velab_process.proofs.wait.+indexing.Given as goal

abbrev pub invariant-put_targets-loop-one : goal.invariant-put_targets-loop-one
invariant-put_targets-loop-one l =
    l.terms.items ++ any_of l.scope (read_by_targets (target_trees (words_of l.tokens) (drop l.one-index l.targets)))
    ≡ l.initial.terms.items ++ any_of l.scope (read_by_targets (target_trees (words_of l.tokens) l.targets))
