use Rattle.std.proofs.Common.{◌≡◌, ◌++◌, drop}
use Rattle.vast.specs.NumberedTrees.{trees_of}
use Rattle.vexpr_parse.specs.Texts.{words_of}
use Rattle.velab_process.specs.Waits.{any_of, names_in_parts}
use Rattle.velab_process.proofs.wait.+naming.Given as goal

abbrev pub invariant-put_part_names-loop-one : goal.invariant-put_part_names-loop-one
invariant-put_part_names-loop-one l =
    l.terms.items ++ any_of l.scope (names_in_parts (trees_of (words_of l.tokens) (drop l.one-index l.parts)))
    ≡ l.initial.terms.items ++ any_of l.scope (names_in_parts (trees_of (words_of l.tokens) l.parts))
