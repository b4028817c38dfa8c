use Rattle.std.proofs.Common.{◌≡◌, ◌++◌, drop}
use Rattle.vexpr_parse.specs.Texts.{words_of}
use Rattle.velab_expr.specs.Inner.{all_chosen}
use Rattle.velab_expr.proofs.select.put_chosen.Given as goal

abbrev pub invariant-loop-path : goal.invariant-loop-path
invariant-loop-path l =
    l.into.items ++ all_chosen (words_of l.tokens) l.levels (drop l.path-index l.paths)
    ≡ l.initial.into.items ++ all_chosen (words_of l.tokens) l.levels l.paths
