use Rattle.std.proofs.Common.{◌≡◌, List, drop, map}
use Rattle.vast.specs.NumberedTrees.{argument_tree}
use Rattle.vwords.specs.Words.{Text}
use Rattle.velab_expr.specs.FirstWords.{first_argument}
use Rattle.velab_expr.specs.Rules.{number_in}
use Rattle.velab_expr.proofs.first.first_argument.Given as goal

abbrev pub invariant-loop-one : goal.invariant-loop-one
invariant-loop-one l = (words : List Text) →
    number_in (first_argument (map (argument_tree words) (drop l.one-index l.arguments))) ≡ number_in (first_argument (map (argument_tree words) l.arguments))
