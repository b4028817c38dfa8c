use Rattle.std.proofs.Common.{◌≡◌, List, drop}
use Rattle.vast.specs.NumberedTrees.{trees_of}
use Rattle.vwords.specs.Words.{Text}
use Rattle.velab_expr.specs.FirstWords.{first_among}
use Rattle.velab_expr.specs.Rules.{number_in}
use Rattle.velab_expr.proofs.first.+first_expressions.Given as goal

abbrev pub invariant-first_among-loop-one : goal.invariant-first_among-loop-one
invariant-first_among-loop-one l = (words : List Text) →
    number_in (first_among (trees_of words (drop l.one-index l.parts))) ≡ number_in (first_among (trees_of words l.parts))
