use Rattle.std.proofs.Common.{◌≡◌, length, map}
use Rattle.vast.specs.NumberedTrees.{further_term}
use Rattle.vexpr_parse.specs.Texts.{words_of}
use Rattle.velab_expr.specs.Answers.{behind}
use Rattle.velab_process.specs.Waits.{lower_further}
use Rattle.velab_process.proofs.wait.put_further.Given as goal

abbrev pub invariant-loop-one : goal.invariant-loop-one
invariant-loop-one l =
    behind l.terms.items (lower_further l.scope (map (further_term (words_of l.tokens)) l.rest))
    ≡ behind l.initial.terms.items (lower_further l.scope (map (further_term (words_of l.tokens)) l.initial.rest))

abbrev pub decreases-loop-one : goal.decreases-loop-one
decreases-loop-one l = length l.rest
