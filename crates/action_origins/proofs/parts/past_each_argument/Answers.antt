use Rattle.std.proofs.Common.{List, map, refl}
use Rattle.vast.specs.NumberedTrees.{argument_tree}
use Rattle.vast.specs.declared.statement.Argument.{Argument}
use Rattle.action_origins.specs.Lengths.{argument_length, length_of_each}
use Rattle.action_origins.proofs.PastLemmas.{one_passed, all_passed}
use Rattle.action_origins.proofs.parts.past_each_argument.Goals as goal

pub loop-one-preserved : goal.loop-one-preserved
loop-one-preserved c words =
    one_passed c.args.arguments.now c.loop-one.one-index c.one-item.result c.loop-one-test.true c.one-item.is
    (λ (l : List Argument). length_of_each argument_length (map (argument_tree words) l)) (λ (a : Argument). argument_length (argument_tree words a)) (λ y ys. refl)
    c.loop-one.left c.past_argument.result c.saturating_sub-left.result _ (c.past_argument.ensures words) c.saturating_sub-left.ensures (c.loop-one.invariant words)

pub returns : goal.returns
returns c words =
    all_passed c.args.arguments.now c.loop-one.one-index c.loop-one-test.false (λ (l : List Argument). length_of_each argument_length (map (argument_tree words) l)) refl
    c.loop-one.left _ (c.loop-one.invariant words)
