use Rattle.std.proofs.Common.{◌+◌, List, drop, map, ap, sym, ◌∙◌, arith}
use Rattle.std.proofs.lemmas.List.{drop_all}
use Rattle.std.specs.List.{flat_map}
use Rattle.vast.specs.NumberedTrees.{argument_tree}
use Rattle.vast.specs.TreeWords.{argument_words}
use Rattle.vast.specs.declared.statement.Argument.{Argument}
use Rattle.velab_expr.specs.FirstWords.{first_argument}
use Rattle.velab_expr.specs.Rules.{number_in}
use Rattle.velab_expr.proofs.FirstLemmas.{first_later, first_sooner}
use Rattle.velab_expr.proofs.ListLemmas.{drop_at}
use Rattle.velab_expr.proofs.first.first_argument.Goals as goal

pub returns-in-Some : goal.returns-in-Some
returns-in-Some c words =
    sym
    (
    sym (c.loop-one.invariant words)
    ∙ ap (λ (l : List Argument). number_in (first_argument (map (argument_tree words) l))) (drop_at c.args.arguments.now c.loop-one.one-index c.one-item.result c.loop-one-test.true c.one-item.is)
    ∙ first_sooner (argument_words (argument_tree words c.one-item.result)) (flat_map argument_words (map (argument_tree words) (drop (c.loop-one.one-index + 1) c.args.arguments.now))) c.in-Some.at
    (sym (c.first_of.ensures words) ∙ c.in-Some.is)
    )

pub loop-one-preserved : goal.loop-one-preserved
loop-one-preserved c words =
    sym (first_later (argument_words (argument_tree words c.one-item.result)) (flat_map argument_words (map (argument_tree words) (drop (c.loop-one.one-index + 1) c.args.arguments.now)))
    (sym (c.first_of.ensures words) ∙ c.in_default.is))
    ∙ sym (ap (λ (l : List Argument). number_in (first_argument (map (argument_tree words) l))) (drop_at c.args.arguments.now c.loop-one.one-index c.one-item.result c.loop-one-test.true c.one-item.is))
    ∙ c.loop-one.invariant words

pub returns : goal.returns
returns c words =
    sym (ap (λ (l : List Argument). number_in (first_argument (map (argument_tree words) l))) (drop_all c.loop-one.one-index c.args.arguments.now (omega (arith, c.loop-one-test.false))))
    ∙ c.loop-one.invariant words
