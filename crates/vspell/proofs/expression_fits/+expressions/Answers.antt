use Rattle.std.proofs.Common.{◌-◌, ◌&&◌, ap, ◌∙◌}
use Rattle.vast.specs.TokenTexts.{texts}
use Rattle.vast.specs.ExpressionTrees.{trees_of}
use Rattle.vspell.specs.Within.{all_stand}
use Rattle.vspell.proofs.FitLemmas.{goes_on, ends_here, concatenation_stands, replication_stands}
use Rattle.vspell.proofs.expression_fits.+expressions.Goals as goal

pub expression_stands-returns-then-is_some : goal.expression_stands-returns-then-is_some
expression_stands-returns-then-is_some t c =
    let words = texts c.args.words.now in
    goes_on c.is_some.result c.parts_stand.result c.if-is_some.true
    ∙ (λ i. c.is_some.ensures words i && c.parts_stand.ensures i)
    ∙ concatenation_stands words c.args.levels c.if-levels-eq0.false c.args.expression.now c.in-Concatenation.at c.in-Concatenation.parts
    _ _ c.in-Concatenation.is c.deref-in-Concatenation.ensures.value c.deref-then-is_some.ensures.value

pub expression_stands-returns-else-is_some : goal.expression_stands-returns-else-is_some
expression_stands-returns-else-is_some t c =
    let words = texts c.args.words.now in
    let items = c.deref-in-Concatenation.result.now in
    ends_here c.is_some.result (all_stand (c.args.levels - 1) (trees_of words items)) c.if-is_some.false
    ∙ ap (λ b. b && all_stand (c.args.levels - 1) (trees_of words items)) (c.is_some.ensures words)
    ∙ concatenation_stands words c.args.levels c.if-levels-eq0.false c.args.expression.now c.in-Concatenation.at c.in-Concatenation.parts
    items items c.in-Concatenation.is c.deref-in-Concatenation.ensures.value c.deref-in-Concatenation.ensures.value

pub expression_stands-returns-then-is_some-2 : goal.expression_stands-returns-then-is_some-2
expression_stands-returns-then-is_some-2 t c =
    let words = texts c.args.words.now in
    goes_on c.is_some-then-expression_stands-2.result c.parts_stand-then-is_some-2.result c.if-is_some-2.true
    ∙ goes_on c.expression_stands-in-Replication.result _ c.if-expression_stands-2.true
    ∙ (λ i. c.expression_stands-in-Replication.ensures i && (c.is_some-then-expression_stands-2.ensures words i && c.parts_stand-then-is_some-2.ensures i))
    ∙ replication_stands words c.args.levels c.if-levels-eq0.false c.args.expression.now c.in-Replication.at c.in-Replication.count
    c.in-Replication.parts c.deref-in-Replication.result.now _ _ c.in-Replication.is c.deref-in-Replication.ensures
    c.deref-then-expression_stands-2.ensures.value c.deref-then-is_some-2.ensures.value

pub expression_stands-returns-else-is_some-2 : goal.expression_stands-returns-else-is_some-2
expression_stands-returns-else-is_some-2 t c =
    let words = texts c.args.words.now in
    let items = c.deref-then-expression_stands-2.result.now in
    let all = all_stand (c.args.levels - 1) (trees_of words items) in
    ends_here c.is_some-then-expression_stands-2.result all c.if-is_some-2.false
    ∙ goes_on c.expression_stands-in-Replication.result _ c.if-expression_stands-2.true
    ∙ (λ i. c.expression_stands-in-Replication.ensures i && (c.is_some-then-expression_stands-2.ensures words i && all))
    ∙ replication_stands words c.args.levels c.if-levels-eq0.false c.args.expression.now c.in-Replication.at c.in-Replication.count
    c.in-Replication.parts c.deref-in-Replication.result.now items items c.in-Replication.is c.deref-in-Replication.ensures
    c.deref-then-expression_stands-2.ensures.value c.deref-then-expression_stands-2.ensures.value
