use Rattle.std.proofs.Common.{◌-◌, ◌&&◌, ◌∙◌}
use Rattle.vast.specs.TokenTexts.{texts}
use Rattle.vast.specs.StatementTrees.{statement_tree}
use Rattle.vspell.proofs.FitLemmas.{goes_on, ends_here}
use Rattle.vspell.proofs.StatementFitLemmas.{parts_stand, block_inner, case_inner}
use Rattle.vspell.specs.Within.{inner_stands}
use Rattle.vspell.proofs.statement_fits.+statements.Goals as goal

pub statement_stands-returns-then-own_parts_fit : goal.statement_stands-returns-then-own_parts_fit
statement_stands-returns-then-own_parts_fit t c =
    goes_on c.own_parts_fit.result c.inner_statements_stand.result c.if-own_parts_fit.true
    ∙ (λ i. c.own_parts_fit.ensures i && c.inner_statements_stand.ensures i)
    ∙ parts_stand c.args.levels (statement_tree (texts c.args.words.now) c.args.statement.now) c.if-levels-eq0.false

pub statement_stands-returns-else-own_parts_fit : goal.statement_stands-returns-else-own_parts_fit
statement_stands-returns-else-own_parts_fit t c =
    let tree = statement_tree (texts c.args.words.now) c.args.statement.now in
    ends_here c.own_parts_fit.result (inner_stands (c.args.levels - 1) tree) c.if-own_parts_fit.false
    ∙ (λ i. c.own_parts_fit.ensures i && inner_stands (c.args.levels - 1) tree)
    ∙ parts_stand c.args.levels tree c.if-levels-eq0.false

pub inner_statements_stand-returns-in-Block : goal.inner_statements_stand-returns-in-Block
inner_statements_stand-returns-in-Block t c =
    c.statements_stand.ensures
    ∙ block_inner (texts c.args.words.now) c.args.statement.now c.args.below c.in-Block.name c.in-Block.statements c.deref.result.now c.in-Block.is
    c.deref.ensures.value

pub inner_statements_stand-returns-in-Case : goal.inner_statements_stand-returns-in-Case
inner_statements_stand-returns-in-Case t c =
    c.branches_stand.ensures
    ∙ case_inner (texts c.args.words.now) c.args.statement.now c.args.below c.in-Case.at c.in-Case.kind c.in-Case.value c.in-Case.branches c.in-Case.is
    c.deref-in-Case.result.now c.deref-in-Case.ensures.value
