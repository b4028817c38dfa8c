use Rattle.std.proofs.Common.{◌∙◌}
use Rattle.vast.specs.TokenTexts.{texts}
use Rattle.vspell.proofs.StatementFitLemmas.{block_name, case_head}
use Rattle.vspell.proofs.statement_fits.own_parts_fit.Goals as goal

pub returns-in-Block : goal.returns-in-Block
returns-in-Block c =
    c.block_name_fits.ensures ∙ block_name (texts c.args.words.now) c.args.statement.now c.args.below c.in-Block.name c.in-Block.statements c.in-Block.is

pub returns-in-Case : goal.returns-in-Case
returns-in-Case c =
    c.case_fits.ensures
    ∙ case_head (texts c.args.words.now) c.args.statement.now c.args.below c.in-Case.at c.in-Case.kind c.in-Case.value c.in-Case.branches c.in-Case.is
    c.deref-in-Case-2.result.now c.deref-in-Case-2.ensures.value c.deref-in-Case.result.now c.deref-in-Case.ensures
