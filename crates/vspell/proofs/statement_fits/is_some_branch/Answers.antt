use Rattle.std.proofs.Common.{not, sym, ap, ◌∙◌}
use Rattle.vspell.proofs.StatementFitLemmas.{some_branches}
use Rattle.vspell.proofs.statement_fits.is_some_branch.Goals as goal

pub returns : goal.returns
returns c words = ap not c.is_empty.ensures ∙ sym (some_branches words c.args.branches.now)
