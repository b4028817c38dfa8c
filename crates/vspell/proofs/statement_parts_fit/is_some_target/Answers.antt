use Rattle.std.proofs.Common.{not, sym, ap, ◌∙◌}
use Rattle.vspell.proofs.StatementFitLemmas.{some_targets}
use Rattle.vspell.proofs.statement_parts_fit.is_some_target.Goals as goal

pub returns : goal.returns
returns c words = ap not c.is_empty.ensures ∙ sym (some_targets words c.args.targets.now)
