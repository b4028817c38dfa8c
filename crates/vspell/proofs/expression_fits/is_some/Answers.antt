use Rattle.std.proofs.Common.{not, sym, ap, ◌∙◌}
use Rattle.vspell.proofs.FitLemmas.{some_parts}
use Rattle.vspell.proofs.expression_fits.is_some.Goals as goal

pub returns : goal.returns
returns c words = ap not c.is_empty.ensures ∙ sym (some_parts words c.args.parts.now)
