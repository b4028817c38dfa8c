use Rattle.std.proofs.Common.{sym, ◌∙◌}
use Rattle.report_check.proofs.ShownLemmas.{same_members}
use Rattle.report_check.proofs.shown.are_equal.Goals as goal

pub returns : goal.returns
returns c = λ said. sym c.members.ensures.list ∙ same_members c.members.result.now c.members-2.result.now (sym c.eq.ensures ∙ said) ∙ c.members-2.ensures.list
