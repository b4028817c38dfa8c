use Rattle.report_text.proofs.OneLemmas.{report_one}
use Rattle.report_text.proofs.law.report_text_law.Goals as goal

pub returns : goal.returns
returns c = record { one = report_one }
