use Rattle.vreport.proofs.TruthLemmas.{exploration_true}
use Rattle.vreport.proofs.law.report_law.Goals as goal

pub returns : goal.returns
returns c = record { exploration_is_true = exploration_true }
