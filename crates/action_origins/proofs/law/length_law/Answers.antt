use Rattle.action_origins.proofs.LengthLemmas.{are_lengths}
use Rattle.action_origins.proofs.law.length_law.Goals as goal

pub returns : goal.returns
returns c = record { lengths = are_lengths }
