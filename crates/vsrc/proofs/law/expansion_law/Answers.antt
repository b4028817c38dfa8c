use Rattle.vsrc.proofs.Placed.{each_placed}
use Rattle.vsrc.proofs.law.expansion_law.Goals as goal

pub returns : goal.returns
returns c = record { places = each_placed }
