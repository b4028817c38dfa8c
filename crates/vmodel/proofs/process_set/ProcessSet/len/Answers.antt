use Rattle.std.proofs.Common.{arith}
use Rattle.vmodel.specs.ProcessSets.{members}
use Rattle.vmodel.proofs.ProcessLemmas.{length-rises}
use Rattle.vmodel.proofs.BitLemmas.{members_rise}
use Rattle.vmodel.proofs.process_set.ProcessSet.len.Goals as goal

pub returns-clause-few : goal.returns-clause-few
returns-clause-few c =
    omega (arith, c.self.invariant, length-rises 0 (members c.self.inside.low c.self.inside.high) (members_rise c.self.inside.low c.self.inside.high) (omega arith))
