use Rattle.std.proofs.Common.{length, sym, ap}
use Rattle.vmodel.proofs.BitLemmas.{members_none}
use Rattle.vmodel.proofs.process_set.ProcessSet.new.Goals as goal

pub invariant_of-result : goal.invariant_of-result
invariant_of-result c = sym (ap length members_none)

pub returns : goal.returns
returns c = members_none
