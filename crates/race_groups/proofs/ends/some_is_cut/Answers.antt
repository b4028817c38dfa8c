use Rattle.std.proofs.Common.{arith}
use Rattle.race_groups.proofs.SumLemmas.{all_uncut}
use Rattle.race_groups.proofs.ends.some_is_cut.Goals as goal

pub returns : goal.returns
returns c = λ none. all_uncut c.args.machine.now c.args.ends.now c.loop-found.found-index
    (omega (arith, c.loop-found-test.false)) c.loop-found.invariant
