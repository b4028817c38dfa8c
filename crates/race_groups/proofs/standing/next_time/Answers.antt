use Rattle.std.proofs.Common.{arith}
use Rattle.race_groups.proofs.StandingLemmas.{copy_width, next_of}
use Rattle.race_groups.proofs.standing.next_time.Goals as goal

pub step-requires : goal.step-requires
step-requires c = copy_width c.args.machine.now c.args.state.now c.in_ok-ahead.ahead c.in_ok-ahead.ensures
    (omega (arith, c.width.ensures, c.if-width-eq0.false))

pub returns : goal.returns
returns c = next_of c.args.machine.now c.args.state.now c.in_ok-ahead.ahead c.step.new.s c.rank.result c.in_ok-ahead.ensures
    (omega (arith, c.width.ensures, c.if-width-eq0.false)) c.in_ok-step.ensures.ok c.rank.ensures
