use Rattle.matching.proofs.Kept.{best_is, best_none, one_passed}
use Rattle.matching.proofs.candidates.shortest.Goals as goal

pub loop-state-preserved : goal.loop-state-preserved
loop-state-preserved g c =
    one_passed c.args.candidates.entries c.loop-state.state-iterator c.next.new.self (c.in-Some.state, c.in-Some.way) c.loop-state.best
    c.shorter.result c.loop-state.invariant c.in-Some.ensures.steps c.shorter.ensures

pub returns-clause-shortest : goal.returns-clause-shortest
returns-clause-shortest g c = best_is c.args.candidates.entries c.loop-state.state-iterator c.loop-state.best c.loop-state.invariant
    c.in-None.ensures.steps.0

pub returns-clause-none : goal.returns-clause-none
returns-clause-none g c = best_none c.args.candidates.entries c.loop-state.state-iterator c.loop-state.best c.loop-state.invariant
    c.in-None.ensures.steps.0
