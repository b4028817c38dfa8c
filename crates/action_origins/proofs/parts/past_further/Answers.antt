use Rattle.action_origins.proofs.PastLemmas.{further_passed}
use Rattle.action_origins.proofs.parts.past_further.Goals as goal

pub loop-one-preserved : goal.loop-one-preserved
loop-one-preserved c words =
    further_passed words c.loop-one.left 0 c.loop-one.rest.now c.in-Some.behind.now c.in-Some.one.now c.past_further_term-left.result _
    c.in-Some.ensures.cases.0 (c.past_further_term-left.ensures words) (c.loop-one.invariant words)
