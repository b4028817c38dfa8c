use Rattle.explore.proofs.RankMarksLemmas.{all_there, one_more}
use Rattle.explore.proofs.rank_marks.found_marks.Goals as goal

pub loop-state-init : goal.loop-state-init
loop-state-init g c = rw c.in_ok-found.ensures.items c.into_iter-state-iterator.ensures.into_iter_gives.0

pub loop-state-preserved : goal.loop-state-preserved
loop-state-preserved g c =
    one_more c.loop-state.found.items c.push.new.self.items c.loop-state.state-iterator c.next.new.self c.args.marks.entries (record { state = c.in-Some.state; log = c.in-Some.log })
    c.loop-state.invariant c.in-Some.ensures.steps c.in_ok-push.ensures.items

pub returns : goal.returns
returns g c = all_there c.loop-state.found.items c.loop-state.state-iterator c.args.marks.entries c.loop-state.invariant c.in-None.ensures.steps.0
