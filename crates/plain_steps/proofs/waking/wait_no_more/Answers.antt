use Rattle.std.proofs.Common.{◌∙◌, arith}
use Rattle.plain_steps.specs.InnerNews.{comes}
use Rattle.plain_steps.proofs.NewsLemmas.{awake_turn, awake_all}
use Rattle.plain_steps.proofs.waking.wait_no_more.Goals as goal

pub loop-process-preserved : goal.loop-process-preserved
loop-process-preserved c =
    awake_turn (comes c.args.actions.now c.args.news.now) c.loop-process.process-items c.args.processes.now c.loop-process.process-index _ c.process-item.result
    c.wake_one.new.process c.loop-process-test.true c.loop-process.auto.process-items (omega arith) c.loop-process.invariant c.wake_one.ensures

pub returns : goal.returns
returns c =
    c.loop-process.invariant
    ∙ awake_all (comes c.args.actions.now c.args.news.now) c.loop-process.process-index c.args.processes.now c.loop-process-test.false
