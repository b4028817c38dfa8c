use Rattle.std.proofs.Common.{◌∙◌, sym}
use Rattle.workpool.specs.Inner.Works.{IsSamePlace}
use Rattle.workpool.proofs.WorkLemmas.{counted_hearing, hearing, same_hearing, same_itself, same_twice, seated_same}
use Rattle.workpool.proofs.worker.run_worker.Given.{Over}
use Rattle.workpool.proofs.worker.run_worker.Goals as goal
use Rattle.workpool.proofs.worker.run_worker.Goals.{After-next_job}

pub loop-init : goal.loop-init
loop-init g c = record { ready = c.requires.ready; same = same_itself c.args.work.now }

pub returns-then-is_over-clause-ready : goal.returns-then-is_over-clause-ready
returns-then-is_over-clause-ready g c = record {
  seated = seated_same c.args.tally.now c.loop.work (hearing c.loop.work c.is_over.new.seat) c.loop.invariant.ready.seated (same_hearing c.loop.work c.is_over.new.seat c.is_over.ensures);
  counted = counted_hearing 0 c.loop.work c.is_over.new.seat c.is_over.ensures c.loop.invariant.ready.counted;
  told = c.loop.invariant.ready.told;
}

pub returns-then-is_over-clause-same : goal.returns-then-is_over-clause-same
returns-then-is_over-clause-same g c =
    same_twice c.args.work.now c.loop.work (hearing c.loop.work c.is_over.new.seat) c.loop.invariant.same (same_hearing c.loop.work c.is_over.new.seat c.is_over.ensures)

pub next_job-requires : goal.next_job-requires
next_job-requires g c = counted_hearing 0 c.loop.work c.is_over.new.seat c.is_over.ensures c.loop.invariant.ready.counted

-- the worker is at its place, whatever it heard and took
took : (g : Over) (c : After-next_job g) → IsSamePlace c.loop.work c.next_job.new.work
took g c = same_twice c.loop.work (hearing c.loop.work c.is_over.new.seat) c.next_job.new.work (same_hearing c.loop.work c.is_over.new.seat c.is_over.ensures) c.next_job.ensures.same

pub run_job-requires-clause-seated : goal.run_job-requires-clause-seated
run_job-requires-clause-seated g c = λ κs h.
    seated_same c.args.tally.now c.loop.work c.next_job.new.work c.loop.invariant.ready.seated (took g (goal.at.run_job-requires-clause-seated g c).After-next_job)

pub run_job-requires-clause-told : goal.run_job-requires-clause-told
run_job-requires-clause-told g c = λ κs h t. c.loop.invariant.ready.told (sym c.next_job.ensures.past ∙ t)

pub loop-preserved-in-Some-next_job : goal.loop-preserved-in-Some-next_job
loop-preserved-in-Some-next_job g c =
    let to = same_twice c.loop.work c.next_job.new.work c.run_job.new.work (took g (goal.at.loop-preserved-in-Some-next_job g c).After-next_job) c.run_job.ensures.same in
    record {
      ready = record { seated = seated_same c.args.tally.now c.loop.work c.run_job.new.work c.loop.invariant.ready.seated to; counted = c.run_job.ensures.counted; told = c.run_job.ensures.told };
      same = same_twice c.args.work.now c.loop.work c.run_job.new.work c.loop.invariant.same to;
    }

pub loop-preserved : goal.loop-preserved
loop-preserved g c =
    let to = took g (goal.at.loop-preserved g c).After-next_job in
    record {
      ready = record {
        seated = seated_same c.args.tally.now c.loop.work c.next_job.new.work c.loop.invariant.ready.seated to;
        counted = c.in-None-next_job.ensures.none;
        told = λ t. c.loop.invariant.ready.told (sym c.next_job.ensures.past ∙ t);
      };
      same = same_twice c.args.work.now c.loop.work c.next_job.new.work c.loop.invariant.same to;
    }
