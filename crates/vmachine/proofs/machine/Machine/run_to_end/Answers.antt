use Rattle.std.proofs.Common.{ℕ, List, subst}
use Rattle.vmachine.specs.Handed.{RunsInto, RunsBySlot}
use Rattle.vmachine.specs.Runs.{Reaches, ReachesBySlot}
use Rattle.vmachine.proofs.machine.Machine.run_to_end.Goals as goal

pub returns-in-Ok-Some-clause-ends : goal.returns-in-Ok-Some-clause-ends
returns-in-Ok-Some-clause-ends g c = λ first start.
    let setting = c.args.self.now in
    let reached : RunsInto g.S.HistorySink.takes setting c.walk.new.run.log.now c.args.steps first c.in-Ok-Some.end c.walk.new.sink =
    subst (Reaches g.S.HistorySink.takes setting c.args.steps first c.walk.new.run c.walk.new.sink) c.in-Ok-Some.field-0-is (c.in-Ok-Some.ensures.ends first start) in
    subst (λ (log : List (ℕ × ℕ)). RunsInto g.S.HistorySink.takes setting log c.args.steps first c.in-Ok-Some.end c.walk.new.sink) c.in-Ok-Some.ensures.log reached

pub returns-in-Ok-Some-clause-slots : goal.returns-in-Ok-Some-clause-slots
returns-in-Ok-Some-clause-slots g c = λ first start.
    let setting = c.args.self.now in
    let reached : RunsBySlot g.S.HistorySink.takes setting c.walk.new.run.log.now c.args.steps first c.in-Ok-Some.end c.walk.new.sink =
    subst (ReachesBySlot g.S.HistorySink.takes setting c.args.steps first c.walk.new.run c.walk.new.sink) c.in-Ok-Some.field-0-is (c.in-Ok-Some.ensures.slots first start) in
    subst (λ (log : List (ℕ × ℕ)). RunsBySlot g.S.HistorySink.takes setting log c.args.steps first c.in-Ok-Some.end c.walk.new.sink) c.in-Ok-Some.ensures.log reached
