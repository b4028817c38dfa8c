use Rattle.std.proofs.Common.{ℕ, List, IfOk, IfErr, subst}
use Rattle.basis.specs.declared.memory.OrMemory.TheVariants.{Memory}
use Rattle.vmachine.specs.Handed.{LeavesSink, RunsInto, RunsBySlot}
use Rattle.vmachine.proofs.GivenLemmas.{given_no_slot, given_nothing}
use Rattle.vmachine.proofs.RunProgressLemmas.{left_by, underway_first}
use Rattle.vmachine.proofs.machine.Machine.run_into.Goals as goal

pub returns-in_err-run-clause-left : goal.returns-in_err-run-clause-left
returns-in_err-run-clause-left g c =
    left_by g.S.HistorySink.takes g.S.HistorySink.fails c.args.self.now c.args.log.now c.args.steps c.args.sink.now c.args.sink.now c.from_residual.result (Memory c.in_err-run.field-0.0)
    c.from_residual.ensures.1 (0, 0, underway_first c.args.self.now c.args.log.now c.args.steps, g.met.S.HistorySink.none c.args.sink.now)

pub run_to_end-requires : goal.run_to_end-requires
run_to_end-requires g c = record { here = c.in_ok-run.ensures.here c.args.steps }

pub returns-clause-ends : goal.returns-clause-ends
returns-clause-ends g c =
    subst (λ (log : List (ℕ × ℕ)). IfOk c.run_to_end.result (λ end. RunsInto g.S.HistorySink.takes c.args.self.now log c.args.steps c.args.sink.now end c.run_to_end.new.sink)) c.in_ok-run.ensures.log
    (c.run_to_end.ensures.ends c.args.sink.now (given_nothing g.S.HistorySink.takes g.met.S.HistorySink.none c.args.self.now c.in_ok-run.run' c.in_ok-run.ensures.waits c.args.sink.now))

pub returns-clause-slots : goal.returns-clause-slots
returns-clause-slots g c =
    subst (λ (log : List (ℕ × ℕ)). IfOk c.run_to_end.result (λ end. RunsBySlot g.S.HistorySink.takes c.args.self.now log c.args.steps c.args.sink.now end c.run_to_end.new.sink)) c.in_ok-run.ensures.log
    (c.run_to_end.ensures.slots c.args.sink.now (given_no_slot g.S.HistorySink.takes g.met.S.HistorySink.none c.args.self.now c.in_ok-run.run' c.in_ok-run.ensures.waits c.args.sink.now))

pub returns-clause-left : goal.returns-clause-left
returns-clause-left g c =
    subst (λ (log : List (ℕ × ℕ)). IfErr c.run_to_end.result (λ fault. LeavesSink g.S.HistorySink.takes g.S.HistorySink.fails c.args.self.now log c.args.steps c.args.sink.now fault c.run_to_end.new.sink)) c.in_ok-run.ensures.log
    (c.run_to_end.ensures.left c.args.sink.now (given_nothing g.S.HistorySink.takes g.met.S.HistorySink.none c.args.self.now c.in_ok-run.run' c.in_ok-run.ensures.waits c.args.sink.now))
