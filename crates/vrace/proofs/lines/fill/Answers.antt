use Rattle.std.proofs.Common.{ℕ, List, IfErr, OnOk, refl, sym, subst}
use Rattle.basis.specs.declared.memory.OrMemory.TheVariants.{Memory}
use Rattle.vreport.proofs.FrontLemmas.{of_fault}
use Rattle.vrace.specs.RunLines.{HasEnd, StopsLines, TakesLines}
use Rattle.vrace.proofs.LinesFrontLemmas.{fresh_front, stops_unbegun}
use Rattle.vrace.proofs.lines.fill.Goals as goal

pub returns-in_err-run-clause-err : goal.returns-in_err-run-clause-err
returns-in_err-run-clause-err g c =
    of_fault (λ fault. StopsLines g.O.ByteSink.takes g.O.ByteSink.fails c.args.machine.now c.args.log.now c.args.steps c.args.sink.now.byte_sink.now fault c.args.sink.now.byte_sink.now)
    c.from_residual.result (Memory c.in_err-run.field-0.0) c.from_residual.ensures.1
    (stops_unbegun g.O.ByteSink.takes g.O.ByteSink.fails g.met.O.ByteSink.lawful c.args.machine.now c.args.log.now c.args.steps c.args.sink.now.byte_sink.now c.in_err-run.field-0.0 c.requires.ends)

pub fill_on-requires : goal.fill_on-requires
fill_on-requires g c = record {
  here = c.in_ok-run.ensures.here c.args.steps;
  ends = subst (λ (log : List (ℕ × ℕ)). HasEnd c.args.machine.now log c.args.steps) (sym c.in_ok-run.ensures.log) c.requires.ends;
}

pub returns-clause-ok : goal.returns-clause-ok
returns-clause-ok g c =
    subst (λ (log : List (ℕ × ℕ)). OnOk c.fill_on.result (TakesLines g.O.ByteSink.takes c.args.machine.now log c.args.steps c.args.sink.now.byte_sink.now c.fill_on.new.sink.byte_sink.now)) c.in_ok-run.ensures.log
    (c.fill_on.ensures.ok c.args.sink.now (fresh_front g.O.ByteSink.takes g.O.ByteSink.fails g.met.O.ByteSink.lawful c.args.machine.now c.in_ok-run.run' c.args.sink.now c.requires.fresh c.requires.design c.in_ok-run.ensures.waits))

pub returns-clause-err : goal.returns-clause-err
returns-clause-err g c =
    subst (λ (log : List (ℕ × ℕ)). IfErr c.fill_on.result (λ fault. StopsLines g.O.ByteSink.takes g.O.ByteSink.fails c.args.machine.now log c.args.steps c.args.sink.now.byte_sink.now fault c.fill_on.new.sink.byte_sink.now)) c.in_ok-run.ensures.log
    (c.fill_on.ensures.err c.args.sink.now (fresh_front g.O.ByteSink.takes g.O.ByteSink.fails g.met.O.ByteSink.lawful c.args.machine.now c.in_ok-run.run' c.args.sink.now c.requires.fresh c.requires.design c.in_ok-run.ensures.waits))

pub returns-in_err-run-clause-same : goal.returns-in_err-run-clause-same
returns-in_err-run-clause-same g c = (refl, refl)

pub returns-clause-same : goal.returns-clause-same
returns-clause-same g c =
    c.fill_on.ensures.same c.args.sink.now (fresh_front g.O.ByteSink.takes g.O.ByteSink.fails g.met.O.ByteSink.lawful c.args.machine.now c.in_ok-run.run' c.args.sink.now c.requires.fresh c.requires.design c.in_ok-run.ensures.waits)
