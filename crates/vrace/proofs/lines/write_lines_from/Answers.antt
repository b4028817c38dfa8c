use Rattle.std.proofs.Common.{rules, ℕ, List, OnOk, IfErr, ◌∙◌, sym, subst}
use Rattle.std.proofs.lemmas.Result.{err_from_is_err_and}
use Rattle.byte_sinks.specs.ByteSinks.{Stopped}
use Rattle.vrace.specs.RunLines.{StopsLines, TakesLines}
use Rattle.vrace.proofs.LinesFrontLemmas.{resumed_front, stops_in_front}
use Rattle.vrace.proofs.lines.write_lines_from.Goals as goal

pub returns-in_err-put-clause-err : goal.returns-in_err-put-clause-err
returns-in_err-put-clause-err g c =
    let p = err_from_is_err_and c.from_residual.result c.from_residual.ensures.1 in
    rw (p.1, p.2) (stops_in_front g.O.ByteSink.takes g.O.ByteSink.fails g.met.O.ByteSink.lawful c.args.machine.now c.args.steps c.args.front c.requires.front c.args.byte_sink.now c.put.new.byte_sink
    c.in_err-put.field-0.0 c.requires.ends
    (subst (λ (text : List ℕ). Stopped g.O.ByteSink.takes g.O.ByteSink.fails c.args.byte_sink.now text c.in_err-put.field-0.0 c.put.new.byte_sink) c.text-2.ensures c.in_err-put.ensures.err))

pub returns-clause-ok : goal.returns-clause-ok
returns-clause-ok g c =
    let setting = c.args.machine.now in
    let old = c.args.byte_sink.now in
    let taken = subst (λ new. g.O.ByteSink.takes old c.args.front.text new) (sym c.resume-sink.ensures.unwritten)
    (subst (λ (text : List ℕ). g.O.ByteSink.takes old text c.put.new.byte_sink) c.text-2.ensures c.in_ok-put.ensures.ok) in
    let front = resumed_front g.O.ByteSink.takes g.O.ByteSink.fails g.met.O.ByteSink.lawful setting c.args.steps c.args.front c.requires.front c.resume-sink.result old
    (c.resume-sink.ensures.design ∙ c.design.ensures) c.resume-sink.ensures.in_force taken in
    let same = c.fill_on-result.ensures.same _ front in
    subst (λ new. OnOk c.fill_on-result.result (TakesLines g.O.ByteSink.takes setting c.args.front.run.log.now c.args.steps old new)) (search (rules, same))
    (c.fill_on-result.ensures.ok _ front)

pub returns-clause-err : goal.returns-clause-err
returns-clause-err g c =
    let setting = c.args.machine.now in
    let old = c.args.byte_sink.now in
    let taken = subst (λ new. g.O.ByteSink.takes old c.args.front.text new) (sym c.resume-sink.ensures.unwritten)
    (subst (λ (text : List ℕ). g.O.ByteSink.takes old text c.put.new.byte_sink) c.text-2.ensures c.in_ok-put.ensures.ok) in
    let front = resumed_front g.O.ByteSink.takes g.O.ByteSink.fails g.met.O.ByteSink.lawful setting c.args.steps c.args.front c.requires.front c.resume-sink.result old
    (c.resume-sink.ensures.design ∙ c.design.ensures) c.resume-sink.ensures.in_force taken in
    let same = c.fill_on-result.ensures.same _ front in
    subst (λ new. IfErr c.fill_on-result.result (λ fault. StopsLines g.O.ByteSink.takes g.O.ByteSink.fails setting c.args.front.run.log.now c.args.steps old fault new)) (search (rules, same))
    (c.fill_on-result.ensures.err _ front)
