use Rattle.std.proofs.Common.{◌++◌, ◌∙◌, ap, subst, List, ℕ}
use Rattle.basis.proofs.Results.{on_err, on_ok}
use Rattle.byte_sinks.specs.ByteSinks.{Stopped}
use Rattle.byte_sinks.specs.ByteSinkLaws.{stopped_after, stopped_before}
use Rattle.vcd_text.proofs.sink.put_start.Goals as goal

pub returns-in-Ok-clause-ok : goal.returns-in-Ok-clause-ok
returns-in-Ok-clause-ok g c =
    on_ok c.put-in-Ok.result
    (λ p. subst (λ (text : List ℕ). g.O.ByteSink.takes c.args.byte_sink.now text c.put-in-Ok.new.byte_sink)
    (ap (λ (text : List ℕ). c.args.head.now ++ text) c.deref.ensures.value ∙ c.in_ok-text.ensures c.args.head.now)
    (g.met.O.ByteSink.lawful.joins c.args.byte_sink.now c.put.new.byte_sink c.put-in-Ok.new.byte_sink c.args.head.now c.deref.result.now c.in-Ok.ensures.ok p))
    c.put-in-Ok.ensures.ok

pub returns-in-Ok-clause-err : goal.returns-in-Ok-clause-err
returns-in-Ok-clause-err g c =
    on_err c.put-in-Ok.result
    (λ fault p. subst (λ (text : List ℕ). Stopped g.O.ByteSink.takes g.O.ByteSink.fails c.args.byte_sink.now text fault c.put-in-Ok.new.byte_sink)
    (ap (λ (text : List ℕ). c.args.head.now ++ text) c.deref.ensures.value ∙ c.in_ok-text.ensures c.args.head.now)
    (stopped_after g.O.ByteSink.takes g.O.ByteSink.fails g.met.O.ByteSink.lawful c.args.byte_sink.now c.put.new.byte_sink c.put-in-Ok.new.byte_sink c.args.head.now
    c.deref.result.now fault c.in-Ok.ensures.ok p))
    c.put-in-Ok.ensures.err

pub returns-clause-err : goal.returns-clause-err
returns-clause-err g c =
    subst (λ (text : List ℕ). Stopped g.O.ByteSink.takes g.O.ByteSink.fails c.args.byte_sink.now text c.in-Err.fault c.put.new.byte_sink)
    (c.in_ok-text.ensures c.args.head.now)
    (stopped_before g.O.ByteSink.takes g.O.ByteSink.fails g.met.O.ByteSink.lawful c.args.byte_sink.now c.put.new.byte_sink c.args.head.now c.in_ok-text.text.items
    c.in-Err.fault c.in-Err.ensures.err)
