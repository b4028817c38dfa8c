use Rattle.std.proofs.Common.{◌∙◌, ap, subst, List, OnOk, IfErr}
use Rattle.basis.proofs.Results.{on_err, on_ok}
use Rattle.vmodel.specs.declared.history.Item.{Item}
use Rattle.vmodel.specs.History.{History}
use Rattle.sched_core.specs.declared.end.End.{End}
use Rattle.byte_sinks.specs.ByteSinks.{Stopped}
use Rattle.vcd_text.specs.Sinks.{end_text, Takes, Fails}
use Rattle.vcd_text.specs.DumpLaws.{completes, stops_completing, stops_taking}
use Rattle.history_dump.proofs.write.fill.Goals as goal

pub returns-in-Ok : goal.returns-in-Ok
returns-in-Ok g c =
    let byte_sink = c.take.new.self.byte_sink.now in
    let after = c.finish.new.self.byte_sink.now in
    let is_items = c.deref.ensures.value ∙ ap (λ (h : History). h.items) c.history.view_is in
    let taken : Takes g.O.ByteSink.takes c.args.sink.now c.args.history.now.items c.take.new.self =
    subst (λ (xs : List Item). Takes g.O.ByteSink.takes c.args.sink.now xs c.take.new.self) is_items c.in-Ok.ensures.ok in
    let ended = ap (λ (h : History). h.end) c.history.view_is in
    record {
      same = (c.finish.ensures.same.0 ∙ taken.0.0, c.finish.ensures.same.1 ∙ taken.0.1);
      ok = on_ok c.finish.result
          (completes g.O.ByteSink.takes g.O.ByteSink.fails g.met.O.ByteSink.lawful c.args.sink.now c.args.history.now c.requires c.take.new.self after taken)
          (subst (λ (e : End). OnOk c.finish.result (g.O.ByteSink.takes byte_sink (end_text c.take.new.self.progress e.time) after)) ended c.finish.ensures.ok);
      err = on_err c.finish.result
          (λ fault. stops_completing g.O.ByteSink.takes g.O.ByteSink.fails g.met.O.ByteSink.lawful c.args.sink.now c.args.history.now c.requires c.take.new.self
          after fault taken)
          (subst (λ (e : End). IfErr c.finish.result (λ fault. Stopped g.O.ByteSink.takes g.O.ByteSink.fails byte_sink (end_text c.take.new.self.progress e.time)
          fault after)) ended c.finish.ensures.err);
    }

pub returns-in-Err : goal.returns-in-Err
returns-in-Err g c =
    let is_items = c.deref.ensures.value ∙ ap (λ (h : History). h.items) c.history.view_is in
    let failed : Fails g.O.ByteSink.takes g.O.ByteSink.fails c.args.sink.now c.args.history.now.items c.in-Err.fault c.take.new.self =
    subst (λ (xs : List Item). Fails g.O.ByteSink.takes g.O.ByteSink.fails c.args.sink.now xs c.in-Err.fault c.take.new.self) is_items c.in-Err.ensures.err in
    record {
      same = failed.0;
      ok = tt;
      err = stops_taking g.O.ByteSink.takes g.O.ByteSink.fails g.met.O.ByteSink.lawful c.args.sink.now c.args.history.now c.requires c.take.new.self c.in-Err.fault
          failed;
    }
