use Rattle.std.proofs.Common.{ap, ◌∙◌}
use Rattle.basis.proofs.Results.{on_ok, on_err}
use Rattle.byte_sinks.specs.MeteredLaws.{stops_of}
use Rattle.trace_text.specs.Traces.{slot_line, end_line}
use Rattle.trace_text.proofs.StepLemmas.{refused_first, stops_at_opening, stops_in_steps, refused_last, stops_at_end, traced}
use Rattle.trace_text.proofs.write.write_trace.Goals as goal

pub returns-in-Err-clause-err : goal.returns-in-Err-clause-err
returns-in-Err-clause-err g c =
    refused_first g.W.Write.contents c.args.machine.now c.args.origins.now c.args.log.now c.args.steps c.args.writer.now c.in-Err.refused

pub returns-in-Err-opening_line-clause-err : goal.returns-in-Err-opening_line-clause-err
returns-in-Err-opening_line-clause-err g c =
    refused_first g.W.Write.contents c.args.machine.now c.args.origins.now c.args.log.now c.args.steps c.args.writer.now c.in-Err-opening_line.refused

pub returns-in-Err-put-clause-err : goal.returns-in-Err-put-clause-err
returns-in-Err-put-clause-err g c =
    let contents = g.W.Write.contents in
    let opening = c.deref.result.now in
    stops_at_opening contents c.args.machine.now c.args.origins.now c.args.log.now c.args.steps c.args.writer.now c.put.new.byte_sink opening
    (c.deref.ensures.value ∙ c.in-Ok-opening_line.ensures ∙ ap slot_line c.in-Ok.ensures) c.in-Err-put.fault
    (stops_of contents c.args.writer.now c.put.new.byte_sink opening c.in-Err-put.fault c.in-Err-put.ensures.err)

pub returns-in-Err-write_steps-clause-err : goal.returns-in-Err-write_steps-clause-err
returns-in-Err-write_steps-clause-err g c =
    stops_in_steps g.W.Write.contents c.args.machine.now c.args.origins.now c.args.log.now c.args.steps c.args.writer.now c.put.new.byte_sink c.deref.result.now
    (c.deref.ensures.value ∙ c.in-Ok-opening_line.ensures ∙ ap slot_line c.in-Ok.ensures) c.in-Ok-put.ensures.ok c.write_steps.new.writer c.in-Err-write_steps.fault
    c.in-Err-write_steps.ensures.err

pub returns-in-Ok-end_line-clause-ok : goal.returns-in-Ok-end_line-clause-ok
returns-in-Ok-end_line-clause-ok g c =
    on_ok c.put-in-Ok-end_line.result
    (traced g.W.Write.contents c.args.machine.now c.args.origins.now c.args.log.now c.args.steps c.args.writer.now c.put.new.byte_sink c.deref.result.now
    (c.deref.ensures.value ∙ c.in-Ok-opening_line.ensures ∙ ap slot_line c.in-Ok.ensures) c.in-Ok-put.ensures.ok c.write_steps.new.state c.write_steps.new.writer
    c.in-Ok-write_steps.ensures.ok c.deref-in-Ok-end_line.result.now
    (c.deref-in-Ok-end_line.ensures.value ∙ c.in-Ok-end_line.ensures ∙ ap end_line c.end.ensures) c.put-in-Ok-end_line.new.byte_sink)
    c.put-in-Ok-end_line.ensures.ok

pub returns-in-Ok-end_line-clause-err : goal.returns-in-Ok-end_line-clause-err
returns-in-Ok-end_line-clause-err g c =
    let contents = g.W.Write.contents in
    let line = c.deref-in-Ok-end_line.result.now in
    on_err c.put-in-Ok-end_line.result
    (λ fault stopped. stops_at_end contents c.args.machine.now c.args.origins.now c.args.log.now c.args.steps c.args.writer.now c.put.new.byte_sink c.deref.result.now
    (c.deref.ensures.value ∙ c.in-Ok-opening_line.ensures ∙ ap slot_line c.in-Ok.ensures) c.in-Ok-put.ensures.ok c.write_steps.new.state c.write_steps.new.writer
    c.in-Ok-write_steps.ensures.ok line
    (c.deref-in-Ok-end_line.ensures.value ∙ c.in-Ok-end_line.ensures ∙ ap end_line c.end.ensures) c.put-in-Ok-end_line.new.byte_sink fault
    (stops_of contents c.write_steps.new.writer c.put-in-Ok-end_line.new.byte_sink line fault stopped))
    c.put-in-Ok-end_line.ensures.err

pub returns-clause-err : goal.returns-clause-err
returns-clause-err g c =
    refused_last g.W.Write.contents c.args.machine.now c.args.origins.now c.args.log.now c.args.steps c.args.writer.now c.put.new.byte_sink c.deref.result.now
    (c.deref.ensures.value ∙ c.in-Ok-opening_line.ensures ∙ ap slot_line c.in-Ok.ensures) c.in-Ok-put.ensures.ok c.write_steps.new.state c.write_steps.new.writer
    c.in-Ok-write_steps.ensures.ok c.in-Err-end_line.refused
