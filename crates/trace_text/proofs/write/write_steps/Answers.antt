use Rattle.std.proofs.Common.{◌≡◌, ℕ, List, ◌<◌, ◌≤◌, length, sym, ap, subst, ◌∙◌, arith}
use Rattle.byte_sinks.specs.MeteredLaws.{stops_of}
use Rattle.vdesign.specs.Design.{Design}
use Rattle.vmodel.specs.State.{State}
use Rattle.vmodel.specs.Choices.{choices}
use Rattle.vmodel.specs.Step.{next}
use Rattle.trace_text.specs.Traces.{step_lines}
use Rattle.trace_text.proofs.StepLemmas.{IsToldSo, Ends, begun, halts, ends_at_last, ends_early, told_on, halts_in, of_some, of_none}
use Rattle.trace_text.proofs.write.write_steps.Goals as goal

pub loop-number-init : goal.loop-number-init
loop-number-init g c =
    let contents = g.W.Write.contents in
    let machine = c.args.machine.now in
    let origins = c.args.origins.now in
    let log = c.args.log.now in
    subst (λ (rest : List (ℕ × ℕ)). IsToldSo contents machine origins log c.args.steps c.args.writer.now rest 0 c.args.state.now c.args.writer.now)
    (sym c.members-rest.ensures.list)
    (begun contents machine origins log c.args.steps c.args.writer.now c.args.state.now c.members-rest.ensures.lawful c.requires)

pub returns-in-Ok-None-clause-ok : goal.returns-in-Ok-None-clause-ok
returns-in-Ok-None-clause-ok g c =
    let contents = g.W.Write.contents in
    let machine = c.args.machine.now in
    let origins = c.args.origins.now in
    let log = c.args.log.now in
    let so = c.loop-number in
    let found = c.in-Ok-None.field-0 in
    let taken = c.next_choice-index in
    subst (λ (s : State). Ends contents machine origins log c.args.steps c.args.writer.now s so.writer)
    (sym (of_none found (c.step.new.state ≡ so.state) c.in-Ok-None.field-0-is c.in-Ok-None.ensures.kept))
    (ends_early contents machine origins log c.args.steps c.args.writer.now so.rest.now so.number so.state so.writer so.invariant taken.result.0 taken.result.1.now
    taken.ensures.next (of_none found (length (choices so.state) ≤ taken.result.0) c.in-Ok-None.field-0-is c.in-Ok-None.ensures.none))

pub returns-in-Err-clause-err : goal.returns-in-Err-clause-err
returns-in-Err-clause-err g c =
    let so = c.loop-number in
    halts g.W.Write.contents c.args.machine.now c.args.origins.now c.args.log.now c.args.steps c.args.writer.now so.rest.now so.number so.state so.writer so.invariant
    c.in-Err.refused

pub returns-in-Err-put-clause-err : goal.returns-in-Err-put-clause-err
returns-in-Err-put-clause-err g c =
    let contents = g.W.Write.contents in
    let origins = c.args.origins.now in
    let so = c.loop-number in
    let found = c.in-Ok-Some.field-0 in
    let text = c.in-Ok-Some.text in
    let at = c.in-Ok-Some.field-0-is in
    let taken = c.next_choice-index in
    let design = c.design-design.result.now in
    let index = taken.result.0 in
    halts_in contents c.args.machine.now origins c.args.log.now c.args.steps c.args.writer.now so.rest.now so.number so.state so.writer so.invariant index
    taken.result.1.now taken.ensures.next c.step.new.state c.deref.result.now (omega arith) taken.ensures.lawful
    (of_some found text (λ told. index < length (choices so.state)) at c.in-Ok-Some.ensures.some)
    (of_some found text (λ told. c.step.new.state ≡ (next design so.state index).state) at c.in-Ok-Some.ensures.state
    ∙ ap (λ (d : Design). (next d so.state index).state) c.design-design.ensures)
    (c.deref.ensures.value
    ∙ of_some found text (λ told. told.items ≡ step_lines design origins so.number so.state index) at c.in-Ok-Some.ensures.lines
    ∙ ap (λ (d : Design). step_lines d origins so.number so.state index) c.design-design.ensures)
    c.put.new.byte_sink c.in-Err-put.fault (stops_of contents so.writer c.put.new.byte_sink c.deref.result.now c.in-Err-put.fault c.in-Err-put.ensures.err)

pub loop-number-preserved : goal.loop-number-preserved
loop-number-preserved g c =
    let contents = g.W.Write.contents in
    let origins = c.args.origins.now in
    let so = c.loop-number in
    let found = c.in-Ok-Some.field-0 in
    let text = c.in-Ok-Some.text in
    let at = c.in-Ok-Some.field-0-is in
    let taken = c.next_choice-index in
    let design = c.design-design.result.now in
    let index = taken.result.0 in
    told_on contents c.args.machine.now origins c.args.log.now c.args.steps c.args.writer.now so.rest.now so.number so.state so.writer so.invariant index
    taken.result.1.now taken.ensures.next c.step.new.state c.deref.result.now (omega arith) taken.ensures.lawful
    (of_some found text (λ told. index < length (choices so.state)) at c.in-Ok-Some.ensures.some)
    (of_some found text (λ told. c.step.new.state ≡ (next design so.state index).state) at c.in-Ok-Some.ensures.state
    ∙ ap (λ (d : Design). (next d so.state index).state) c.design-design.ensures)
    (c.deref.ensures.value
    ∙ of_some found text (λ told. told.items ≡ step_lines design origins so.number so.state index) at c.in-Ok-Some.ensures.lines
    ∙ ap (λ (d : Design). step_lines d origins so.number so.state index) c.design-design.ensures)
    c.put.new.byte_sink c.in-Ok.ensures.ok

pub returns-clause-ok : goal.returns-clause-ok
returns-clause-ok g c =
    let so = c.loop-number in
    ends_at_last g.W.Write.contents c.args.machine.now c.args.origins.now c.args.log.now c.args.steps c.args.writer.now so.rest.now so.number so.state so.writer so.invariant
    (omega arith)
