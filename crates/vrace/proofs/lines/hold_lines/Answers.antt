use Rattle.std.proofs.Common.{rules, ℕ, List, ◌∙◌, subst}
use Rattle.std.specs.Prelude.{⊤}
use Rattle.byte_sinks.specs.Held.{Appended, held_laws}
use Rattle.byte_sinks.specs.declared.fault.Full.{Full}
use Rattle.lines_text.specs.Sinks.{Takes}
use Rattle.vmachine.specs.Handed.{RunsInto}
use Rattle.vmachine.specs.Runs.{Reaches}
use Rattle.vrace.specs.RunLines.{IsRunLines}
use Rattle.vrace.proofs.LinesLemmas.{held_whole, takes_whole}
use Rattle.vrace.proofs.LinesFrontLemmas.{fresh_front, held_front}
use Rattle.vrace.proofs.lines.hold_lines.Goals as goal

pub run_until_full-requires : goal.run_until_full-requires
run_until_full-requires c = record { here = c.in-Ok.ensures.here c.args.steps }

pub returns-clause-held : goal.returns-clause-held
returns-clause-held c =
    let setting = c.args.machine.now in
    let design = c.new-sink.ensures.design ∙ c.design.ensures in
    let start = fresh_front {F = Full} Appended (λ _ _ _ _. ⊤) held_laws setting c.in-Ok.run' c.new-sink.result c.new-sink.ensures.in_force design c.in-Ok.ensures.waits in
    let reached = subst (Reaches (Takes Appended) setting c.args.steps c.new-sink.result c.run_until_full.new.run c.run_until_full.new.sink) c.in-None.is
    (c.in-Ok-run_until_full.ensures.ends c.new-sink.result start.given) in
    held_front setting c.args.log.now c.args.steps _ c.new-sink.result c.run_until_full.new.sink (c.in-Ok-run_until_full.ensures.log ∙ c.in-Ok.ensures.log)
    c.in-Ok-run_until_full.ensures.here reached.0 reached.1 c.new-sink.ensures.in_force design (c.new-sink.ensures.unwritten ∙ c.new-held.ensures) (search rules) c.into_parts-byte_sink.ensures.in_force

pub returns-in-Some-clause-held : goal.returns-in-Some-clause-held
returns-in-Some-clause-held c =
    let setting = c.args.machine.now in
    let design = c.new-sink.ensures.design ∙ c.design.ensures in
    let start = fresh_front {F = Full} Appended (λ _ _ _ _. ⊤) held_laws setting c.in-Ok.run' c.new-sink.result c.new-sink.ensures.in_force design c.in-Ok.ensures.waits in
    let reached = subst (Reaches (Takes Appended) setting c.args.steps c.new-sink.result c.run_until_full.new.run c.run_until_full.new.sink) c.in-Some.is
    (c.in-Ok-run_until_full.ensures.ends c.new-sink.result start.given) in
    let ended = subst (λ (log : List (ℕ × ℕ)). RunsInto (Takes Appended) setting log c.args.steps c.new-sink.result c.in-Some.end c.run_until_full.new.sink)
    (c.in-Ok-run_until_full.ensures.log ∙ c.in-Ok.ensures.log) reached in
    let text = subst (IsRunLines setting c.args.log.now c.args.steps) (search rules)
    (held_whole setting c.args.log.now c.args.steps c.new-sink.result.byte_sink.now c.run_until_full.new.sink.byte_sink.now (c.new-sink.ensures.unwritten ∙ c.new-held.ensures)
    (takes_whole {F = Full} Appended (λ _ _ _ _. ⊤) held_laws setting c.args.log.now c.args.steps c.new-sink.result c.new-sink.ensures.in_force design
    c.run_until_full.new.sink c.in-Some.end ended)) in
    (text, (ended.0, ended.1))
