use Rattle.std.proofs.Common.{◌≡◌, ◌+◌, [], arith, refl, sym, ap, subst, ◌∙◌}
use Rattle.sched_core.proofs.RunLemmas.{default_at_none}
use Rattle.vdesign.specs.Design.{Design}
use Rattle.vmodel.specs.Step.{next}
use Rattle.vmodel.specs.Run.{Setting}
use Rattle.cause.specs.Checkpoints.{IsCheckpoint}
use Rattle.footprints.specs.Keeping.{Keeps}
use Rattle.footprints.specs.Visits.{seen_by}
use Rattle.cause.proofs.CheckpointLemmas.{left_from}
use Rattle.cause.proofs.SlotLemmas.{begins_behind, begun, goes_on}
use Rattle.cause.proofs.checkpoints.Checkpoints.extend.Goals as goal

pub loop-step-init : goal.loop-step-init
loop-step-init c =
    let found = c.in_ok-first.field-0 in
    record {
      same = refl;
      there = begun c.args.self.now [] c.args.to c.args.to found.step [] found.state found.seen c.in_ok-first.ensures.is (left_from found.step [] tt)
          c.in_ok-first.ensures.before c.in_ok-first.ensures.before;
    }

pub put_if_begun-requires : goal.put_if_begun-requires
put_if_begun-requires c = λ ends.
    let so = c.loop-step in
    let setting = c.args.self.now in
    let choice = c.in-Some.choice in
    let design_is : c.design-design.result.now ≡ setting.design = c.design-design.ensures ∙ ap (λ (s : Setting). s.design) (c.machine.ensures ∙ so.invariant.same) in
    subst (λ (s : Setting). IsCheckpoint s (record { step = so.step + 1; state = c.take.new.state; seen = c.take.new.seen })) (sym so.invariant.same)
    (begins_behind setting [] [] [] c.args.to so.step 0 so.state c.take.new.state so.seen c.take.new.seen choice so.invariant.there (default_at_none so.step [] refl) tt
    (sym c.in-Some.is ∙ c.choice.ensures.exact) (omega (arith, c.loop-step-test.true))
    (c.in_ok-take.ensures.state ∙ ap (λ (d : Design). (next d so.state 0).state) design_is)
    (subst (λ (d : Design). Keeps c.take.new.state.queue.time c.take.new.seen (seen_by d c.args.to so.step so.state choice (next d so.state 0) so.seen)) design_is c.in_ok-take.ensures.seen)
    c.in_ok-take.ensures.few ends)

pub loop-step-preserved : goal.loop-step-preserved
loop-step-preserved c =
    let so = c.loop-step in
    let setting = c.args.self.now in
    let choice = c.in-Some.choice in
    let design_is : c.design-design.result.now ≡ setting.design = c.design-design.ensures ∙ ap (λ (s : Setting). s.design) (c.machine.ensures ∙ so.invariant.same) in
    record {
      same = c.put_if_begun.ensures ∙ so.invariant.same;
      there = goes_on setting [] [] [] c.args.to so.step 0 so.state c.take.new.state so.seen c.take.new.seen choice so.invariant.there (default_at_none so.step [] refl) tt
          (sym c.in-Some.is ∙ c.choice.ensures.exact) (omega (arith, c.loop-step-test.true))
          (c.in_ok-take.ensures.state ∙ ap (λ (d : Design). (next d so.state 0).state) design_is)
          (subst (λ (d : Design). Keeps c.take.new.state.queue.time c.take.new.seen (seen_by d c.args.to so.step so.state choice (next d so.state 0) so.seen)) design_is c.in_ok-take.ensures.seen)
          c.in_ok-take.ensures.few;
    }
