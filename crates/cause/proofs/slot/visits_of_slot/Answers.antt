use Rattle.std.proofs.Common.{◌≡◌, arith, sym, ap, subst, ◌∙◌, le_refl}
use Rattle.vdesign.specs.Design.{Design}
use Rattle.vmodel.specs.Step.{next}
use Rattle.footprints.specs.Keeping.{Keeps}
use Rattle.footprints.specs.Visits.{seen_by}
use Rattle.cause.proofs.SlotLemmas.{seen_on, stands_so, where_none, where_some}
use Rattle.cause.proofs.slot.visits_of_slot.Goals as goal

pub returns-in_default-clause-none : goal.returns-in_default-clause-none
returns-in_default-clause-none c = where_none _ c.in_default.is c.in_ok-state.ensures.none c.args.steps

pub loop-step-init : goal.loop-step-init
loop-step-init c = record {
  after = le_refl c.args.from;
  so = stands_so c.args.machine.now c.args.members.now c.in-Some.left.now c.args.steps c.args.from c.in-Some.state c.in-Some.kept
      c.apart-earlier.result.1 (where_some _ c.in-Some.is c.in_ok-state.ensures.some) c.apart-earlier.ensures.rest (omega (arith, c.if-from-steps.false));
}

pub loop-step-preserved : goal.loop-step-preserved
loop-step-preserved c =
    let so = c.loop-step in
    let taken = c.next_choice-index in
    let index = taken.result.0 in
    let choice = c.in-Some-going_on.choice in
    let going = where_some _ c.in-Some-going_on.is c.going_on.ensures.some in
    let design_is : c.design-design.result.now ≡ c.args.machine.now.design = c.design-design.ensures in
    record {
      after = omega (arith, so.invariant.after);
      so = seen_on c.args.machine.now c.args.members.now c.args.steps c.args.from so.rest.now so.step so.state so.seen so.invariant.so index taken.result.1.now
          taken.ensures.next choice c.take.new.state c.take.new.seen (sym going.0 ∙ c.choice.ensures.exact) (omega (arith, c.loop-step-test.true))
          taken.ensures.lawful (λ le. going.1) (c.in_ok-take.ensures.state ∙ ap (λ (d : Design). (next d so.state index).state) design_is)
          (subst (λ (d : Design). Keeps c.take.new.state.queue.time c.take.new.seen (seen_by d c.args.from so.step so.state choice (next d so.state index) so.seen)) design_is c.in_ok-take.ensures.seen)
          c.in_ok-take.ensures.few;
    }
