use Rattle.std.proofs.Common.{◌≡◌, ℕ, arith, sym, ap, subst, ◌∙◌, le_refl}
use Rattle.vdesign.specs.Design.{Design}
use Rattle.vmodel.specs.Step.{next}
use Rattle.cause.specs.Checkpoints.{IsCheckpointOf}
use Rattle.footprints.specs.Keeping.{Keeps}
use Rattle.footprints.specs.Visits.{seen_by}
use Rattle.cause.proofs.SlotLemmas.{begun, begins_behind, goes_on, stops}
use Rattle.cause.proofs.along.nearest_to.Goals as goal

pub loop-step-init : goal.loop-step-init
loop-step-init c =
    let setting = c.args.machine.now in
    let members = c.args.members.now in
    let start = c.args.start in
    let copied = c.in_ok-state.field-0 in
    let is : IsCheckpointOf setting members (record { step = start.step; state = copied.state; seen = copied.seen }) =
    subst (λ (n : ℕ). IsCheckpointOf setting members (record { step = n; state = copied.state; seen = copied.seen })) c.in_ok-state.ensures.step
    (c.in_ok-state.ensures.is setting members c.requires.start) in
    record {
      so = begun setting members c.args.to c.args.to start.step c.left_at-rest.result.now copied.state copied.seen is c.left_at-rest.ensures
          c.requires.before c.requires.before;
      is = c.requires.start;
      before = le_refl start.step;
    }

pub returns-in_default-clause-none : goal.returns-in_default-clause-none
returns-in_default-clause-none c = λ n lt run.
    let so = c.loop-step in
    let taken = c.next_choice-index in
    stops c.args.machine.now c.args.members.now so.rest.now taken.result.1.now c.args.to c.args.to so.step taken.result.0 so.state so.seen so.invariant.so
    taken.ensures.next (sym c.choice.ensures.exact ∙ c.in_default.is) n (omega (arith, lt, c.loop-step-test.true)) run

pub loop-step-preserved : goal.loop-step-preserved
loop-step-preserved c =
    let so = c.loop-step in
    let setting = c.args.machine.now in
    let members = c.args.members.now in
    let taken = c.next_choice-index in
    let index = taken.result.0 in
    let choice = c.in-Some.choice in
    let design_is : c.design-design.result.now ≡ setting.design = c.design-design.ensures in
    let found = sym c.in-Some.is ∙ c.choice.ensures.exact in
    let is = c.in_ok-take.ensures.state ∙ ap (λ (d : Design). (next d so.state index).state) design_is in
    let sees = subst (λ (d : Design). Keeps c.take.new.state.queue.time c.take.new.seen (seen_by d c.args.to so.step so.state choice (next d so.state index) so.seen)) design_is c.in_ok-take.ensures.seen in
    record {
      so = goes_on setting members so.rest.now taken.result.1.now c.args.to so.step index so.state c.take.new.state so.seen c.take.new.seen choice so.invariant.so
          taken.ensures.next taken.ensures.lawful found c.loop-step-test.true is sees c.in_ok-take.ensures.few;
      is = c.in_ok-newest.ensures.is setting members so.invariant.is
          (begins_behind setting members so.rest.now taken.result.1.now c.args.to so.step index so.state c.take.new.state so.seen c.take.new.seen choice so.invariant.so
          taken.ensures.next taken.ensures.lawful found c.loop-step-test.true is sees c.in_ok-take.ensures.few);
      before = c.in_ok-newest.ensures.before (omega (arith, so.invariant.before));
    }
