use Rattle.std.proofs.Common.{◌≡◌, arith, sym, ap, subst, ◌∙◌, le_refl}
use Rattle.vdesign.specs.Design.{Design}
use Rattle.vmodel.specs.Step.{next}
use Rattle.footprints.specs.Keeping.{Keeps}
use Rattle.footprints.specs.Visits.{seen_by}
use Rattle.cause.proofs.SlotLemmas.{begins, begun, begin_on, ended, so_on, stands_there}
use Rattle.cause.proofs.slot.before_step.Goals as goal

pub loop-step-init : goal.loop-step-init
loop-step-init c =
    let start = c.args.start in
    record {
      begin = begins c.args.machine.now c.args.members.now start c.requires.start;
      so = begun c.args.machine.now c.args.members.now c.args.from start.step start.step c.left_at-rest.result.now start.state start.seen c.requires.start
          c.left_at-rest.ensures (le_refl start.step) c.requires.before;
    }

pub loop-step-preserved : goal.loop-step-preserved
loop-step-preserved c =
    let so = c.loop-step in
    let taken = c.next_choice-index in
    let index = taken.result.0 in
    let choice = c.in-Some.choice in
    let design_is : c.design-design.result.now ≡ c.args.machine.now.design = c.design-design.ensures in
    let found = sym c.in-Some.is ∙ c.choice.ensures.exact in
    let is = c.in_ok-take.ensures.state ∙ ap (λ (d : Design). (next d so.state index).state) design_is in
    let sees = subst (λ (d : Design). Keeps c.take.new.state.queue.time c.take.new.seen (seen_by d so.begin so.step so.state choice (next d so.state index) so.seen)) design_is c.in_ok-take.ensures.seen in
    record {
      begin = begin_on c.args.machine.now c.args.members.now so.rest.now taken.result.1.now c.args.from so.begin so.step index so.state c.take.new.state so.seen c.take.new.seen
          so.invariant.begin so.invariant.so taken.ensures.next choice found (omega (arith, c.loop-step-test.true)) taken.ensures.lawful is sees c.in_ok-take.ensures.few
          c.begin_after-begin.result c.begin_after-begin.new.seen c.begin_after-begin.ensures.goes c.begin_after-begin.ensures.ends;
      so = so_on c.args.machine.now c.args.members.now so.rest.now taken.result.1.now c.args.from so.begin so.step index so.state c.take.new.state so.seen c.take.new.seen
          so.invariant.begin so.invariant.so taken.ensures.next choice found (omega (arith, c.loop-step-test.true)) taken.ensures.lawful is sees c.in_ok-take.ensures.few
          c.begin_after-begin.result c.begin_after-begin.new.seen c.begin_after-begin.ensures.goes c.begin_after-begin.ensures.ends;
    }

pub returns-in_default-clause-none : goal.returns-in_default-clause-none
returns-in_default-clause-none c =
    let so = c.loop-step in
    let taken = c.next_choice-index in
    ended c.args.machine.now c.args.members.now so.rest.now taken.result.1.now c.args.from so.begin so.step taken.result.0 so.state so.seen so.invariant.so
    taken.ensures.next (omega (arith, c.loop-step-test.true)) (sym c.choice.ensures.exact ∙ c.in_default.is)

pub returns-clause-some : goal.returns-clause-some
returns-clause-some c =
    let so = c.loop-step in
    stands_there c.args.machine.now c.args.members.now so.rest.now c.args.from so.step so.begin so.state so.seen so.invariant.begin so.invariant.so
    (omega (arith, c.loop-step-test.false))
