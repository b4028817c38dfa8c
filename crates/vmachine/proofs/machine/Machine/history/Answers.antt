use Rattle.std.proofs.Common.{◌≡◌, ℕ, length, List, ◌++◌, Option, Some, None, Ok, Err, sym, ap, arith, subst, ◌∙◌}
use Rattle.vmodel.specs.declared.history.Item.{Item}
use Rattle.vmodel.specs.InnerStep.{transition_to}
use Rattle.vmodel.specs.Choices.{choices}
use Rattle.vmodel.specs.State.{State}
use Rattle.vmodel.specs.Step.{Transition, slot_end_of, next, items_of}
use Rattle.vdesign.specs.Design.{Design}
use Rattle.vmodel.specs.Run.{Setting, opening_of, end_of}
use Rattle.vmodel.specs.RunProgress.{Finishes}
use Rattle.vmachine.specs.declared.run.Chosen.{Chosen}
use Rattle.vmachine.specs.Inner.{IsAt, IsChosen}
use Rattle.vmachine.proofs.RunProgressLemmas.{at_opening, at_next, items_next, less_differs, fewer_left}
use Rattle.vmachine.proofs.machine.Machine.history.Goals as goal

pub walk-init : goal.walk-init
walk-init c =
    let setting = c.args.self.now in
    let opened : c.in_ok-state.state ≡ opening_of setting = c.in_ok-state.ensures in (
      subst (λ (rest : List (ℕ × ℕ)). IsAt setting c.args.log.now rest c.args.steps 0 c.in_ok-state.state) (sym c.members-rest.ensures.list)
          (at_opening setting c.args.log.now c.args.steps c.in_ok-state.state c.members-rest.ensures.lawful opened),
      c.in_ok-put_slot_end.ensures.ok ∙ ap (λ (xs : List Item). xs ++ slot_end_of c.in_ok-state.state) c.new-items.ensures.items ∙ ap slot_end_of opened,
    )

pub walk-preserved : goal.walk-preserved
walk-preserved c =
    let setting = c.args.self.now in
    let log = c.args.log.now in
    let here = c.walk.invariant.0 in
    let chosen : IsChosen setting log c.args.steps c.walk.n c.walk.state c.walk.rest.now (Ok (Some c.in-Ok-Some.chosen)) =
    subst (IsChosen setting log c.args.steps c.walk.n c.walk.state c.walk.rest.now) (c.in-Ok-Some.is ∙ ap (λ (o : Option Chosen). Ok o) c.in-Ok-Some.field-0-is) (c.choose.ensures setting log c.walk.state here (ap (λ (u : State). length (choices u)) c.plain.ensures)) in
    let design = ap (λ (s : Setting). s.design) c.self.view_is in
    let transition_is : Transition = transition_to c.step_into.new.self c.step_into.new.effect c.deref.result.now in
    let transition : next setting.design c.walk.state c.in-Ok-Some.chosen.choice ≡ transition_is =
    ap (λ (d : Design). next d c.walk.state c.in-Ok-Some.chosen.choice) (sym design) ∙ c.in_ok-step_into.ensures.ok ∙ ap (transition_to c.step_into.new.self c.step_into.new.effect) (sym c.deref.ensures.value) in (
      at_next setting log c.walk.rest.now c.args.steps c.walk.n c.walk.state here c.in-Ok-Some.chosen.choice c.in-Ok-Some.chosen.later.now chosen.2
          c.step_into.new.self (less_differs c.walk.n c.args.steps chosen.0) chosen.1 chosen.3 (ap (λ (t : Transition). t.state) transition),
      c.in_ok-put_items.ensures.ok
          ∙ ap (λ (d : Design). c.walk.items.items ++ items_of d transition_is) design
          ∙ ap (λ (xs : List Item). xs ++ items_of setting.design transition_is) c.walk.invariant.1
          ∙ items_next setting log c.walk.rest.now c.args.steps c.walk.n c.walk.state here c.in-Ok-Some.chosen.choice c.in-Ok-Some.chosen.later.now chosen.2 transition_is transition,
    )

pub returns-in-Ok-None-clause-ok : goal.returns-in-Ok-None-clause-ok
returns-in-Ok-None-clause-ok c =
    let setting = c.args.self.now in
    let log = c.args.log.now in
    let here = c.walk.invariant.0 in
    let chosen : IsChosen setting log c.args.steps c.walk.n c.walk.state c.walk.rest.now (Ok None) =
    subst (IsChosen setting log c.args.steps c.walk.n c.walk.state c.walk.rest.now) (c.in-Ok-None.is ∙ ap (λ (o : Option Chosen). Ok o) c.in-Ok-None.field-0-is)
    (c.choose.ensures setting log c.walk.state here (ap (λ (u : State). length (choices u)) c.plain.ensures)) in
    let end = c.end-end.ensures ∙ ap end_of here.at in
    let values = c.in_ok-values-in-Ok-None.ensures ∙ c.values.ensures ∙ ap (λ (s : State). s.values) here.at in (
      c.walk.n,
      subst (λ end. Finishes setting log c.args.steps c.walk.n end) (sym c.end-end.ensures) chosen,
      λ i. record { items = c.walk.invariant.1 i; end = end i; values = values i },
    )

pub returns-in-Err-clause-reason : goal.returns-in-Err-clause-reason
returns-in-Err-clause-reason c =
    let setting = c.args.self.now in
    let log = c.args.log.now in
    let here = c.walk.invariant.0 in
    let chosen : IsChosen setting log c.args.steps c.walk.n c.walk.state c.walk.rest.now (Err c.in-Err.fault) =
    subst (IsChosen setting log c.args.steps c.walk.n c.walk.state c.walk.rest.now) (c.in-Err.is)
    (c.choose.ensures setting log c.walk.state here (ap (λ (u : State). length (choices u)) c.plain.ensures)) in
    chosen

pub overflow_add-n : goal.overflow_add-n
overflow_add-n c =
    let setting = c.args.self.now in
    let log = c.args.log.now in
    let here = c.walk.invariant.0 in
    let chosen : IsChosen setting log c.args.steps c.walk.n c.walk.state c.walk.rest.now (Ok (Some c.in-Ok-Some.chosen)) =
    subst (IsChosen setting log c.args.steps c.walk.n c.walk.state c.walk.rest.now) (c.in-Ok-Some.is ∙ ap (λ (o : Option Chosen). Ok o) c.in-Ok-Some.field-0-is)
    (c.choose.ensures setting log c.walk.state here (ap (λ (u : State). length (choices u)) c.plain.ensures)) in
    omega (arith, chosen.0, c.ranges.steps.fits)

pub walk-smaller : goal.walk-smaller
walk-smaller c =
    let setting = c.args.self.now in
    let log = c.args.log.now in
    let here = c.walk.invariant.0 in
    let chosen : IsChosen setting log c.args.steps c.walk.n c.walk.state c.walk.rest.now (Ok (Some c.in-Ok-Some.chosen)) =
    subst (IsChosen setting log c.args.steps c.walk.n c.walk.state c.walk.rest.now) (c.in-Ok-Some.is ∙ ap (λ (o : Option Chosen). Ok o) c.in-Ok-Some.field-0-is)
    (c.choose.ensures setting log c.walk.state here (ap (λ (u : State). length (choices u)) c.plain.ensures)) in
    fewer_left c.walk.n c.args.steps chosen.0
