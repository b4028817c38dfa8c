use Rattle.std.proofs.Common.{◌+◌, Option, Some, None, Ok, Err, sym, ap, arith, subst, ◌∙◌}
use Rattle.vmodel.specs.Step.{Transition, next}
use Rattle.vmodel.specs.Run.{Setting, state_after}
use Rattle.vmodel.specs.RunProgress.{Finishes}
use Rattle.vcompile.specs.CodeOf.{code_of}
use Rattle.vflat.specs.Representations.{representation_step}
use Rattle.vmachine.specs.declared.run.Chosen.{Chosen}
use Rattle.vmachine.specs.Inner.{IsAt, IsChosen}
use Rattle.vmachine.specs.Machines.{Stands}
use Rattle.vmachine.specs.Runs.{state_of}
use Rattle.vmachine.proofs.StandLemmas.{as_many, step_read}
use Rattle.vmachine.proofs.RunProgressLemmas.{at_next, less_differs, fewer_left}
use Rattle.vmachine.proofs.machine.Machine.see_end.Goals as goal

pub walk-init : goal.walk-init
walk-init c = (
  c.requires.here.so,
  subst (λ s. Stands c.args.self.now s (state_of c.args.self.now c.args.run.now)) (sym c.in_ok-state.ensures) c.requires.here.stands,
)

pub walk-preserved : goal.walk-preserved
walk-preserved c =
    let setting = c.args.self.now in
    let log = c.args.run.now.log.now in
    let now = state_after setting log c.walk.n in
    let here = c.walk.invariant.0 in
    let stands = c.walk.invariant.1 in
    let chosen : IsChosen setting log c.args.steps c.walk.n now c.walk.rest.now (Ok (Some c.in-Ok-Some.chosen)) =
    subst (IsChosen setting log c.args.steps c.walk.n now c.walk.rest.now) (c.in-Ok-Some.is ∙ ap (λ (o : Option Chosen). Ok o) c.in-Ok-Some.field-0-is)
    (c.choose.ensures setting log now here (as_many setting c.walk.state c.rest.result now c.rest.ensures stands)) in
    let choice = c.in-Ok-Some.chosen.choice in
    let design = ap (λ (s : Setting). s.design) c.self.view_is in
    let code = c.self.invariant.0 ∙ ap code_of design in
    let transition : Transition = next setting.design now choice in
    let at = at_next setting log c.walk.rest.now c.args.steps c.walk.n now here choice c.in-Ok-Some.chosen.later.now chosen.2
    transition.state (less_differs c.walk.n c.args.steps chosen.0) chosen.1 chosen.3 (λ i. transition.state) in
    let stepped = step_read setting c.walk.state c.go.new.self now choice stands
    (c.in_ok-go.ensures.ok ∙ (λ i. representation_step (design i) (code i) c.walk.state choice)) in
    (subst (IsAt setting log c.in-Ok-Some.chosen.later.now c.args.steps (c.walk.n + 1)) at.at at, subst (Stands setting c.go.new.self) at.at stepped)

pub returns-in-Ok-None-clause-ends : goal.returns-in-Ok-None-clause-ends
returns-in-Ok-None-clause-ends c =
    let setting = c.args.self.now in
    let log = c.args.run.now.log.now in
    let now = state_after setting log c.walk.n in
    let chosen : IsChosen setting log c.args.steps c.walk.n now c.walk.rest.now (Ok None) =
    subst (IsChosen setting log c.args.steps c.walk.n now c.walk.rest.now) (c.in-Ok-None.is ∙ ap (λ (o : Option Chosen). Ok o) c.in-Ok-None.field-0-is)
    (c.choose.ensures setting log now c.walk.invariant.0 (as_many setting c.walk.state c.rest.result now c.rest.ensures c.walk.invariant.1)) in
    (c.walk.n, subst (λ end. Finishes setting log c.args.steps c.walk.n end) (sym (c.last_of.ensures now c.walk.invariant.1)) chosen)

pub returns-in-Err-clause-reason : goal.returns-in-Err-clause-reason
returns-in-Err-clause-reason c =
    let setting = c.args.self.now in
    let log = c.args.run.now.log.now in
    let now = state_after setting log c.walk.n in
    let chosen : IsChosen setting log c.args.steps c.walk.n now c.walk.rest.now (Err c.in-Err.fault) =
    subst (IsChosen setting log c.args.steps c.walk.n now c.walk.rest.now) (c.in-Err.is)
    (c.choose.ensures setting log now c.walk.invariant.0 (as_many setting c.walk.state c.rest.result now c.rest.ensures c.walk.invariant.1)) in
    chosen

pub overflow_add-n : goal.overflow_add-n
overflow_add-n c =
    let setting = c.args.self.now in
    let log = c.args.run.now.log.now in
    let now = state_after setting log c.walk.n in
    let chosen : IsChosen setting log c.args.steps c.walk.n now c.walk.rest.now (Ok (Some c.in-Ok-Some.chosen)) =
    subst (IsChosen setting log c.args.steps c.walk.n now c.walk.rest.now) (c.in-Ok-Some.is ∙ ap (λ (o : Option Chosen). Ok o) c.in-Ok-Some.field-0-is)
    (c.choose.ensures setting log now c.walk.invariant.0 (as_many setting c.walk.state c.rest.result now c.rest.ensures c.walk.invariant.1)) in
    omega (arith, chosen.0, c.ranges.steps.fits)

pub walk-smaller : goal.walk-smaller
walk-smaller c =
    let setting = c.args.self.now in
    let log = c.args.run.now.log.now in
    let now = state_after setting log c.walk.n in
    let chosen : IsChosen setting log c.args.steps c.walk.n now c.walk.rest.now (Ok (Some c.in-Ok-Some.chosen)) =
    subst (IsChosen setting log c.args.steps c.walk.n now c.walk.rest.now) (c.in-Ok-Some.is ∙ ap (λ (o : Option Chosen). Ok o) c.in-Ok-Some.field-0-is)
    (c.choose.ensures setting log now c.walk.invariant.0 (as_many setting c.walk.state c.rest.result now c.rest.ensures c.walk.invariant.1)) in
    fewer_left c.walk.n c.args.steps chosen.0
