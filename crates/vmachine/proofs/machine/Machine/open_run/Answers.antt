use Rattle.std.proofs.Common.{◌≡◌, ℕ, List, [], ◌++◌, sym, ap, subst, ◌∙◌}
use Rattle.vmodel.specs.RunProgress.{opening_is}
use Rattle.vmodel.specs.Run.{state_after}
use Rattle.vmodel.specs.State.{State}
use Rattle.vmodel.specs.Step.{slot_end_of}
use Rattle.vmodel.specs.Touched.{HasNoSlotEnd, is_slot_end, end_due}
use Rattle.vmodel.proofs.TouchedLemmas.{slot_end_is, slot_end_marks}
use Rattle.vflat.specs.Representations.{rest_in}
use Rattle.vmachine.specs.Inner.{IsAt}
use Rattle.vmachine.proofs.StandLemmas.{opening_read, slot_ends_read}
use Rattle.vmachine.proofs.RunProgressLemmas.{at_opening}
use Rattle.vmachine.proofs.machine.Machine.open_run.Goals as goal

pub returns-clause-here : goal.returns-clause-here
returns-clause-here c = λ steps.
    let setting = c.args.self.now in
    let log = c.args.log.now in
    record {
      so = subst (λ (rest : List (ℕ × ℕ)). IsAt setting log rest steps 0 (state_after setting log 0)) (sym c.members.ensures.list)
          (at_opening setting log steps (state_after setting log 0) c.members.ensures.lawful (opening_is setting));
      stands = opening_read setting c.in_ok-state.state log c.in_ok-state.ensures;
      no_end = subst HasNoSlotEnd (sym c.new.ensures.items) tt;
      due = λ due. slot_end_marks (rest_in c.in_ok-state.state) (ap is_slot_end (sym c.rest.ensures) ∙ sym c.is_slot_end.ensures ∙ due);
    }

pub returns-clause-waits : goal.returns-clause-waits
returns-clause-waits c =
    let setting = c.args.self.now in
    let log = c.args.log.now in
    let rest : State = rest_in c.in_ok-state.state in
    let due : c.is_slot_end.result ≡ is_slot_end rest = c.is_slot_end.ensures ∙ ap is_slot_end c.rest.ensures in
    let is = (λ i. c.new.ensures.items i ++ end_due (due i) rest)
    ∙ sym (slot_end_is rest)
    ∙ slot_ends_read setting c.in_ok-state.state (state_after setting log 0) (opening_read setting c.in_ok-state.state log c.in_ok-state.ensures) in
    record { is = is ∙ ap slot_end_of (opening_is setting); waits = ([], tt, is) }
