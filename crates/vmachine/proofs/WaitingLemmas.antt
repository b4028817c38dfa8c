-- What is pending, as a machine's state has it and as the state of the run has.
use Rattle.std.proofs.Common.{◌≡◌, ℕ, Bool, false, List, [], ◌++◌, append-nil, sym, ap, subst, ◌∙◌}
use Rattle.vdesign.specs.Design.{Design}
use Rattle.vmodel.specs.Effects.{Effect}
use Rattle.vmodel.specs.declared.history.Item.{Item}
use Rattle.vmodel.specs.InnerStep.{transition_to}
use Rattle.vmodel.specs.Run.{Setting, is_mark}
use Rattle.vmodel.specs.State.{State}
use Rattle.vmodel.specs.Step.{Transition, items_of}
use Rattle.vmodel.specs.Touched.{end_due}
use Rattle.vflat.specs.Representations.{rest_in}
use Rattle.vmachine.specs.declared.machine_state.MachineState.{MachineState}
use Rattle.vmachine.specs.declared.run.Pending.{Pending}
use Rattle.vmachine.specs.Inner.{HandsOn}
use Rattle.vmachine.specs.Machines.{Stands}
use Rattle.vmachine.specs.Waiting.{IsNothing, waiting_in}
use Rattle.vmachine.proofs.StandLemmas.{marks_read}

-- what was handed on where the machine's state is at a mark, or isn't
pub hands_there : {T : Type 0} (takes : T → List Item → T → Type 0) (setting : Setting) (s : MachineState) (t rest : State) (old new : T) (p q : Pending) → Stands setting s t →
    rest ≡ rest_in s → HandsOn takes (is_mark rest) old (waiting_in p rest) new (waiting_in q rest) →
    HandsOn takes (is_mark t) old (waiting_in p (rest_in s)) new (waiting_in q (rest_in s))
hands_there takes setting s t rest old new p q stands is on =
    subst (λ (mark : Bool). HandsOn takes mark old (waiting_in p (rest_in s)) new (waiting_in q (rest_in s))) (marks_read setting s t stands)
    (subst (λ (r : State). HandsOn takes (is_mark r) old (waiting_in p r) new (waiting_in q r)) is on)

-- where no end is due only items are
items_alone : (p : Pending) (s : State) → p.due ≡ false → waiting_in p s ≡ p.items.items
items_alone p s none = ap (λ (due : Bool). p.items.items ++ end_due due s) none ∙ append-nil p.items.items

-- what is pending after a step, as the state of the run has it
pub waits_there : (design : Design) (p q : Pending) (before after rest : State) (effect : Effect) (monitors : List ℕ) (transition : Transition) → p.due ≡ false → rest ≡ after →
    waiting_in q rest ≡ p.items.items ++ items_of design (transition_to rest effect monitors) →
    items_of design (transition_to after effect monitors) ≡ items_of design transition → waiting_in q after ≡ waiting_in p before ++ items_of design transition
waits_there design p q before after rest effect monitors transition none is waits same =
    subst (λ (r : State). waiting_in q r ≡ p.items.items ++ items_of design (transition_to r effect monitors)) is waits
    ∙ ap (λ (items : List Item). p.items.items ++ items) same
    ∙ ap (λ (items : List Item). items ++ items_of design transition) (sym (items_alone p before none))

pub nothing_waits : (p : Pending) (s : State) → IsNothing p → waiting_in p s ≡ []
nothing_waits p s (none, ended) = λ i. none i ++ end_due (ended i) s
