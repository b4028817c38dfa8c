-- A step of a process, from its parts.
use Rattle.std.proofs.Common.{◌≡◌, ℕ, suc, true, false, ◌==◌, List, [], ◌∷◌, length, map, Option, Some, None, refl, sym, ap, ◌∙◌, arith}
use Rattle.std.proofs.lemmas.Bool.Decides.{nat_tests}
use Rattle.std.specs.Prelude.{slice_get, slice_set, is_some}
use Rattle.vbits.specs.Vectors.{Vector}
use Rattle.vdesign.specs.Design.{Design}
use Rattle.vdesign.specs.declared.action.Action.{Action}
use Rattle.vvalue.specs.Value.{Environment}
use Rattle.vmodel.specs.Effects.{Effect}
use Rattle.vmodel.specs.declared.part.Part.{Part}
use Rattle.vmodel.specs.declared.frame.Frame.{Frame}
use Rattle.plain_steps.specs.declared.waking.News.{News}
use Rattle.vmodel.specs.Parts.{with_parts}
use Rattle.vmodel.specs.Queue.{Queue}
use Rattle.vmodel.specs.State.{Process, State}
use Rattle.vmodel.specs.Waking.{wakes, awake, with_awake}
use Rattle.plain_steps.specs.InnerNews.{AreChanges, comes}
use Rattle.vmodel.specs.InnerWaking.{with_active}
use Rattle.plain_steps.specs.InnerMove.{first_action, held_in, process_with_move, queue_with_move, state_with_move, with_cause}
use Rattle.vmodel.specs.InnerStep.{step_result, continuation_in}
use Rattle.vmodel.specs.Step.{StepResult, Transition, execute_at, environment_of, with_woken, complete, transition_with, action_transition, continuation_transition, process_transition}
use Rattle.plain_steps.proofs.NewsLemmas.{woken_none, comes_is}

-- ---- what is written

-- the state with these values
abbrev with_values : State → List Vector → State
with_values s values = record s { values = values }

pub written_same : (design : Design) (wrote : List Part) (s : State) (values : List Vector) → values ≡ with_parts wrote s.values → s.values ≡ values →
    with_values s values ≡ with_woken design s.values None (with_values s (with_parts wrote s.values))
written_same design wrote s values is same =
    ap (with_values s) is
    ∙ woken_none design (with_values s (with_parts wrote s.values))
    ∙ ap (λ (before : List Vector). with_woken design before None (with_values s (with_parts wrote s.values))) (sym (same ∙ is))

no_event : (event : Option ℕ) → is_some event ≡ false → event ≡ None
no_event None h = refl
no_event (Some event) h = cc

no_part : (wrote : List Part) → (length wrote == 0) ≡ true → wrote ≡ []
no_part [] h = refl
no_part (part ∷ parts) h = let none : suc (length parts) ≡ 0 = grind (arith, nat_tests) in absurd (omega (arith, none))

-- nothing is written, and no event is triggered
pub written_nothing : (design : Design) (wrote : List Part) (event : Option ℕ) (s : State) → (length wrote == 0) ≡ true → is_some event ≡ false →
    s ≡ with_woken design s.values event (with_values s (with_parts wrote s.values))
written_nothing design wrote event s none nobody =
    woken_none design s
    ∙ ap (λ (e : Option ℕ). with_woken design s.values e s) (sym (no_event event nobody))
    ∙ ap (λ (parts : List Part). with_woken design s.values event (with_values s (with_parts parts s.values))) (sym (no_part wrote none))

pub written_changed : (design : Design) (wrote : List Part) (s : State) (values : List Vector) (news : News) → values ≡ with_parts wrote s.values → AreChanges news.changes s.values values →
    record s {
      values = values;
      processes = map (awake (comes design.actions news)) s.processes;
      queue = with_active (with_awake (comes design.actions news) 0 s.processes s.queue.active) s.queue;
    } ≡ with_woken design s.values news.triggered (with_values s (with_parts wrote s.values))
written_changed design wrote s values news is differ =
    let hears : comes design.actions news ≡ wakes design.actions s.values (with_parts wrote s.values) news.triggered =
    sym (comes_is design.actions news s.values values differ) ∙ ap (λ (after : List Vector). wakes design.actions s.values after news.triggered) is in
    λ i. record s {
      values = is i;
      processes = map (awake (hears i)) s.processes;
      queue = with_active (with_awake (hears i) 0 s.processes s.queue.active) s.queue;
    }

-- the same, as the parts of the code tell it
pub awoken_is : (design : Design) (wrote : List Part) (s : State) (values : List Vector) (processes : List Process) (queue : Queue) (actions : List Action) (news : News) →
    values ≡ with_parts wrote s.values → AreChanges news.changes s.values values → actions ≡ design.actions →
    processes ≡ map (awake (comes actions news)) s.processes →
    queue ≡ with_active (with_awake (comes actions news) 0 s.processes s.queue.active) s.queue →
    record s { values = values; processes = processes; queue = queue } ≡ with_woken design s.values news.triggered (with_values s (with_parts wrote s.values))
awoken_is design wrote s values processes queue actions news is differ acts ps q =
    (λ i. record s { values = values; processes = ps i; queue = q i })
    ∙ ap (λ (list : List Action). record s {
      values = values;
      processes = map (awake (comes list news)) s.processes;
      queue = with_active (with_awake (comes list news) 0 s.processes s.queue.active) s.queue;
    }) acts
    ∙ written_changed design wrote s values news is differ

-- ---- the step

-- a state with what the step wrote, and what becomes of the run
abbrev finished : Design → Effect → State → State → Transition
finished design effect before s = complete effect (with_cause effect.cause (with_woken design before.values effect.triggered (with_values s (with_parts effect.wrote before.values))))

ran_from : (design : Design) (p : ℕ) (frame : Frame) (action : Action) (then : Option Frame) (next : List ℕ) (effect : Effect) (s : State) (continuation : List Frame) →
    continuation_in s.processes p ≡ continuation → slice_get continuation 0 ≡ Some frame → first_action design.actions continuation ≡ Some action →
    ((after : List Frame) → execute_at frame action after (held_in s.processes p) (environment_of design s) ≡ step_result then next after effect) →
    continuation_transition design p continuation s ≡ finished design effect s (state_with_move p then next effect s)
ran_from design p frame action then next effect s [] is at act h = cc
ran_from design p frame action then next effect s (other ∷ after) is at act h =
    let same : other ≡ frame = cc in
    ap (λ (o : Option Action). action_transition design p other o after s) act
    ∙ ap (λ (first : Frame). transition_with design p (execute_at first action after (held_in s.processes p) (environment_of design s)) s) same
    ∙ ap (λ (step : StepResult). transition_with design p step s) (h after)
    ∙ ap (λ (l : List Frame). finished design effect s (record s {
      processes = slice_set s.processes p (process_with_move l then next effect);
      queue = queue_with_move p l then next effect s.queue;
    })) (sym is)

pub ran : (design : Design) (p : ℕ) (frame : Frame) (action : Action) (held : Option Vector) (now : Environment) (then : Option Frame) (next : List ℕ) (effect : Effect) (s : State) →
    slice_get (continuation_in s.processes p) 0 ≡ Some frame → first_action design.actions (continuation_in s.processes p) ≡ Some action →
    held ≡ held_in s.processes p → now ≡ environment_of design s →
    ((after : List Frame) → execute_at frame action after held now ≡ step_result then next after effect) →
    process_transition design p s ≡ complete effect (with_cause effect.cause (with_woken design s.values effect.triggered (with_values (state_with_move p then next effect s) (with_parts effect.wrote s.values))))
ran design p frame action held now then next effect s at act holds is h =
    ran_from design p frame action then next effect s (continuation_in s.processes p) refl at act
    (λ after. (λ i. execute_at frame action after (sym holds i) (sym is i)) ∙ h after)
