-- The step of a flat state, part by part.
use Rattle.std.proofs.Common.{◌≡◌, ℕ, Bool, true, false, List, [], ◌∷◌, if◌then◌else◌, Option, None, Some, refl, sym, ap, subst, ◌∙◌}
use Rattle.std.specs.Prelude.{slice_get}
use Rattle.vbits.specs.Vectors.{Vector}
use Rattle.vcode.specs.declared.listener.Listener.{Listener}
use Rattle.vcode.specs.Code.{Code, listeners_at}
use Rattle.vdesign.specs.Design.{Design}
use Rattle.vdesign.specs.declared.action.Action.{Action}
use Rattle.vdesign.specs.declared.action.Edge.{Edge}
use Rattle.vdesign.specs.declared.action.Edge.TheVariants.{Any}
use Rattle.vdesign.specs.declared.action.Term.TheVariants.{Change}
use Rattle.vvalue.specs.Value.{Environment}
use Rattle.sched_core.specs.declared.end.Cause.{Cause}
use Rattle.vmodel.specs.declared.choice.Choice.{Choice}
use Rattle.vmodel.specs.declared.choice.Choice.TheVariants.{Run, Update, Advance}
use Rattle.vmodel.specs.Effects.{Effect}
use Rattle.vmodel.specs.declared.part.Part.{Part}
use Rattle.vmodel.specs.declared.frame.Frame.{Frame}
use Rattle.vmodel.specs.Holding.{held_after}
use Rattle.vmodel.specs.Inner.{variable_of}
use Rattle.vmodel.specs.InnerStep.{step_result, transition_to}
use Rattle.vmodel.specs.Parts.{value_in, write, with_parts}
use Rattle.vmodel.specs.Printed.{printed_after}
use Rattle.vmodel.specs.State.{State}
use Rattle.vmodel.specs.Step.{StepResult, place_of, execute_at, complete, no_transition, environment_of, with_moves_by, with_advance, with_lines_after, items_of}
use Rattle.vmodel.specs.Waking.{hears, is_edge}
use Rattle.vmodel.specs.InnerWaking.{Differ}
use Rattle.vmodel.specs.declared.values.Change.{Change as ValueChange}
use Rattle.vmodel.proofs.WakingLemmas.{edge_none}
use Rattle.vcompile.specs.Laws.{turns_behind, with_edge}
use Rattle.vflat.specs.declared.flat_step.News.{News}
use Rattle.vflat.specs.declared.flat_step.News.TheVariants.{Changed, Triggered}
use Rattle.vflat.specs.Flat.{Flat, FlatTransition, point_in, held_by, wakes_listener, with_resumed, frame_at, Woken, with_listener, with_listeners, terms_told, told_of_event, flat_woken, comes_to, flat_placed, step_alone, flat_after, flat_updated, flat_action, flat_frame, flat_transition_of, flat_viewed, rest_of, with_rest}
use Rattle.vflat.specs.InnerFlat.{is_heard, woken_of, with_woken, heard_by, told_of, write_and_wake, place_process, finish, with_left, action_there, held_view, flat_to}
use Rattle.vflat.proofs.PointLemmas.{hears_itself}

-- ---- waking

pub wakes_now : (code : Code) (news : News) (l : Listener) (f : Flat) → wakes_listener (is_heard news l.edge) l f.points ≡ true →
    heard_by code news (l ∷ []) f ≡ with_woken (with_resumed code f.turns l (woken_of f)) f
wakes_now code news l f e = ap (λ b. with_woken (if b then with_resumed code f.turns l (woken_of f) else woken_of f) f) e

pub wakes_not : (code : Code) (news : News) (l : Listener) (f : Flat) → wakes_listener (is_heard news l.edge) l f.points ≡ false →
    heard_by code news (l ∷ []) f ≡ f
wakes_not code news l f e = ap (λ b. with_woken (if b then with_resumed code f.turns l (woken_of f) else woken_of f) f) e

pub heard_next : (code : Code) (news : News) (l : Listener) (ls : List Listener) (f : Flat) →
    heard_by code news (l ∷ ls) f ≡ heard_by code news ls (heard_by code news (l ∷ []) f)
heard_next code news l ls f = refl

pub told_nobody : (code : Code) (parts : List Part) (triggered : Option ℕ) (variable : ℕ) (f : Flat) → listeners_at code.by_variable variable ≡ [] →
    f ≡ told_of code parts triggered (Change Any variable ∷ []) f
told_nobody code parts triggered variable f none =
    ap (λ ls. with_woken (with_listeners code f.turns
    (λ edge. hears f.rest.values (with_parts parts f.rest.values) triggered (with_edge (Change Any variable) edge)) ls (woken_of f)) f) (sym none)

pub told_change : (code : Code) (parts : List Part) (triggered : Option ℕ) (variable : ℕ) (f : Flat) →
    heard_by code (Changed (value_in f.rest.values variable) (value_in (with_parts parts f.rest.values) variable)) (listeners_at code.by_variable variable) f
    ≡ told_of code parts triggered (Change Any variable ∷ []) f
told_change code parts triggered variable f = refl

pub told_event : (code : Code) (parts : List Part) (event : ℕ) (f : Flat) →
    heard_by code Triggered (listeners_at code.by_event event) f ≡ told_of code parts (Some event) (told_of_event (Some event)) f
told_event code parts event f = ap (λ b. with_heard (λ edge. b)) (sym (hears_itself event))
  where
    with_heard : (Edge → Bool) → Flat
    with_heard heard = with_woken (with_listeners code f.turns heard (listeners_at code.by_event event) (woken_of f)) f

pub told_next : (code : Code) (parts : List Part) (triggered : Option ℕ) (part : Part) (more : List Part) (f : Flat) →
    told_of code parts triggered (terms_told (part ∷ more) triggered) f
    ≡ told_of code parts triggered (terms_told more triggered) (told_of code parts triggered (Change Any (variable_of part) ∷ []) f)
told_next code parts triggered part more f = refl

-- where nothing is heard nobody wakes
nobody_wakes : (code : Code) (turns : List ℕ) (heard : Edge → Bool) (ls : List Listener) (w : Woken) → ((edge : Edge) → heard edge ≡ false) →
    with_listeners code turns heard ls w ≡ w
nobody_wakes code turns heard [] w none = refl
nobody_wakes code turns heard (l ∷ ls) w none =
    ap (λ b. with_listeners code turns heard ls (with_listener code turns b l w)) (none l.edge) ∙ nobody_wakes code turns heard ls w none

-- the same flat state with a part written
abbrev with_part : Part → Flat → Flat
with_part part f = record f { rest = record f.rest { values = write part f.rest.values } }

pub wrote_nothing : (code : Code) (part : Part) (f : Flat) → f.rest.values ≡ write part f.rest.values → with_part part f ≡ write_and_wake code (part ∷ []) None f
wrote_nothing code part f same = ap (λ (w : Woken). with_woken w (with_part part f)) (sym (nobody_wakes code f.turns heard listeners (woken_of (with_part part f)) quiet))
  where
    n : ℕ
    n = variable_of part

    listeners : List Listener
    listeners = listeners_at code.by_variable n

    heard : Edge → Bool
    heard edge = is_edge edge (value_in f.rest.values n) (value_in (write part f.rest.values) n)

    quiet : (edge : Edge) → heard edge ≡ false
    quiet edge = edge_none edge (value_in f.rest.values n) (value_in (write part f.rest.values) n) (ap (λ vs. value_in vs n) same)

pub wrote_one : (code : Code) (part : Part) (change : ValueChange) (f : Flat) → change.variable ≡ variable_of part → Differ change f.rest.values (write part f.rest.values) →
    heard_by code (Changed change.old change.new) (listeners_at code.by_variable change.variable) (with_part part f) ≡ write_and_wake code (part ∷ []) None f
wrote_one code part change f same d =
    ap (λ v. woken (λ edge. is_edge edge v change.new) change.variable) (sym d.old)
    ∙ ap (λ v. woken (λ edge. is_edge edge (value_in f.rest.values change.variable) v) change.variable) (sym d.new)
    ∙ ap (λ n. woken (λ edge. is_edge edge (value_in f.rest.values n) (value_in (write part f.rest.values) n)) n) same
  where
    woken : (Edge → Bool) → ℕ → Flat
    woken heard n = with_woken (with_listeners code f.turns heard (listeners_at code.by_variable n) (woken_of (with_part part f))) (with_part part f)

-- ---- a step of a process

-- the frame and the action that are there
pub ran_flat : (design : Design) (code : Code) (p : ℕ) (frame : Frame) (action : Action) (held : Option Vector) (now : Environment) (and_then : Option Frame) (next : List ℕ) (effect : Effect)
    (left : Option ℕ) (f : Flat) → frame_at code f.turns (point_in f.points p) ≡ Some frame → slice_get design.actions (place_of frame) ≡ Some action →
    held ≡ held_by f.held p → now ≡ environment_of design f.rest →
    ((after : List Frame) → execute_at frame action after held now ≡ step_result and_then next after effect) →
    ((code : Code) (turns : List ℕ) → turns_behind code frame action now turns ≡ with_left code (place_of frame) left turns) →
    flat_transition_of design code (Run p) f ≡ finish code effect (place_process code p frame left next and_then effect f)
ran_flat design code p frame action held now and_then next effect left f at there held_is now_is does turns =
    ap (λ o. flat_frame design code p o f) at
    ∙ ap (λ o. flat_action design code p frame o f) there
    ∙ (λ i. by (step_is i) (turns_are i))
  where
    by : StepResult → List ℕ → FlatTransition
    by step left_turns =
        let after = flat_woken code f.rest.values step.effect.wrote step.effect.triggered
        (flat_placed p step.effect left_turns (comes_to code left_turns (place_of frame) step.continuation) f) in
        with_rest after (complete step.effect after.rest)

    step_is : step_alone design p frame action f ≡ step_result and_then next [] effect
    step_is = (λ i. execute_at frame action [] (sym held_is i) (sym now_is i)) ∙ does []

    turns_are : turns_behind code frame action (environment_of design f.rest) f.turns ≡ with_left code (place_of frame) left f.turns
    turns_are = ap (λ n. turns_behind code frame action n f.turns) (sym now_is) ∙ turns code f.turns

pub ran_nothing : (design : Design) (code : Code) (p : ℕ) (o : Option Frame) (f : Flat) → action_there design.actions o ≡ None →
    flat_frame design code p o f ≡ with_rest f (no_transition f.rest)
ran_nothing design code p None f e = refl
ran_nothing design code p (Some frame) f e = ap (λ a. flat_action design code p frame a f) e

-- ---- what is held back and printed

moves_print_by : (cause : Option Cause) (s : State) → (with_moves_by cause s).printed ≡ s.printed
moves_print_by None s = refl
moves_print_by (Some cause) s = refl

action_prints : (design : Design) (code : Code) (p : ℕ) (frame : Frame) (o : Option Action) (f : Flat) → (flat_action design code p frame o f).flat.rest.printed ≡ f.rest.printed
action_prints design code p frame None f = refl
action_prints design code p frame (Some action) f =
    moves_print_by (flat_after design code p frame action f).rest.cause (flat_after design code p frame action f).rest

frame_prints : (design : Design) (code : Code) (p : ℕ) (o : Option Frame) (f : Flat) → (flat_frame design code p o f).flat.rest.printed ≡ f.rest.printed
frame_prints design code p None f = refl
frame_prints design code p (Some frame) f = action_prints design code p frame (slice_get design.actions (place_of frame)) f

-- a step leaves the lines of the slot for who looks at them
pub step_prints : (design : Design) (code : Code) (c : Choice) (f : Flat) → (flat_transition_of design code c f).flat.rest.printed ≡ f.rest.printed
step_prints design code (Run p) f = frame_prints design code p (frame_at code f.turns (point_in f.points p)) f
step_prints design code Update f =
    moves_print_by (flat_updated code f).rest.cause (flat_updated code f).rest
step_prints design code Advance f = moves_print_by f.rest.cause (record f.rest { queue = with_advance f.rest.queue.future f.rest.queue })

moves_hold_by : (cause : Option Cause) (s : State) → (with_moves_by cause s).held_back ≡ s.held_back
moves_hold_by None s = refl
moves_hold_by (Some cause) s = refl

action_holds : (design : Design) (code : Code) (p : ℕ) (frame : Frame) (o : Option Action) (f : Flat) → (flat_action design code p frame o f).flat.rest.held_back ≡ f.rest.held_back
action_holds design code p frame None f = refl
action_holds design code p frame (Some action) f =
    moves_hold_by (flat_after design code p frame action f).rest.cause (flat_after design code p frame action f).rest

frame_holds : (design : Design) (code : Code) (p : ℕ) (o : Option Frame) (f : Flat) → (flat_frame design code p o f).flat.rest.held_back ≡ f.rest.held_back
frame_holds design code p None f = refl
frame_holds design code p (Some frame) f = action_holds design code p frame (slice_get design.actions (place_of frame)) f

-- a step leaves what is held back for who looks at it
step_holds : (design : Design) (code : Code) (c : Choice) (f : Flat) → (flat_transition_of design code c f).flat.rest.held_back ≡ f.rest.held_back
step_holds design code (Run p) f = frame_holds design code p (frame_at code f.turns (point_in f.points p)) f
step_holds design code Update f =
    moves_hold_by (flat_updated code f).rest.cause (flat_updated code f).rest
step_holds design code Advance f = moves_hold_by f.rest.cause (record f.rest { queue = with_advance f.rest.queue.future f.rest.queue })

-- where departures only take, nothing is held back
no_held_by : (f : Flat) (i : ℕ) (c : Choice) (x : FlatTransition) → f.rest.held_back ≡ None → x.flat.rest.held_back ≡ f.rest.held_back → held_view f i c x ≡ x
no_held_by f i c x none is = λ k. record x { flat = record x.flat { rest = record x.flat.rest { held_back = kept k } } }
  where
    kept : held_after f.rest.held_back f.rest.queue i c x.flat.rest.queue ≡ x.flat.rest.held_back
    kept = ap (λ (o : Option (List ℕ)). held_after o f.rest.queue i c x.flat.rest.queue) none ∙ sym (is ∙ none)

no_held : (design : Design) (code : Code) (f : Flat) (i : ℕ) (c : Choice) (y : FlatTransition) → f.rest.held_back ≡ None →
    flat_transition_of design code c f ≡ y → held_view f i c (flat_transition_of design code c f) ≡ y
no_held design code f i c y none is = no_held_by f i c (flat_transition_of design code c f) none (step_holds design code c f) ∙ is

-- where no lines are looked at none are kept
no_lines_by : (design : Design) (f : Flat) (c : Choice) (x : FlatTransition) (bag : Option (List (List ℕ))) → bag ≡ None → x.flat.rest.printed ≡ bag →
    with_rest x.flat (record (rest_of x) { state = record x.flat.rest { printed = printed_after c (items_of design (rest_of x)) bag } }) ≡ x
no_lines_by design f c x bag none is = λ i. record x { flat = record x.flat { rest = record x.flat.rest { printed = kept i } } }
  where
    kept : printed_after c (items_of design (rest_of x)) bag ≡ x.flat.rest.printed
    kept = ap (printed_after c (items_of design (rest_of x))) none ∙ sym (is ∙ none)

pub no_lines : (design : Design) (code : Code) (f : Flat) (i : ℕ) (c : Choice) (y : FlatTransition) → f.rest.printed ≡ None →
    held_view f i c (flat_transition_of design code c f) ≡ y → flat_viewed design f i c (flat_transition_of design code c f) ≡ y
no_lines design code f i c y none is =
    no_lines_by design f c (held_view f i c (flat_transition_of design code c f)) f.rest.printed none (step_prints design code c f) ∙ is

-- a step where departures only take and no lines are looked at
pub plain_step : (design : Design) (code : Code) (f : Flat) (i : ℕ) (c : Choice) (y : FlatTransition) → f.rest.held_back ≡ None → f.rest.printed ≡ None →
    flat_transition_of design code c f ≡ y → flat_viewed design f i c (flat_transition_of design code c f) ≡ y
plain_step design code f i c y none unseen is = no_lines design code f i c y unseen (no_held design code f i c y none is)

-- with the lines of the step
pub with_lines_too : (design : Design) (code : Code) (f : Flat) (i : ℕ) (c : Choice) (after : Flat) (rest : State) (effect : Effect) (monitors : List ℕ) →
    held_view f i c (flat_transition_of design code c f) ≡ flat_to after effect monitors →
    transition_to rest effect monitors ≡ with_lines_after design after.rest c (transition_to after.rest effect monitors) →
    flat_viewed design f i c (flat_transition_of design code c f) ≡ flat_to (record after { rest = rest }) effect monitors
with_lines_too design code f i c after rest effect monitors is prints =
    ap (λ bag. with_bag bag (held_view f i c (flat_transition_of design code c f))) same_bag
    ∙ ap (with_bag after.rest.printed) is
    ∙ ap (with_rest after) (sym prints)
  where
    with_bag : Option (List (List ℕ)) → FlatTransition → FlatTransition
    with_bag bag x = with_rest x.flat (record (rest_of x) { state = record x.flat.rest { printed = printed_after c (items_of design (rest_of x)) bag } })

    same_bag : f.rest.printed ≡ after.rest.printed
    same_bag = sym (step_prints design code c f) ∙ ap (λ (x : FlatTransition). x.flat.rest.printed) is

-- the same, of a copy that is taken in place of the state
pub printed_flat : (design : Design) (code : Code) (f copied after final inside : Flat) (i : ℕ) (c : Choice) (rest : State) (effect : Effect) (ran shown monitors : List ℕ) →
    copied ≡ f → held_view copied i c (flat_transition_of design code c copied) ≡ flat_to after effect ran → inside ≡ after → shown ≡ ran →
    transition_to rest effect shown ≡ with_lines_after design inside.rest c (transition_to inside.rest effect shown) →
    final ≡ record inside { rest = rest } → monitors ≡ ran →
    flat_viewed design f i c (flat_transition_of design code c f) ≡ flat_to final effect monitors
printed_flat design code f copied after final inside i c rest effect ran shown monitors same is within as_shown prints ends as_told =
    with_lines_too design code f i c after rest effect ran
    (subst (λ g. held_view g i c (flat_transition_of design code c g) ≡ flat_to after effect ran) same is)
    (subst (λ xs. transition_to rest effect xs ≡ with_lines_after design after.rest c (transition_to after.rest effect xs)) as_shown
    (subst (λ (g : Flat). transition_to rest effect shown ≡ with_lines_after design g.rest c (transition_to g.rest effect shown)) within prints))
    ∙ (λ j. flat_to (last j) effect (sym as_told j))
  where
    last : record after { rest = rest } ≡ final
    last = ap (λ (g : Flat). record g { rest = rest }) (sym within) ∙ sym ends
