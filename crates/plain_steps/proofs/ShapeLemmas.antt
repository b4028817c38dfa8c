-- Values keep the shape of their variables: what is written or waits to be written has its target's length and sign.
use Rattle.std.proofs.Common.{◌≡◌, ℕ, zero, suc, ◌+◌, ◌-◌, ◌≤◌, ◌==◌, nat_lt, nat_le, take, drop, arith, cond, Bool, true, false, List, [], ◌∷◌, ◌++◌, length, map, Option, Some, None, refl, sym, ap, subst, ◌∙◌}
use Rattle.std.specs.Prelude.{slice_get, slice_set, unwrap_or}
use Rattle.sched_core.specs.Rules.{choice_at}
use Rattle.std.proofs.lemmas.Bool.Decides.{nat_tests}
use Rattle.vbits.specs.declared.bit4.Bit4.{Bit4}
use Rattle.vbits.specs.declared.bit4.Bit4.TheVariants.{X}
use Rattle.vbits.specs.Vectors.{Vector, filled, with_sign, resize}
use Rattle.vdesign.specs.Design.{Variable, Design}
use Rattle.vdesign.specs.declared.action.Action.{Action}
use Rattle.vdesign.specs.declared.print.When.TheVariants.{Now, AtSlotEnd, AtChange}
use Rattle.vdesign.specs.declared.action.Action.TheVariants.{Assign, Nonblocking, AssignDelayed, NonblockingDelayed, Trigger, Test, Case, While, Repeat, Forever, Delay, EventControl, Wait, ContinuousAssign, Print, DumpVars, Dump, NoOperation, Finish, Stop}
use Rattle.vdesign.specs.Expressions.{ExpressionTree}
use Rattle.vdesign.specs.declared.action.Target.{Target}
use Rattle.vdesign.specs.declared.action.Target.TheVariants.{Whole as WholeTarget, Bit as BitTarget, Part as PartTarget}
use Rattle.sched_core.specs.declared.end.Cause.{Cause}
use Rattle.vmodel.specs.declared.effect.Post.{Post}
use Rattle.vmodel.specs.declared.effect.Disposition.{Disposition}
use Rattle.vmodel.specs.declared.effect.Disposition.TheVariants.{Runnable, Delayed, Waiting}
use Rattle.vmodel.specs.declared.part.Part.{Part}
use Rattle.vmodel.specs.declared.part.Part.TheVariants.{Whole, Bits}
use Rattle.vmodel.specs.declared.frame.Frame.{Frame}
use Rattle.vmodel.specs.declared.frame.Frame.TheVariants.{Executing, Repeating, Writing}
use Rattle.vmodel.specs.declared.choice.Choice.{Choice}
use Rattle.vmodel.specs.declared.choice.Choice.TheVariants.{Run, Update, Advance}
use Rattle.vvalue.specs.Value.{Environment, value_at, bounds_of, right_side, holds as holds_at, delay_of}
use Rattle.vmodel.specs.InnerStep.{wait_result}
use Rattle.vvalue.proofs.Lengths.{right_side_length, resized_length}
use Rattle.vvalue.specs.Targets.{target_size, targets_size, place_at, both_fall, leftwards}
use Rattle.vmodel.proofs.PartLemmas.{part_length, spliced_length}
use Rattle.vmodel.specs.Value.{some_bits, bits_at, parts_of, shared_parts, given_parts, assigned_parts, resumed_parts}
use Rattle.vmodel.specs.Parts.{value_in, with_bits, with_parts}
use Rattle.vmodel.specs.Queue.{Later, Queue, slot_with_sleeper, slot_with_update, empty_slot, later_at}
use Rattle.vmodel.specs.State.{State}
use Rattle.vmodel.specs.Choices.{choices}
use Rattle.vmodel.specs.Step.{environment_of, StepResult, post_after, execute, execute_turn, resume, execute_at, place_of, process_to_continue, deactivate, reschedule, posts, with_strobe, activate_next_region, with_moves_by, with_woken, with_moves, with_step, action_transition, continuation_transition, continuation_of, held_of, first_of, without_update, with_update, with_advance, transition_of, transition_by, next}
use Rattle.vmodel.specs.Run.{Setting, opening_value, state_after}
use Rattle.vmodel.specs.RunProgress.{opening_is, after_is}
use Rattle.vmodel.specs.Kept.{HasShape, AreShaped}
use Rattle.vmodel.proofs.MovedLemmas.{sleeps_by, posts_by}

-- ---- what waits to be written

-- a whole variable's value has the shape of the variable that it is written to, where there is one
abbrev Suits : List Variable → Part → Type 0
Suits variables (Whole number value) = (x : Variable) → slice_get variables number ≡ Some x → HasShape x value
Suits variables (Bits number low value) = Unit {0}

abbrev AllSuit : List Variable → List Part → Type 0
AllSuit variables [] = Unit {0}
AllSuit variables (part ∷ parts) = Suits variables part × AllSuit variables parts

abbrev UpdatesSuit : List Variable → List (List Part) → Type 0
UpdatesSuit variables [] = Unit {0}
UpdatesSuit variables (u ∷ us) = AllSuit variables u × UpdatesSuit variables us

abbrev FutureSuits : List Variable → List (ℕ × Later) → Type 0
FutureSuits variables [] = Unit {0}
FutureSuits variables (e ∷ es) = UpdatesSuit variables e.1.updates × FutureSuits variables es

record QueueSuits (variables : List Variable) (q : Queue) : Type 0 where
  pub activated : UpdatesSuit variables q.activated
  pub posted : UpdatesSuit variables q.posted
  pub future : FutureSuits variables q.future

record IsShaped (variables : List Variable) (s : State) : Type 0 where
  pub values : AreShaped variables s.values
  pub queue : QueueSuits variables s.queue

-- ---- values

shape_at : (variables : List Variable) (values : List Vector) (number : ℕ) (x : Variable) (d : Vector) → AreShaped variables values →
    slice_get variables number ≡ Some x → HasShape x (unwrap_or (slice_get values number) d)
shape_at [] values number x d h at = cc
shape_at (y ∷ ys) [] number x d h at = absurd h
shape_at (y ∷ ys) (v ∷ vs) zero x d h at = let same : y ≡ x = cc in subst (λ (z : Variable). HasShape z v) same h.0
shape_at (y ∷ ys) (v ∷ vs) (suc number) x d h at = shape_at ys vs number x d h.1 at

shaped-set : (variables : List Variable) (values : List Vector) (number : ℕ) (value : Vector) → AreShaped variables values →
    Suits variables (Whole number value) → AreShaped variables (slice_set values number value)
shaped-set [] [] number value h suits = h
shaped-set [] (v ∷ vs) number value h suits = absurd h
shaped-set (x ∷ xs) [] number value h suits = absurd h
shaped-set (x ∷ xs) (v ∷ vs) zero value h suits = (suits x refl, h.1)
shaped-set (x ∷ xs) (v ∷ vs) (suc number) value h suits = (h.0, shaped-set xs vs number value h.1 suits)

-- what gets some of its letters keeps its length and its sign
bits-shape : (old : Vector) (low : ℕ) (value : Vector) → (length (with_bits old low value).letters ≡ length old.letters) × ((with_bits old low value).signed ≡ old.signed)
bits-shape old low value = by (nat_le high (length old.letters)) refl
  where
    high : ℕ
    high = low + length value.letters

    new : Vector
    new = record old { letters = take low old.letters ++ value.letters ++ drop high old.letters }

    by : (b : Bool) → nat_le high (length old.letters) ≡ b → (length (cond b new old).letters ≡ length old.letters) × ((cond b new old).signed ≡ old.signed)
    by false e = (refl, refl)
    by true e = (spliced_length low old.letters value.letters (grind (arith, nat_tests)), refl)

shaped-bits : (variables : List Variable) (values : List Vector) (number low : ℕ) (value : Vector) → AreShaped variables values →
    AreShaped variables (slice_set values number (with_bits (value_in values number) low value))
shaped-bits variables values number low value h = shaped-set variables values number (with_bits old low value) h suits
  where
    old : Vector
    old = value_in values number

    suits : (x : Variable) → slice_get variables number ≡ Some x → HasShape x (with_bits old low value)
    suits x at =
        let shape : HasShape x old = shape_at variables values number x (filled 1 X) h at in
        let kept = bits-shape old low value in
        (kept.0 ∙ shape.0, kept.1 ∙ shape.1)

shaped-with_parts : (variables : List Variable) (parts : List Part) (values : List Vector) → AreShaped variables values → AllSuit variables parts →
    AreShaped variables (with_parts parts values)
shaped-with_parts variables [] values h suit = h
shaped-with_parts variables (Whole number value ∷ parts) values h suit =
    shaped-with_parts variables parts (slice_set values number value) (shaped-set variables values number value h suit.0) suit.1
shaped-with_parts variables (Bits number low value ∷ parts) values h suit =
    shaped-with_parts variables parts (slice_set values number (with_bits (value_in values number) low value)) (shaped-bits variables values number low value h) suit.1

marked : (v : Vector) (mark : Bool) → ((with_sign v mark).letters ≡ v.letters) × ((with_sign v mark).signed ≡ mark)
unfolding with_sign
marked v mark = (refl, refl)

-- 5.4.1, 6.2: a whole variable gets as many letters as it has, and keeps its sign mark

some-suit : (variables : List Variable) (n low : ℕ) (letters : List Bit4) → AllSuit variables (some_bits n low letters)
some-suit variables n low [] = tt
some-suit variables n low (b ∷ bs) = (tt, tt)

at-suits : (variables : List Variable) (n : ℕ) (old : Vector) (place : Option ℕ) (letters : List Bit4) → AllSuit variables (bits_at n old place letters)
at-suits variables n old None letters = tt
at-suits variables n old (Some place) letters = some-suit variables n place (take (length old.letters - place) letters)

whole-suits : (variables : List Variable) (now : Environment) (n : ℕ) (letters : List Bit4) → AreShaped variables now.values →
    length letters ≡ length (value_at now n).letters →
    (x : Variable) → slice_get variables n ≡ Some x → HasShape x (record { letters = letters; signed = (value_at now n).signed })
whole-suits variables now n letters h len x at =
    let shape : HasShape x (value_at now n) = shape_at variables now.values n x (filled 1 X) h at in
    (len ∙ shape.0, shape.1)

parts-suit : (variables : List Variable) (now : Environment) (target : Target) (letters : List Bit4) → AreShaped variables now.values →
    length letters ≡ target_size now target → AllSuit variables (parts_of now target letters)
parts-suit variables now (WholeTarget n) letters h len = (whole-suits variables now n letters h len, tt)
parts-suit variables now (BitTarget n index) letters h len = at-suits variables n (value_at now n) (place_at now n index) letters
parts-suit variables now (PartTarget n selected) letters h len =
    let bounds = bounds_of now n in
    let falling = both_fall bounds selected in
    let low = leftwards falling selected.right bounds.right in
    some-suit variables n low (take (length (value_at now n).letters - low) (drop (leftwards falling bounds.right selected.right) letters))

both-suit : (variables : List Variable) (ps qs : List Part) → AllSuit variables ps → AllSuit variables qs → AllSuit variables (ps ++ qs)
both-suit variables [] qs h k = k
both-suit variables (p ∷ ps) qs h k = (h.0, both-suit variables ps qs h.1 k)

shared_parts-suits : (variables : List Variable) (now : Environment) (targets : List Target) (letters : List Bit4) → AreShaped variables now.values →
    targets_size now targets ≤ length letters → AllSuit variables (shared_parts now targets letters)
shared_parts-suits variables now [] letters h le = tt
shared_parts-suits variables now (target ∷ more) letters h le =
    both-suit variables (parts_of now target (take (target_size now target) (drop (targets_size now more) letters))) (shared_parts now more letters)
    (parts-suit variables now target (take (target_size now target) (drop (targets_size now more) letters)) h
    (part_length (target_size now target) (targets_size now more) letters le))
    (shared_parts-suits variables now more letters h (omega (arith, le)))

given_parts-suits : (variables : List Variable) (targets : List Target) (value : Vector) (now : Environment) → AreShaped variables now.values →
    length value.letters ≡ targets_size now targets → AllSuit variables (given_parts now targets value)
given_parts-suits variables targets value now h len = by (nat_le (targets_size now targets) 64)
  where
    by : (b : Bool) → AllSuit variables (cond b (shared_parts now targets value.letters) [])
    by false = tt
    by true = shared_parts-suits variables now targets value.letters h (omega (arith, len))

assigned_parts-suits : (variables : List Variable) (targets : List Target) (e : ExpressionTree) (now : Environment) → AreShaped variables now.values →
    AllSuit variables (assigned_parts now targets e)
assigned_parts-suits variables targets e now h =
    let size = targets_size now targets in
    given_parts-suits variables targets (right_side now size e) now h (right_side_length now size e)

-- 9.7.7: what is held is cut or extended once more, to the bits that the targets have then
resumed_parts-suits : (variables : List Variable) (targets : List Target) (held : Option Vector) (now : Environment) → AreShaped variables now.values →
    AllSuit variables (resumed_parts now targets held)
resumed_parts-suits variables targets None now h = tt
resumed_parts-suits variables targets (Some value) now h =
    let size = targets_size now targets in
    given_parts-suits variables targets (resize value size) now h (resized_length value size)

-- ---- what waits

suits-behind : (variables : List Variable) (us : List (List Part)) (u : List Part) → UpdatesSuit variables us → AllSuit variables u →
    UpdatesSuit variables (us ++ u ∷ [])
suits-behind variables [] u h suit = (suit, tt)
suits-behind variables (first ∷ us) u h suit = (h.0, suits-behind variables us u h.1 suit)

slot_with_sleeper-suits : (variables : List Variable) (sleeper : Option ℕ) (slot : Later) → UpdatesSuit variables slot.updates →
    UpdatesSuit variables (slot_with_sleeper sleeper slot).updates
slot_with_sleeper-suits variables None slot h = h
slot_with_sleeper-suits variables (Some p) slot h = h

later-suits : (variables : List Variable) (t : ℕ) (put : Later → Later) (es : List (ℕ × Later)) → FutureSuits variables es →
    ((slot : Later) → UpdatesSuit variables slot.updates → UpdatesSuit variables (put slot).updates) →
    FutureSuits variables (later_at t put es)
later-suits variables t put [] h suits = (suits empty_slot tt, tt)
later-suits variables t put (e ∷ es) h suits = by (nat_lt t e.0) (t == e.0) (later-suits variables t put es h.1 suits)
  where
    by : (before at : Bool) → FutureSuits variables (later_at t put es) →
        FutureSuits variables
        (
        cond before ((t, put empty_slot) ∷ e ∷ es)
        (cond at ((e.0, put e.1) ∷ es) (e ∷ later_at t put es))
        )
    by true at rest = (suits empty_slot tt, h)
    by false true rest = (suits e.1 h.0, h.1)
    by false false rest = (h.0, rest)

wake-suits : (variables : List Variable) (t : ℕ) (sleeper : Option ℕ) (es : List (ℕ × Later)) → FutureSuits variables es →
    FutureSuits variables (later_at t (slot_with_sleeper sleeper) es)
wake-suits variables t sleeper es h = later-suits variables t (slot_with_sleeper sleeper) es h (slot_with_sleeper-suits variables sleeper)

update-suits : (variables : List Variable) (t : ℕ) (u : List Part) (es : List (ℕ × Later)) → FutureSuits variables es → AllSuit variables u →
    FutureSuits variables (later_at t (slot_with_update u) es)
update-suits variables t u es h suit =
    later-suits variables t (slot_with_update u) es h (λ slot updates. suits-behind variables slot.updates u updates suit)

-- ---- a step

posts-suit : (variables : List Variable) (posted : Option Post) (q : Queue) → QueueSuits variables q →
    ((post : Post) → posted ≡ Some post → AllSuit variables post.parts) → QueueSuits variables (posts posted q)
posts-suit variables posted q h suit = posts_by (QueueSuits variables) posted q h
    (λ post is. record { activated = h.activated; posted = suits-behind variables q.posted post.parts h.posted (suit post is); future = h.future })
    (record { activated = h.activated; posted = h.posted; future = h.future })
    (λ post t is lt within. record {
      activated = h.activated;
      posted = h.posted;
      future = update-suits variables t post.parts q.future h.future (suit post is);
    })

reschedule-suit : (variables : List Variable) (p : ℕ) (disposition : Disposition) (goes : Option ℕ) (q : Queue) → QueueSuits variables q →
    QueueSuits variables (reschedule p disposition goes q)
reschedule-suit variables p Runnable None q h = record { activated = h.activated; posted = h.posted; future = h.future }
reschedule-suit variables p Runnable (Some same) q h = record { activated = h.activated; posted = h.posted; future = h.future }
reschedule-suit variables p (Delayed d) goes q h =
    sleeps_by (λ (r : Queue). QueueSuits variables (deactivate p r)) d goes q
    (record { activated = h.activated; posted = h.posted; future = h.future })
    (λ r is. record { activated = h.activated; posted = h.posted; future = h.future })
    (record { activated = h.activated; posted = h.posted; future = h.future })
    (λ t later within. record { activated = h.activated; posted = h.posted; future = wake-suits variables t goes q.future h.future })
reschedule-suit variables p (Waiting place) goes q h = record { activated = h.activated; posted = h.posted; future = h.future }

regions-suit : (variables : List Variable) (active : List ℕ) (activated : List (List Part)) (inactive : List ℕ) (posted : List (List Part)) (q : Queue) →
    QueueSuits variables q → UpdatesSuit variables posted → QueueSuits variables (activate_next_region active activated inactive posted q)
regions-suit variables (p ∷ ps) us is posts q h waits = h
regions-suit variables [] (u ∷ us) is posts q h waits = h
regions-suit variables [] [] (i ∷ is) posts q h waits = record { activated = h.activated; posted = h.posted; future = h.future }
regions-suit variables [] [] [] (u ∷ us) q h waits = record { activated = waits; posted = tt; future = h.future }
regions-suit variables [] [] [] [] q h waits = record { activated = h.activated; posted = h.posted; future = h.future }

with_moves-shaped : (variables : List Variable) (s : State) → IsShaped variables s → IsShaped variables (with_moves s)
with_moves-shaped variables s h = by_cause s.cause
  where
    by_cause : (cause : Option Cause) → IsShaped variables (with_moves_by cause s)
    by_cause (Some cause) = h
    by_cause None = record {
      values = h.values;
      queue = regions-suit variables s.queue.active s.queue.activated s.queue.inactive s.queue.posted s.queue h.queue h.queue.posted;
    }

with_woken-shaped : (variables : List Variable) (design : Design) (before : List Vector) (triggered : Option ℕ) (s : State) → IsShaped variables s →
    IsShaped variables (with_moves (with_woken design before triggered s))
with_woken-shaped variables design before triggered s h =
    with_moves-shaped variables (with_woken design before triggered s)
    (record { values = h.values; queue = record { activated = h.queue.activated; posted = h.queue.posted; future = h.queue.future } })

-- what a step writes and posts
record EffectSuits (variables : List Variable) (step : StepResult) : Type 0 where
  pub wrote : AllSuit variables step.effect.wrote
  pub posted : (post : Post) → step.effect.posted ≡ Some post → AllSuit variables post.parts

wait_result-suit : (variables : List Variable) (place : ℕ) (holds : Bool) (body : List ℕ) (after : List Frame) → EffectSuits variables (wait_result place holds body after)
wait_result-suit variables place true body after = record { wrote = tt; posted = λ post is. cc }
wait_result-suit variables place false body after = record { wrote = tt; posted = λ post is. cc }

posted-suits : (variables : List Variable) (delay : ℕ) (u : List Part) (post : Post) → Some (post_after delay u) ≡ Some post → AllSuit variables u →
    AllSuit variables post.parts
posted-suits variables delay u post is suit =
    let same : post_after delay u ≡ post = cc in
    subst (λ (one : Post). AllSuit variables one.parts) same suit

execute-suits : (variables : List Variable) (place : ℕ) (action : Action) (after : List Frame) (now : Environment) → AreShaped variables now.values →
    EffectSuits variables (execute place action after now)
execute-suits variables place (Assign targets value) after now h = record { wrote = assigned_parts-suits variables targets value now h; posted = λ post is. cc }
execute-suits variables place (Nonblocking targets value) after now h = record {
  wrote = tt;
  posted = λ post is. posted-suits variables 0 (assigned_parts now targets value) post is (assigned_parts-suits variables targets value now h);
}
execute-suits variables place (AssignDelayed amount targets value) after now h = record { wrote = tt; posted = λ post is. cc }
execute-suits variables place (NonblockingDelayed amount targets value) after now h = record {
  wrote = tt;
  posted = λ post is.
      posted-suits variables (delay_of now amount) (assigned_parts now targets value) post is (assigned_parts-suits variables targets value now h);
}
execute-suits variables place (Trigger event) after now h = record { wrote = tt; posted = λ post is. cc }
execute-suits variables place (Delay amount body) after now h = record { wrote = tt; posted = λ post is. cc }
execute-suits variables place (EventControl terms body) after now h = record { wrote = tt; posted = λ post is. cc }
execute-suits variables place (Wait condition terms body) after now h = wait_result-suit variables place (holds_at now condition) body after
execute-suits variables place (Case kind value branches otherwise) after now h = record { wrote = tt; posted = λ post is. cc }
execute-suits variables place (Repeat count body) after now h = record { wrote = tt; posted = λ post is. cc }
execute-suits variables place (ContinuousAssign targets value terms) after now h = record { wrote = assigned_parts-suits variables targets value now h; posted = λ post is. cc }
execute-suits variables place (Print Now pieces) after now h = record { wrote = tt; posted = λ post is. cc }
execute-suits variables place (Print AtSlotEnd pieces) after now h = record { wrote = tt; posted = λ post is. cc }
execute-suits variables place (Print AtChange pieces) after now h = record { wrote = tt; posted = λ post is. cc }
execute-suits variables place (DumpVars selection) after now h = record { wrote = tt; posted = λ post is. cc }
execute-suits variables place (Dump switch) after now h = record { wrote = tt; posted = λ post is. cc }
execute-suits variables place NoOperation after now h = record { wrote = tt; posted = λ post is. cc }
execute-suits variables place Finish after now h = record { wrote = tt; posted = λ post is. cc }
execute-suits variables place Stop after now h = record { wrote = tt; posted = λ post is. cc }
execute-suits variables place (Test condition when_true otherwise) after now h = record { wrote = tt; posted = λ post is. cc }
execute-suits variables place (While condition body) after now h = record { wrote = tt; posted = λ post is. cc }
execute-suits variables place (Forever body) after now h = record { wrote = tt; posted = λ post is. cc }

execute_turn-suit : (variables : List Variable) (place n : ℕ) (action : Action) (after : List Frame) → EffectSuits variables (execute_turn place n action after)
execute_turn-suit variables place n (Repeat count body) after = record { wrote = tt; posted = λ post is. cc }
execute_turn-suit variables place n _ after = record { wrote = tt; posted = λ post is. cc }

resume-suit : (variables : List Variable) (place : ℕ) (action : Action) (after : List Frame) (held : Option Vector) (now : Environment) → AreShaped variables now.values →
    EffectSuits variables (resume place action after held now)
resume-suit variables place (AssignDelayed amount targets value) after held now h =
    record { wrote = resumed_parts-suits variables targets held now h; posted = λ post is. cc }
resume-suit variables place _ after held now h = record { wrote = tt; posted = λ post is. cc }

execute_at-suits : (variables : List Variable) (frame : Frame) (action : Action) (after : List Frame) (held : Option Vector) (now : Environment) → AreShaped variables now.values →
    EffectSuits variables (execute_at frame action after held now)
execute_at-suits variables (Executing place) action after held now h = execute-suits variables place action after now h
execute_at-suits variables (Repeating place n) action after held now h = execute_turn-suit variables place n action after
execute_at-suits variables (Writing place) action after held now h = resume-suit variables place action after held now h

with_step-shaped : (variables : List Variable) (p : ℕ) (step : StepResult) (s : State) → IsShaped variables s → EffectSuits variables step → IsShaped variables (with_step p step s)
with_step-shaped variables p step s h suits = record {
  values = shaped-with_parts variables step.effect.wrote s.values h.values suits.wrote;
  queue = let q = with_strobe step.effect.strobed s.queue in
      reschedule-suit variables p step.effect.disposition (process_to_continue p step.continuation) (posts step.effect.posted q)
      (posts-suit variables step.effect.posted q (record { activated = h.queue.activated; posted = h.queue.posted; future = h.queue.future }) suits.posted);
}

action_transition-shaped : (variables : List Variable) (design : Design) (p : ℕ) (frame : Frame) (action : Option Action) (after : List Frame) (s : State) → IsShaped variables s →
    IsShaped variables (action_transition design p frame action after s).state
action_transition-shaped variables design p frame None after s h = h
action_transition-shaped variables design p frame (Some action) after s h =
    let step = execute_at frame action after (held_of (slice_get s.processes p)) (environment_of design s) in
    with_woken-shaped variables design s.values step.effect.triggered (with_step p step s) (with_step-shaped variables p step s h (execute_at-suits variables frame action after (held_of (slice_get s.processes p)) (environment_of design s) h.values))

process-shaped : (variables : List Variable) (design : Design) (p : ℕ) (continuation : List Frame) (s : State) → IsShaped variables s →
    IsShaped variables (continuation_transition design p continuation s).state
process-shaped variables design p [] s h = h
process-shaped variables design p (frame ∷ after) s h = action_transition-shaped variables design p frame (slice_get design.actions (place_of frame)) after s h

with_update-shaped : (variables : List Variable) (us : List (List Part)) (s : State) → UpdatesSuit variables us → IsShaped variables s →
    IsShaped variables (record s { values = with_parts (first_of us) s.values; queue = without_update us s.queue })
with_update-shaped variables [] s suit h = record { values = h.values; queue = h.queue }
with_update-shaped variables (u ∷ us) s suit h = record {
  values = shaped-with_parts variables u s.values h.values suit.0;
  queue = record { activated = suit.1; posted = h.queue.posted; future = h.queue.future };
}

advanced-suits : (variables : List Variable) (future : List (ℕ × Later)) (q : Queue) → FutureSuits variables future → QueueSuits variables q →
    QueueSuits variables (with_advance future q)
advanced-suits variables [] q suit h = h
advanced-suits variables (e ∷ es) q suit h = record { activated = h.activated; posted = suit.0; future = suit.1 }

transition-shaped : (variables : List Variable) (design : Design) (c : Choice) (s : State) → IsShaped variables s → IsShaped variables (transition_of design c s).state
transition-shaped variables design (Run p) s h = process-shaped variables design p (continuation_of (slice_get s.processes p)) s h
transition-shaped variables design Update s h = with_woken-shaped variables design s.values None (with_update s) (with_update-shaped variables s.queue.activated s h.queue.activated h)
transition-shaped variables design Advance s h =
    with_moves-shaped variables (record s { queue = with_advance s.queue.future s.queue })
    (record { values = h.values; queue = advanced-suits variables s.queue.future s.queue h.queue.future h.queue })

next-shaped : (variables : List Variable) (design : Design) (s : State) (i : ℕ) → IsShaped variables s → IsShaped variables (next design s i).state
next-shaped variables design s i h = by_choice (slice_get (choices s) i)
  where
    by_choice : (o : Option Choice) → IsShaped variables (transition_by design s i o).state
    by_choice None = h
    by_choice (Some c) = let after = transition-shaped variables design c s h in record { values = after.values; queue = after.queue }

-- ---- the run

opening-shape : (variable : Variable) → HasShape variable (opening_value variable)
opening-shape variable =
    let x : Vector = resize variable.start variable.length in
    (ap length (marked x variable.signed).0 ∙ resized_length variable.start variable.length, (marked x variable.signed).1)

opening-shaped : (variables : List Variable) → AreShaped variables (map opening_value variables)
opening-shaped [] = tt
opening-shaped (x ∷ xs) = (opening-shape x, opening-shaped xs)

shaped-after : (setting : Setting) (log : List (ℕ × ℕ)) (n : ℕ) → IsShaped setting.design.variables (state_after setting log n)
shaped-after setting log zero =
    subst (IsShaped setting.design.variables) (sym (opening_is setting))
    (record { values = opening-shaped setting.design.variables; queue = record { activated = tt; posted = tt; future = tt } })
shaped-after setting log (suc n) =
    let s = state_after setting log n in
    let i = choice_at log n in
    subst (IsShaped setting.design.variables) (sym (after_is setting s i))
    (next-shaped setting.design.variables setting.design s i (shaped-after setting log n))

pub as_shaped : (setting : Setting) (log : List (ℕ × ℕ)) (n : ℕ) → AreShaped setting.design.variables (state_after setting log n).values
as_shaped setting log n = (shaped-after setting log n).values
