-- Which variables may have changed: by parts that are written, one after another, and what is left of them.
use Rattle.std.proofs.Common.{◌≡◌, ◌≢◌, ℕ, zero, suc, ◌<◌, ◌≤◌, ◌==◌, ◌||◌, ◌&&◌, Bool, true, false, not, is_some, if◌then◌else◌, List, [], ◌∷◌, ◌++◌, length, Option, Some, None, refl, sym, ap, subst, ◌∙◌, arith, append_assoc}
use Rattle.std.specs.Prelude.{slice_get, slice_set}
use Rattle.std.proofs.lemmas.Bool.Decides.{nat_tests}
use Rattle.std.proofs.lemmas.List.{length-set}
use Rattle.basis.proofs.Bools.{or_left, or_right}
use Rattle.basis.proofs.Lists.{place_within}
use Rattle.sched_core.specs.declared.end.Cause.{Cause}
use Rattle.vbits.specs.Vectors.{Vector}
use Rattle.vdesign.specs.Design.{Design}
use Rattle.vmodel.specs.declared.history.Item.{Item}
use Rattle.vmodel.specs.declared.history.Item.TheVariants.{SlotEnd}
use Rattle.vmodel.specs.declared.effect.Shown.{Shown}
use Rattle.vmodel.specs.declared.effect.Shown.TheVariants.{Commands, Prints, Watches}
use Rattle.vmodel.specs.declared.part.Part.{Part}
use Rattle.vmodel.specs.Inner.{variable_of, value_over}
use Rattle.vmodel.specs.Parts.{value_in, write, with_parts}
use Rattle.vmodel.specs.Choices.{choices}
use Rattle.vmodel.specs.Run.{is_mark}
use Rattle.vmodel.specs.declared.choice.Choice.{Choice}
use Rattle.vmodel.specs.declared.choice.Choice.TheVariants.{Run, Update, Advance}
use Rattle.vmodel.specs.declared.frame.Frame.{Frame}
use Rattle.vdesign.specs.declared.action.Action.{Action}
use Rattle.vmodel.specs.State.{State}
use Rattle.vmodel.specs.Step.{Transition, StepResult, place_of, continuation_of, held_of, environment_of, execute_at, with_step, with_woken, with_update, with_advance, with_moves_by, action_transition, continuation_transition, transition_of, transition_by, next, idle_items, slot_end_by, slot_end_of, shown_items, strobe_items, before_end, items_of}
use Rattle.vmodel.specs.Touched.{is_in, ChangesOnly, ChangesOnlySince, TouchesToo, variables_of, IsKeptAs, HasNoSlotEnd, is_slot_end, end_due, front_items}
use Rattle.vmodel.proofs.PartLemmas.{write_is, written_length}

-- ---- values

-- two lists of one length that have the same at each place are one
pub same_throughout : (xs ys : List Vector) → length xs ≡ length ys → ((n : ℕ) → slice_get xs n ≡ slice_get ys n) → xs ≡ ys
same_throughout [] [] long same = refl
same_throughout [] (y ∷ ys) long same = absurd (omega (arith, long))
same_throughout (x ∷ xs) [] long same = absurd (omega (arith, long))
same_throughout (x ∷ xs) (y ∷ ys) long same =
    let first : x ≡ y = let some : Some x ≡ Some y = same 0 in cc in
    let rest : xs ≡ ys = same_throughout xs ys (omega (arith, long)) (λ n. same (suc n)) in
    λ i. first i ∷ rest i

-- what stands elsewhere stays
pub set_elsewhere : (values : List Vector) (m n : ℕ) (new : Vector) → (n == m) ≡ false → slice_get (slice_set values m new) n ≡ slice_get values n
set_elsewhere [] m n new e = refl
set_elsewhere (v ∷ vs) zero zero new e = absurd (grind (arith, nat_tests))
set_elsewhere (v ∷ vs) zero (suc n) new e = refl
set_elsewhere (v ∷ vs) (suc m) zero new e = refl
set_elsewhere (v ∷ vs) (suc m) (suc n) new e = set_elsewhere vs m n new (let ne : n ≢ m = grind (arith, nat_tests) in grind (arith, nat_tests))

-- and what is set stands there
set_there : (values : List Vector) (m : ℕ) (new : Vector) → m < length values → slice_get (slice_set values m new) m ≡ Some new
set_there [] m new lt = absurd (omega (arith, lt))
set_there (v ∷ vs) zero new lt = refl
set_there (v ∷ vs) (suc m) new lt = set_there vs m new (omega (arith, lt))

read_nowhere : (values : List Vector) (m : ℕ) → length values ≤ m → slice_get values m ≡ None
read_nowhere [] m le = refl
read_nowhere (w ∷ ws) zero le = absurd (omega (arith, le))
read_nowhere (w ∷ ws) (suc m) le = read_nowhere ws m (omega (arith, le))

nowhere_above : (values : List Vector) (m : ℕ) → slice_get values m ≡ None → length values ≤ m
nowhere_above [] m none = omega arith
nowhere_above (w ∷ ws) zero none = absurd cc
nowhere_above (w ∷ ws) (suc m) none = omega (arith, nowhere_above ws m none)

-- ---- values that become others, variable by variable

-- the first of the variables that may differ gets its value
pub assigned_there : (m : ℕ) (ms : List ℕ) (old new after : List Vector) (v : Vector) → slice_get new m ≡ Some v → after ≡ slice_set old m v →
    ChangesOnly (Some (m ∷ ms)) old new → ChangesOnly (Some ms) after new
assigned_there m ms old new after v is set (long, same) = subst (λ (vs : List Vector). ChangesOnly (Some ms) vs new) (sym set)
    (long ∙ sym (length-set old m v), λ n out. by n out (n == m) refl)
  where
    by : (n : ℕ) → is_in n ms ≡ false → (b : Bool) → (n == m) ≡ b → slice_get new n ≡ slice_get (slice_set old m v) n
    by n out true e =
        let one : n ≡ m = grind (arith, nat_tests) in
        ap (slice_get new) one ∙ is ∙ sym (set_there old m v (omega (arith, place_within new m v is, long))) ∙ ap (slice_get (slice_set old m v)) (sym one)
    by n out false e = same n (ap (λ b. b || is_in n ms) e ∙ out) ∙ sym (set_elsewhere old m n v e)

-- one that isn't there needs none
pub assigned_nowhere : (m : ℕ) (ms : List ℕ) (old new : List Vector) → slice_get new m ≡ None → ChangesOnly (Some (m ∷ ms)) old new → ChangesOnly (Some ms) old new
assigned_nowhere m ms old new none (long, same) = (long, λ n out. by n out (n == m) refl)
  where
    by : (n : ℕ) → is_in n ms ≡ false → (b : Bool) → (n == m) ≡ b → slice_get new n ≡ slice_get old n
    by n out true e =
        let one : n ≡ m = grind (arith, nat_tests) in
        read_nowhere new n (omega (arith, nowhere_above new m none, one)) ∙ sym (read_nowhere old n (omega (arith, nowhere_above new m none, one, long)))
    by n out false e = same n (ap (λ b. b || is_in n ms) e ∙ out)

-- where no variable may differ they are the same
pub assigned_all : (old new : List Vector) → ChangesOnly (Some []) old new → old ≡ new
assigned_all old new (long, same) = same_throughout old new (sym long) (λ n. sym (same n refl))

-- ---- parts

-- a variable of none of the parts keeps its value
pub written_elsewhere : (parts : List Part) (values : List Vector) (n : ℕ) → is_in n (variables_of parts) ≡ false → slice_get (with_parts parts values) n ≡ slice_get values n
written_elsewhere [] values n out = refl
written_elsewhere (part ∷ parts) values n out =
    written_elsewhere parts (write part values) n (or_right (n == variable_of part) (is_in n (variables_of parts)) out)
    ∙ ap (λ vs. slice_get vs n) (write_is part values)
    ∙ set_elsewhere values (variable_of part) n (value_over part (value_in values (variable_of part))) (or_left (n == variable_of part) (is_in n (variables_of parts)) out)

-- since what was kept only those changed that may have, and these
pub changes_more : (wrote : List Part) (touched more : Option (List ℕ)) (kept : Option (List Vector)) (values : List Vector) → TouchesToo (variables_of wrote) touched more →
    ChangesOnlySince touched kept values → ChangesOnlySince more kept (with_parts wrote values)
changes_more wrote touched more None values too since = tt
changes_more wrote touched None (Some old) values too since = tt
changes_more wrote None (Some list) (Some old) values too since = absurd (let none : Some list ≡ None = too in cc)
changes_more wrote (Some before) (Some list) (Some old) values too (long, same) = (
  written_length wrote values ∙ long,
  λ n out. written_elsewhere wrote values n (too n out).1 ∙ same n (too n out).0,
)

-- ---- variables that are touched one after another

pub touches_none : (old : Option (List ℕ)) → TouchesToo [] old old
touches_none None = refl
touches_none (Some old) = λ n out. (out, refl)

pub touches_any : (more : List ℕ) (old : Option (List ℕ)) → TouchesToo more old None
touches_any more None = refl
touches_any more (Some old) = tt

in_one : (n m : ℕ) → is_in n (m ∷ []) ≡ (n == m)
in_one n m = by (n == m)
  where
    by : (b : Bool) → (b || false) ≡ b
    by true = refl
    by false = refl

-- one that was among them
pub touches_again : (m : ℕ) (old : List ℕ) → is_in m old ≡ true → TouchesToo (m ∷ []) (Some old) (Some old)
touches_again m old there = λ n out. (out, in_one n m ∙ by n out (n == m) refl)
  where
    by : (n : ℕ) → is_in n old ≡ false → (b : Bool) → (n == m) ≡ b → b ≡ false
    by n out true e =
        let one : n ≡ m = grind (arith, nat_tests) in
        let none : is_in m old ≡ false = ap (λ k. is_in k old) (sym one) ∙ out in cc
    by n out false e = refl

in_both : (n : ℕ) (xs ys : List ℕ) → is_in n (xs ++ ys) ≡ false → (is_in n xs ≡ false) × (is_in n ys ≡ false)
in_both n [] ys out = (refl, out)
in_both n (x ∷ xs) ys out =
    let rest = in_both n xs ys (or_right (n == x) (is_in n (xs ++ ys)) out) in
    (ap (λ b. b || is_in n xs) (or_left (n == x) (is_in n (xs ++ ys)) out) ∙ rest.0, rest.1)

-- one more
pub touches_more : (m : ℕ) (old : List ℕ) → TouchesToo (m ∷ []) (Some old) (Some (old ++ m ∷ []))
touches_more m old = λ n out. in_both n old (m ∷ []) out

pub touches_then : (m : ℕ) (ms : List ℕ) (old mid new : Option (List ℕ)) → TouchesToo (m ∷ []) old mid → TouchesToo ms mid new → TouchesToo (m ∷ ms) old new
touches_then m ms None mid new first rest = subst (λ (o : Option (List ℕ)). TouchesToo ms o new) first rest
touches_then m ms (Some old) mid None first rest = tt
touches_then m ms (Some old) None (Some new) first rest = absurd (let none : Some new ≡ None = rest in cc)
touches_then m ms (Some old) (Some mid) (Some new) first rest = λ n out.
    let later = rest n out in
    let one = first n later.0 in
    (one.0, ap (λ b. b || is_in n ms) (sym (in_one n m) ∙ one.1) ∙ later.1)

-- the same of the set that keeps them
pub touches_pushed : (any : Bool) (m : ℕ) (old new : List ℕ) (now : Option (List ℕ)) → any ≡ false → (if any then None else Some old) ≡ now → new ≡ old ++ m ∷ [] →
    TouchesToo (m ∷ []) now (if any then None else Some new)
touches_pushed true m old new now none is more = absurd cc
touches_pushed false m old new now none is more =
    subst (λ (o : Option (List ℕ)). TouchesToo (m ∷ []) o (Some new)) is
    (subst (λ (list : List ℕ). TouchesToo (m ∷ []) (Some old) (Some list)) (sym more) (touches_more m old))

-- ---- the end of a slot

pub not_idle : (active : List ℕ) (activated : List (List Part)) (time : ℕ) (values : List Vector) →
    (length active == 0 && length activated == 0) ≡ false → idle_items active activated time values ≡ []
not_idle [] [] time values e = absurd (grind arith)
not_idle [] (u ∷ us) time values e = refl
not_idle (p ∷ ps) us time values e = refl

pub idle : (active : List ℕ) (activated : List (List Part)) (time : ℕ) (values : List Vector) →
    (length active == 0 && length activated == 0) ≡ true → idle_items active activated time values ≡ SlotEnd time values ∷ []
idle [] [] time values e = refl
idle [] (u ∷ us) time values e = absurd (grind arith)
idle (p ∷ ps) us time values e = absurd (grind arith)

idle_items_are : (active : List ℕ) (activated : List (List Part)) (s : State) →
    idle_items active activated s.queue.time s.values ≡ end_due (length active == 0 && length activated == 0) s
idle_items_are active activated s = by (length active == 0 && length activated == 0) refl
  where
    by : (b : Bool) → (length active == 0 && length activated == 0) ≡ b → idle_items active activated s.queue.time s.values ≡ end_due b s
    by true e = idle active activated s.queue.time s.values e
    by false e = not_idle active activated s.queue.time s.values e

slot_end_is_by : (cause : Option Cause) (s : State) → slot_end_by cause s ≡ end_due (not (is_some cause) && (length s.queue.active == 0 && length s.queue.activated == 0)) s
slot_end_is_by (Some cause) s = refl
slot_end_is_by None s = idle_items_are s.queue.active s.queue.activated s

-- the end of a slot comes where one is
pub slot_end_is : (s : State) → slot_end_of s ≡ end_due (is_slot_end s) s
slot_end_is s = slot_end_is_by s.cause s

before_it : (due : Bool) (strobes : List Item) (s : State) → before_end strobes (end_due due s) ≡ (if due then strobes else []) ++ end_due due s
before_it true strobes s = refl
before_it false strobes s = refl

-- what a step gives is what comes before the end of the slot, and that end
pub front_and_end : (design : Design) (t : Transition) → items_of design t ≡ front_items design t ++ slot_end_of t.state
front_and_end design t =
    let shown : List Item = shown_items design t.state t.effect.shown in
    let strobes : List Item = strobe_items design t.state t.monitors in
    ap (λ (ends : List Item). shown ++ before_end strobes ends) (slot_end_is t.state)
    ∙ ap (λ (items : List Item). shown ++ items) (before_it (is_slot_end t.state) strobes t.state)
    ∙ sym (append_assoc shown (if is_slot_end t.state then strobes else []) (end_due (is_slot_end t.state) t.state))
    ∙ ap (λ (ends : List Item). front_items design t ++ ends) (sym (slot_end_is t.state))

no_end_in_shown : (design : Design) (s : State) (shown : Option Shown) → HasNoSlotEnd (shown_items design s shown)
no_end_in_shown design s None = tt
no_end_in_shown design s (Some (Commands command)) = (refl, tt)
no_end_in_shown design s (Some (Prints place)) = (refl, tt)
no_end_in_shown design s (Some (Watches place)) = (refl, tt)

no_end_in_strobes : (design : Design) (s : State) (places : List ℕ) → HasNoSlotEnd (strobe_items design s places)
no_end_in_strobes design s [] = tt
no_end_in_strobes design s (place ∷ places) = (refl, no_end_in_strobes design s places)

pub no_end_in_both : (xs ys : List Item) → HasNoSlotEnd xs → HasNoSlotEnd ys → HasNoSlotEnd (xs ++ ys)
no_end_in_both [] ys h k = k
no_end_in_both (x ∷ xs) ys h k = (h.0, no_end_in_both xs ys h.1 k)

strobes_if : (due : Bool) (design : Design) (s : State) (places : List ℕ) → HasNoSlotEnd (if due then strobe_items design s places else [])
strobes_if true design s places = no_end_in_strobes design s places
strobes_if false design s places = tt

-- nothing of the front ends a slot
pub no_end_in_front : (design : Design) (t : Transition) → HasNoSlotEnd (front_items design t)
no_end_in_front design t =
    no_end_in_both (shown_items design t.state t.effect.shown) (if is_slot_end t.state then strobe_items design t.state t.monitors else [])
    (no_end_in_shown design t.state t.effect.shown) (strobes_if (is_slot_end t.state) design t.state t.monitors)

-- a slot end is a mark
pub slot_end_marks : (s : State) → is_slot_end s ≡ true → is_mark s ≡ true
slot_end_marks s e = by (is_some s.cause) (length s.queue.active == 0 && length s.queue.activated == 0) e
  where
    by : (ended idle : Bool) → (not ended && idle) ≡ true → (ended || idle) ≡ true
    by true idle e = refl
    by false idle e = e

-- where any variable may have changed, nothing is asked
pub since_any : (kept : Option (List Vector)) (values : List Vector) → ChangesOnlySince None kept values
since_any None values = tt
since_any (Some old) values = tt

-- where what is kept are these values, no variable has changed
pub since_none : (kept : Option (List Vector)) (values : List Vector) → IsKeptAs values kept → ChangesOnlySince (Some []) kept values
since_none None values is = tt
since_none (Some old) values is = (ap length (sym is), λ n out. ap (λ (vs : List Vector). slice_get vs n) (sym is))

-- ---- what a step writes

-- the region moves change no value
pub moves_keep : (cause : Option Cause) (s : State) → (with_moves_by cause s).values ≡ s.values
moves_keep (Some cause) s = refl
moves_keep None s = refl

process_writes : (design : Design) (p : ℕ) (frames : List Frame) (s : State) →
    (continuation_transition design p frames s).state.values ≡ with_parts (continuation_transition design p frames s).effect.wrote s.values
process_writes design p [] s = refl
process_writes design p (frame ∷ after) s = by (slice_get design.actions (place_of frame))
  where
    by : (o : Option Action) → (action_transition design p frame o after s).state.values ≡ with_parts (action_transition design p frame o after s).effect.wrote s.values
    by None = refl
    by (Some action) =
        let step : StepResult = execute_at frame action after (held_of (slice_get s.processes p)) (environment_of design s) in
        moves_keep step.effect.cause (with_woken design s.values step.effect.triggered (with_step p step s))

pub transition_writes : (design : Design) (c : Choice) (s : State) → (transition_of design c s).state.values ≡ with_parts (transition_of design c s).effect.wrote s.values
transition_writes design (Run p) s = process_writes design p (continuation_of (slice_get s.processes p)) s
transition_writes design Update s = moves_keep s.cause (with_woken design s.values None (with_update s))
transition_writes design Advance s = moves_keep s.cause (record s { queue = with_advance s.queue.future s.queue })

-- a step changes the values by what it writes, and not otherwise
pub next_writes : (design : Design) (s : State) (i : ℕ) → (next design s i).state.values ≡ with_parts (next design s i).effect.wrote s.values
next_writes design s i = by (slice_get (choices s) i)
  where
    by : (o : Option Choice) → (transition_by design s i o).state.values ≡ with_parts (transition_by design s i o).effect.wrote s.values
    by None = refl
    by (Some c) = transition_writes design c s
