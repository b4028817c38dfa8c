-- The bag of a state has each line as often as it stands in what its slot has printed.
use Rattle.std.proofs.Common.{◌≡◌, inl, inr, ℕ, zero, suc, ◌+◌, Bool, true, false, cond, List, [], ◌∷◌, ◌++◌, Option, Some, None, refl, sym, ap, subst, ◌∙◌, arith, append_assoc}
use Rattle.std.specs.Prelude.{nat_eq}
use Rattle.std.specs.Cmp.{unsigned_Decides}
use Rattle.std.specs.Cmp.Lexicographic.{pointwise, slice_cmp}
use Rattle.std.specs.Ordering.{nat_cmp}
use Rattle.std.specs.declared.cmp.Ordering.{Ordering}
use Rattle.std.specs.declared.cmp.Ordering.TheVariants.{Less, Equal, Greater}
use Rattle.std.proofs.lemmas.List.{append-nil}
use Rattle.basis.proofs.Lists.{listed_place}
use Rattle.sched_core.specs.Bags.{insert_by, with_line, is_whole, lines_of, whole_lines, piece_of, with_each, with_text}
use Rattle.sched_core.specs.Tests.{list_tells}
use Rattle.sched_core.proofs.PieceLemmas.{lines_of-append, piece-with_text}
use Rattle.sched_core.specs.Rules.{choice_at, IsRun}
use Rattle.sched_core.specs.declared.end.Cause.{Cause}
use Rattle.sched_core.specs.declared.setting.Looked.TheVariants.{Lines}
use Rattle.vbits.specs.Vectors.{Vector}
use Rattle.vdesign.specs.Design.{Design}
use Rattle.vmodel.specs.declared.history.Item.{Item}
use Rattle.vmodel.specs.declared.history.Item.TheVariants.{SlotEnd, Dump, Line, Monitor}
use Rattle.vmodel.specs.declared.effect.Shown.{Shown}
use Rattle.vmodel.specs.declared.effect.Shown.TheVariants.{Commands, Prints, Watches}
use Rattle.vmodel.specs.declared.part.Part.{Part}
use Rattle.vmodel.specs.declared.choice.Choice.{Choice}
use Rattle.vmodel.specs.declared.choice.Choice.TheVariants.{Run, Update, Advance}
use Rattle.vmodel.specs.State.{State}
use Rattle.vmodel.specs.Choices.{choices}
use Rattle.vmodel.specs.Printed.{with_item, with_lines, lines_before, printed_after}
use Rattle.vmodel.specs.Step.{Transition, transition_of, shown_items, idle_items, slot_end_by, slot_end_of, strobe_items, before_end, items_of, with_held_after, with_views, transition_by, next}
use Rattle.vmodel.specs.Run.{Setting, rules_of, opening_of, printed_at_first, state_after, items_after}
use Rattle.vmodel.specs.RunProgress.{opening_is, width_is, after_is}
use Rattle.plain_steps.specs.RunLaws.{IsAlwaysKept}
use Rattle.vmodel.specs.SlotEnds.{IsIdle}
use Rattle.holding_law.specs.SlotLines.{times_in, printed_in, AreWithin, IsSlot, HasSlotLines}
use Rattle.holding_law.proofs.MemberLemmas.{IsIn}
use Rattle.holding_law.proofs.MayLemmas.{MayGo, may_go}
use Rattle.holding_law.proofs.SeenLemmas.{items-seen}

-- ---- how often a line stands in a list

abbrev TimesOfOne : List ℕ → List ℕ → ℕ
TimesOfOne line one = times_in line (one ∷ [])

counts_on : (b : Bool) (n : ℕ) → cond b (suc n) n ≡ cond b 1 0 + n
counts_on true n = omega arith
counts_on false n = omega arith

times-cons : (line one : List ℕ) (more : List (List ℕ)) → times_in line (one ∷ more) ≡ TimesOfOne line one + times_in line more
times-cons line one more = counts_on (pointwise nat_eq line one) (times_in line more)

times-placed : (o : Ordering) (line text first : List ℕ) (later rest : List (List ℕ)) → times_in line later ≡ TimesOfOne line text + times_in line rest →
    times_in line (insert_by o text first later rest) ≡ TimesOfOne line text + times_in line (first ∷ rest)
times-placed Greater line text first later rest then = omega (arith, then, times-cons line first later, times-cons line first rest)
times-placed Equal line text first later rest then = times-cons line text (first ∷ rest)
times-placed Less line text first later rest then = times-cons line text (first ∷ rest)

times-with_line : (line text : List ℕ) (bag : List (List ℕ)) → times_in line (with_line text bag) ≡ TimesOfOne line text + times_in line bag
times-with_line line text [] = times-cons line text []
times-with_line line text (first ∷ rest) =
    times-placed (slice_cmp nat_cmp text first) line text first (with_line text rest) rest (times-with_line line text rest)

times-with_each : (line : List ℕ) (lines bag : List (List ℕ)) → times_in line (with_each lines bag) ≡ times_in line lines + times_in line bag
times-with_each line [] bag = omega arith
times-with_each line (one ∷ lines) bag =
    omega (arith, times-with_each line lines (with_line one bag), times-with_line line one bag, times-cons line one lines)

times-both : (line : List ℕ) (xs ys : List (List ℕ)) → times_in line (xs ++ ys) ≡ times_in line xs + times_in line ys
times-both line [] ys = omega arith
times-both line (one ∷ xs) ys = omega (arith, times-both line xs ys, times-cons line one xs, times-cons line one (xs ++ ys))

times-cond : (line one : List ℕ) (more : List (List ℕ)) (w : Bool) →
    times_in line (cond w (one ∷ more) more) ≡ cond w (times_in line (one ∷ more)) (times_in line more)
times-cond line one more true = refl
times-cond line one more false = refl

whole_counts : (e w l : Bool) (t n : ℕ) → (e ≡ true → l ≡ w) → t ≡ cond l n 0 → cond w (cond e (suc t) t) t ≡ cond l (cond e (suc n) n) 0
whole_counts true true true t n same is = ap suc is
whole_counts true true false t n same is = let wrong : false ≡ true = same refl in cc
whole_counts true false true t n same is = let wrong : true ≡ false = same refl in cc
whole_counts true false false t n same is = is
whole_counts false true true t n same is = is
whole_counts false true false t n same is = is
whole_counts false false true t n same is = is
whole_counts false false false t n same is = is

none_counts : (l : Bool) (n : ℕ) → n ≡ cond l n n
none_counts true n = refl
none_counts false n = refl

-- the whole lines of a list are there as often as in the list
times-whole : (line : List ℕ) (lines : List (List ℕ)) → times_in line (whole_lines lines) ≡ cond (is_whole line) (times_in line lines) 0
times-whole line [] = none_counts (is_whole line) 0
times-whole line (one ∷ lines) =
    times-cond line one (whole_lines lines) (is_whole one)
    ∙ whole_counts (pointwise nat_eq line one) (is_whole one) (is_whole line) (times_in line (whole_lines lines)) (times_in line lines)
    (λ e. ap is_whole ((list_tells nat_eq unsigned_Decides line one).0 e)) (times-whole line lines)

-- ---- the bag of what was printed

record IsBagOf (printed : List ℕ) (bag : List (List ℕ)) : Type 0 where
  times : (line : List ℕ) → times_in line bag ≡ times_in line (lines_of printed)
  piece : piece_of bag ≡ piece_of (lines_of printed)

bag-with_text : (text printed : List ℕ) (bag : List (List ℕ)) → IsBagOf printed bag → IsBagOf (printed ++ text) (with_text text bag)
bag-with_text text printed bag is = record {
  times = λ line.
      omega (
        arith,
        times-with_each line (lines_of (piece_of bag ++ text)) (whole_lines bag),
        times-whole line bag
            ∙ ap (λ (n : ℕ). cond (is_whole line) n 0) (is.times line)
            ∙ sym (times-whole line (lines_of printed)),
        ap (λ (piece : List ℕ). times_in line (lines_of (piece ++ text))) is.piece,
        ap (times_in line) (lines_of-append printed text),
        times-both line (whole_lines (lines_of printed)) (lines_of (piece_of (lines_of printed) ++ text)),
      );
  piece = piece-with_text text printed bag is.piece;
}

bag-with_lines : (items : List Item) (printed : List ℕ) (bag : List (List ℕ)) → IsBagOf printed bag → IsBagOf (printed ++ printed_in items) (with_lines items bag)
bag-with_lines [] printed bag is = subst (λ (x : List ℕ). IsBagOf x bag) (sym (append-nil printed)) is
bag-with_lines (Line text ∷ items) printed bag is =
    subst (λ (x : List ℕ). IsBagOf x (with_lines items (with_text text bag))) (append_assoc printed text (printed_in items))
    (bag-with_lines items (printed ++ text) (with_text text bag) (bag-with_text text printed bag is))
bag-with_lines (SlotEnd time values ∷ items) printed bag is = bag-with_lines items printed bag is
bag-with_lines (Dump command ∷ items) printed bag is = bag-with_lines items printed bag is
bag-with_lines (Monitor place ∷ items) printed bag is = bag-with_lines items printed bag is

with_lines-both : (xs ys : List Item) (bag : List (List ℕ)) → with_lines (xs ++ ys) bag ≡ with_lines ys (with_lines xs bag)
with_lines-both [] ys bag = refl
with_lines-both (item ∷ xs) ys bag = with_lines-both xs ys (with_item item bag)

-- ---- what a step gives

within-both : (xs ys : List Item) → AreWithin xs → AreWithin ys → AreWithin (xs ++ ys)
within-both [] ys one two = two
within-both (Line text ∷ xs) ys one two = within-both xs ys one two
within-both (SlotEnd time values ∷ xs) ys one two = absurd one
within-both (Dump command ∷ xs) ys one two = within-both xs ys one two
within-both (Monitor place ∷ xs) ys one two = within-both xs ys one two

within-shown : (design : Design) (s : State) (shown : Option Shown) → AreWithin (shown_items design s shown)
within-shown design s None = tt
within-shown design s (Some (Commands command)) = tt
within-shown design s (Some (Prints place)) = tt
within-shown design s (Some (Watches place)) = tt

within-strobes : (design : Design) (s : State) (places : List ℕ) → AreWithin (strobe_items design s places)
within-strobes design s [] = tt
within-strobes design s (place ∷ places) = within-strobes design s places

-- these items, and the slot end of the state if there is one
record Gives (items ends : List Item) : Type 0 where
  inner : List Item
  is : items ≡ inner ++ ends
  within : AreWithin inner

gives_end : (strobes ends : List Item) → AreWithin strobes → Gives (before_end strobes ends) ends
gives_end strobes [] within = record { inner = []; is = refl; within = tt }
gives_end strobes (end ∷ ends) within = record { inner = strobes; is = refl; within = within }

gives : (design : Design) (transition : Transition) → Gives (items_of design transition) (slot_end_of transition.state)
gives design transition =
    let s = transition.state in
    let shown = shown_items design s transition.effect.shown in
    let end = gives_end (strobe_items design s transition.monitors) (slot_end_of s) (within-strobes design s transition.monitors) in record {
      inner = shown ++ end.inner;
      is = ap (λ (items : List Item). shown ++ items) end.is ∙ sym (append_assoc shown end.inner (slot_end_of s));
      within = within-both shown end.inner (within-shown design s transition.effect.shown) end.within;
    }

-- a slot end prints nothing
end_silent : (s : State) (bag : List (List ℕ)) → with_lines (slot_end_of s) bag ≡ bag
end_silent s bag = by_cause s.cause
  where
    by_idle : (active : List ℕ) (activated : List (List Part)) → with_lines (idle_items active activated s.queue.time s.values) bag ≡ bag
    by_idle [] [] = refl
    by_idle [] (u ∷ us) = refl
    by_idle (p ∷ ps) us = refl

    by_cause : (cause : Option Cause) → with_lines (slot_end_by cause s) bag ≡ bag
    by_cause (Some cause) = refl
    by_cause None = by_idle s.queue.active s.queue.activated

-- ---- where the state ends a slot

no_end : (s : State) → ¬ IsIdle s.queue → slot_end_of s ≡ []
no_end s busy = by_cause s.cause
  where
    by_idle : (active : List ℕ) (activated : List (List Part)) → s.queue.active ≡ active → s.queue.activated ≡ activated →
        idle_items active activated s.queue.time s.values ≡ []
    by_idle [] [] a b = absurd (busy (a, b))
    by_idle [] (u ∷ us) a b = refl
    by_idle (p ∷ ps) us a b = refl

    by_cause : (cause : Option Cause) → slot_end_by cause s ≡ []
    by_cause (Some cause) = refl
    by_cause None = by_idle s.queue.active s.queue.activated refl refl

one_end : (s : State) → s.cause ≡ None → IsIdle s.queue → slot_end_of s ≡ SlotEnd s.queue.time s.values ∷ []
one_end s goes idle = (λ k. slot_end_by (goes k) s) ∙ (λ k. idle_items (idle.0 k) (idle.1 k) s.queue.time s.values)

-- ---- a slot goes on, or the next one begins

-- the bag of a state is what the texts of its slot make of an empty one
record HasSlot (s : State) (items : List Item) : Type 0 where
  before : List Item
  slot : List Item
  slot_is : IsSlot s items before slot
  printed : s.printed ≡ Some (with_lines slot [])

told : (s : State) (items : List Item) → HasSlot s items → HasSlotLines s items
told s items has = record {
  before = has.before;
  slot = has.slot;
  slot_is = has.slot_is;
  bag = with_lines has.slot [];
  printed = has.printed;
  times = (bag-with_lines has.slot [] [] (record { times = λ line. refl; piece = refl })).times;
}

-- a step within the slot, whose state before wasn't its end
more : (s after : State) (items step : List Item) (slot : HasSlot s items) (given : Gives step (slot_end_of after)) (bag : List (List ℕ)) →
    slot_end_of s ≡ [] → after.printed ≡ Some bag → bag ≡ with_lines given.inner (with_lines slot.slot []) → HasSlot after (items ++ step)
more s after items step slot given bag none printed is = record {
  before = slot.before;
  slot = slot.slot ++ given.inner;
  slot_is = record {
    whole = (λ k. slot.slot_is.whole k ++ given.is k)
        ∙ ap (λ (ends : List Item). slot.before ++ slot.slot ++ ends ++ (given.inner ++ slot_end_of after)) none
        ∙ ap (λ (front : List Item). front ++ (given.inner ++ slot_end_of after)) (append-nil (slot.before ++ slot.slot))
        ∙ sym (append_assoc (slot.before ++ slot.slot) given.inner (slot_end_of after))
        ∙ ap (λ (front : List Item). front ++ slot_end_of after) (append_assoc slot.before slot.slot given.inner);
    within = within-both slot.slot given.inner slot.slot_is.within given.within;
    begins = slot.slot_is.begins;
  };
  printed = printed ∙ ap Some (is ∙ sym (with_lines-both slot.slot given.inner []));
}

-- an advance, from the end of a slot
anew : (s after : State) (items step : List Item) (time : ℕ) (values : List Vector) (slot : HasSlot s items) (given : Gives step (slot_end_of after))
    (bag : List (List ℕ)) → slot_end_of s ≡ SlotEnd time values ∷ [] → after.printed ≡ Some bag → bag ≡ with_lines given.inner [] → HasSlot after (items ++ step)
anew s after items step time values slot given bag end printed is = record {
  before = items;
  slot = given.inner;
  slot_is = record {
    whole = ap (λ (behind : List Item). items ++ behind) given.is ∙ sym (append_assoc items given.inner (slot_end_of after));
    within = given.within;
    begins = inr (
      slot.before ++ slot.slot,
      time,
      values,
      slot.slot_is.whole ∙ ap (λ (ends : List Item). slot.before ++ slot.slot ++ ends) end,
    );
  };
  printed = printed ∙ ap Some is;
}

-- ---- a step

-- what the step of a choice makes of a bag
step_bag : (design : Design) (s : State) (i : ℕ) (c : Choice) (bag : List (List ℕ))
    (given : Gives (items_of design (with_views design s i c (transition_of design c s))) (slot_end_of (with_views design s i c (transition_of design c s)).state)) →
    with_lines (items_of design (with_held_after s i c (transition_of design c s))) bag ≡ with_lines given.inner bag
step_bag design s i c bag given =
    let held = with_held_after s i c (transition_of design c s) in
    let after = with_views design s i c (transition_of design c s) in
    let seen : items_of design after ≡ items_of design held = items-seen held.state.held_back after.state.printed design held in
    ap (λ (items : List Item). with_lines items bag) (sym seen ∙ given.is)
    ∙ with_lines-both given.inner (slot_end_of after.state) bag
    ∙ end_silent after.state (with_lines given.inner bag)

stepped : (design : Design) (s : State) (items : List Item) (i : ℕ) (c : Choice) → HasSlot s items → s.cause ≡ None → MayGo s.queue c →
    HasSlot (with_views design s i c (transition_of design c s)).state (items ++ items_of design (with_views design s i c (transition_of design c s)))
stepped design s items i c slot goes may = by c may
  where
    bag_after : (c : Choice) → List (List ℕ)
    bag_after c = with_lines (items_of design (with_held_after s i c (transition_of design c s))) (lines_before c (with_lines slot.slot []))

    printed : (c : Choice) → (with_views design s i c (transition_of design c s)).state.printed ≡ Some (bag_after c)
    printed c = ap (printed_after c (items_of design (with_held_after s i c (transition_of design c s)))) slot.printed

    by : (c : Choice) → MayGo s.queue c →
        HasSlot (with_views design s i c (transition_of design c s)).state (items ++ items_of design (with_views design s i c (transition_of design c s)))
    by (Run p) active =
        let after = with_views design s i (Run p) (transition_of design (Run p) s) in
        let given = gives design after in
        more s after.state items (items_of design after) slot given (bag_after (Run p))
        (no_end s (λ idle. absurd (subst (IsIn p) idle.0 active))) (printed (Run p)) (step_bag design s i (Run p) (with_lines slot.slot []) given)
    by Update some =
        let after = with_views design s i Update (transition_of design Update s) in
        let given = gives design after in
        more s after.state items (items_of design after) slot given (bag_after Update)
        (no_end s (λ idle. some idle.1)) (printed Update) (step_bag design s i Update (with_lines slot.slot []) given)
    by Advance allowed =
        let after = with_views design s i Advance (transition_of design Advance s) in
        let given = gives design after in
        anew s after.state items (items_of design after) s.queue.time s.values slot given (bag_after Advance)
        (one_end s goes allowed.0) (printed Advance) (step_bag design s i Advance [] given)

-- ---- the run

opened : (setting : Setting) → printed_at_first setting.looked ≡ Some [] → HasSlot (opening_of setting) (slot_end_of (opening_of setting))
opened setting looks = record {
  before = [];
  slot = [];
  slot_is = record { whole = refl; within = tt; begins = inl refl };
  printed = looks;
}

has_slot : IsAlwaysKept → (setting : Setting) (log : List (ℕ × ℕ)) (n : ℕ) → setting.looked ≡ Lines → IsRun (rules_of setting) log n →
    HasSlot (state_after setting log n) (items_after setting log n)
has_slot keeps setting log zero looks run =
    subst (λ (s : State). HasSlot s (items_after setting log 0)) (sym (opening_is setting)) (opened setting (ap printed_at_first looks))
has_slot keeps setting log (suc n) looks run =
    let s = state_after setting log n in
    let i = choice_at log n in
    let items = items_after setting log n in
    let at = listed_place (choices s) i (omega (arith, run n (omega arith), width_is setting s)) in
    let may = may_go s i at.0 (keeps setting log n) at.1 in
    let now : HasSlot (next setting.design s i).state (items ++ items_of setting.design (next setting.design s i)) =
    subst (λ (o : Option Choice). HasSlot (transition_by setting.design s i o).state (items ++ items_of setting.design (transition_by setting.design s i o))) (sym at.1)
    (stepped setting.design s items i at.0 (has_slot keeps setting log n looks (λ k lt. run k (omega (arith, lt)))) may.0 may.1) in
    subst (λ (x : State). HasSlot x (items ++ items_of setting.design (next setting.design s i))) (sym (after_is setting s i)) now

pub holds_slot_lines : IsAlwaysKept → (setting : Setting) (log : List (ℕ × ℕ)) (n : ℕ) → setting.looked ≡ Lines → IsRun (rules_of setting) log n →
    HasSlotLines (state_after setting log n) (items_after setting log n)
holds_slot_lines keeps setting log n looks run = told (state_after setting log n) (items_after setting log n) (has_slot keeps setting log n looks run)
