-- What meeting a book with the successors of an entry keeps.
use Rattle.std.proofs.Common.{◌≡◌, ℕ, ◌+◌, ◌<◌, ◌≤◌, zero, suc, Bool, true, false, List, [], ◌∷◌, ◌++◌, length, length-append, slice_get, slice_set, Option, Some, None, arith, ap, refl, sym, ◌∙◌, subst, ◌⊎◌, inl, inr, Result, Ok, Err, OnOk, OnErr}
use Rattle.std.specs.Cmp.{IsEquivalence}
use Rattle.std.proofs.lemmas.Bool.{cases_lt}
use Rattle.std.proofs.lemmas.Option.{same_Some, slice_get_within}
use Rattle.sched_core.specs.Rules.{Rules, IsLawful, stands}
use Rattle.statebook.specs.Stations.{forced_state}
use Rattle.statebook.specs.Books.{Book, Dominates, IsFinished, IsFoundAt, IsRootAt, IsUnfinished, add, finish}
use Rattle.statebook.specs.ExplorerCore.{IsEntry, IsSuccessorAt, HasSuccessorsAt, choices_of, budget_after}
use Rattle.statebook.specs.declared.entry.Entry.{Entry}
use Rattle.basis.proofs.Lists.{stands_in_front, stands_last, last_or_before}
use Rattle.statebook.specs.declared.limits.Limits.{Limits}
use Rattle.statebook.proofs.CoreLemmas.{sound_add, sound_finish}
use Rattle.explore.specs.BookFindings.{AllChoicesLeadOn, LeadsOn, SomeChoiceGoesPast}
use Rattle.statebook.specs.Inner.Forced.{Follows}
use Rattle.explore.specs.Inner.Exploring.{AddsFew, BookGrows, IsSameOrAdded, IsUnderWay, LeadsOnAt}

pub found_new : {S : Type 0} (same : S → S → Bool) → IsEquivalence same → (old : Book S) (e : Entry S) (new : Book S) (place : ℕ) → place ≡ length old.entries → new ≡ add old e → IsFoundAt same new.entries e place
found_new {S} same eq old e new place at grown =
    let P : Book S → Type 0 = λ b. IsFoundAt same b.entries e place in
    let Q : ℕ → Type 0 = λ p. slice_get (old.entries ++ e ∷ []) p ≡ Some e in
    subst P (sym grown) (record {
      entry = e;
      at = subst Q (sym at) (stands_last old.entries e);
      dominates = record { state = eq.refl e.state; budget = omega arith };
    })

pub found_known : {S : Type 0} (same : S → S → Bool) (old : Book S) (e f : Entry S) (new : Book S) (place : ℕ) → slice_get old.entries place ≡ Some f → Dominates same f e.state e.budget → new ≡ old → IsFoundAt same new.entries e place
found_known {S} same old e f new place at d stays =
    let P : Book S → Type 0 = λ b. IsFoundAt same b.entries e place in
    subst P (sym stays) (record { entry = f; at = at; dominates = d })

-- the first entry's state is the opening one
pub root_state : {S : Type 0} (r : Rules S) (limits : Limits) (b : Book S) (e : Entry S) → IsUnderWay r limits b → slice_get b.entries 0 ≡ Some e → r.same e.state r.first ≡ true
root_state {S} r limits b e u at =
    let same : u.root.entry ≡ e = same_Some u.root.entry e (sym u.root.at ∙ at) in
    let is : IsEntry r limits.depart limits.steps u.root.entry = u.sound.entry 0 u.root.entry u.root.at in
    let A : ℕ → Type 0 = λ n. r.same u.root.entry.state (stands r u.root.entry.log n) ≡ true in
    let P : Entry S → Type 0 = λ f. r.same f.state r.first ≡ true in
    subst P same (subst A u.root.steps is.at)

-- what follows an entry and is dominated in the book is met
pub is_met : {S : Type 0} (r : Rules S) → IsLawful r → (same : S → S → Bool) → ((s t : S) → r.same s t ≡ same s t) → (b : Book S) (e next : Entry S) (c j : ℕ) → Follows r e c next → IsFoundAt same b.entries next j → IsSuccessorAt r b.entries e c j
is_met r law same agree b e next c j f at = record {
  found = at.entry;
  at = at.at;
  steps = f.steps;
  next = f.station;
  dominates = record {
    state = law.transitive at.entry.state next.state (forced_state r (r.after e.state c) f.steps) (agree at.entry.state next.state ∙ at.dominates.state) f.same;
    budget = omega (arith, at.dominates.budget, f.budget);
  };
}

root_more : {S : Type 0} (b : Book S) (e : Entry S) → IsRootAt b.entries 0 → IsRootAt (b.entries ++ e ∷ []) 0
root_more b e r = record { entry = r.entry; at = stands_in_front b.entries (e ∷ []) 0 r.entry r.at; log = r.log; steps = r.steps }

pub under_way_more : {S : Type 0} (r : Rules S) (limits : Limits) (old : Book S) (e : Entry S) (new : Book S) → IsUnderWay r limits old → IsEntry r limits.depart limits.steps e → IsSameOrAdded old e new → IsUnderWay r limits new
under_way_more {S} r limits old e new u is (inl same) =
    let P : Book S → Type 0 = λ b. IsUnderWay r limits b in
    subst P (sym same) u
under_way_more {S} r limits old e new u is (inr added) =
    let P : Book S → Type 0 = λ b. IsUnderWay r limits b in
    subst P (sym added) (record { sound = sound_add r limits.depart limits.steps old e u.sound is; root = root_more old e u.root })

pub grows_not : {S : Type 0} (b : Book S) (budget : ℕ) → BookGrows b b budget
grows_not b budget = record { stays = λ i e at. at; done = λ i places at. at; lower = λ i e at. inl at }

pub grows_more : {S : Type 0} (old : Book S) (e : Entry S) (new : Book S) (budget : ℕ) → e.budget ≤ budget → IsSameOrAdded old e new → BookGrows old new budget
grows_more {S} old e new budget le (inl same) =
    let P : Book S → Type 0 = λ b. BookGrows old b budget in
    subst P (sym same) (grows_not old budget)
grows_more {S} old e new budget le (inr added) =
    let P : Book S → Type 0 = λ b. BookGrows old b budget in
    subst P (sym added) (record {
      stays = λ i f at. stands_in_front old.entries (e ∷ []) i f at;
      done = λ i places at. stands_in_front old.finished (None ∷ []) i (Some places) at;
      lower = λ i f at. elim (last_or_before old.entries e i f at) [
        | inl there ↦ inl there
        | inr last ↦ (let Q : Entry S → Type 0 = λ x. x.budget ≤ budget in inr (subst Q last.1 le))
      ];
    })

lower_of_two : {S : Type 0} (old mid new : Book S) (budget : ℕ) → BookGrows old mid budget → BookGrows mid new budget → (i : ℕ) (e : Entry S) → slice_get new.entries i ≡ Some e → (slice_get old.entries i ≡ Some e) ⊎ (e.budget ≤ budget)
lower_of_two old mid new budget g h i e at = elim (h.lower i e at) [
  | inl there ↦ g.lower i e there
  | inr le ↦ inr le
]

pub grows_twice : {S : Type 0} (old mid new : Book S) (budget : ℕ) → BookGrows old mid budget → BookGrows mid new budget → BookGrows old new budget
grows_twice old mid new budget g h = record {
  stays = λ i e at. h.stays i e (g.stays i e at);
  done = λ i places at. h.done i places (g.done i places at);
  lower = lower_of_two old mid new budget g h;
}

pub budget_after-le : (b c : ℕ) → budget_after b c ≤ b
budget_after-le b zero = omega arith
budget_after-le b (suc c) = omega arith

-- the first choices of the entry at the place are met, one place each
pub record HasSuccessors {S : Type 0} (r : Rules S) (old now : Book S) (place choice : ℕ) (next : List ℕ) : Type 0 where
  pub count : length next ≡ choice
  pub met : (e : Entry S) → slice_get old.entries place ≡ Some e → (c j : ℕ) → slice_get next c ≡ Some j → IsSuccessorAt r now.entries e c j

met_later : {S : Type 0} (r : Rules S) (old new : Book S) (budget : ℕ) (e : Entry S) (c j : ℕ) → BookGrows old new budget → IsSuccessorAt r old.entries e c j → IsSuccessorAt r new.entries e c j
met_later r old new budget e c j g m = record { found = m.found; at = g.stays j m.found m.at; steps = m.steps; next = m.next; dominates = m.dominates }

pub met_more : {S : Type 0} (r : Rules S) (old now new : Book S) (place choice j : ℕ) (next : List ℕ) → HasSuccessors r old now place choice next → ((e : Entry S) → slice_get old.entries place ≡ Some e → BookGrows now new e.budget) → ((e : Entry S) → slice_get old.entries place ≡ Some e → IsSuccessorAt r new.entries e choice j) → HasSuccessors r old new place (choice + 1) (next ++ j ∷ [])
met_more {S} r old now new place choice j next h g m = record {
  count = length-append next (j ∷ []) ∙ omega (arith, h.count);
  met = λ e at c i listed. elim (last_or_before next j c i listed) [
    | inl there ↦ met_later r now new e.budget e c i (g e at) (h.met e at c i there)
    | inr last ↦ (
        let P : ℕ → Type 0 = λ d. IsSuccessorAt r new.entries e d i in
        let Q : ℕ → Type 0 = λ d. IsSuccessorAt r new.entries e choice d in
        let same : choice ≡ c = omega (arith, last.0, h.count) in
        subst P same (subst Q last.1 (m e at)))
  ];
}

pub set_at : {X : Type 0} (xs : List X) (i : ℕ) (x y : X) → slice_get xs i ≡ Some x → slice_get (slice_set xs i y) i ≡ Some y
set_at [] i x y e = absurd cc
set_at (z ∷ xs) zero x y e = refl
set_at (z ∷ xs) (suc i) x y e = set_at xs i x y e

set_other : {X : Type 0} (xs : List X) (i j : ℕ) (y : X) → (i ≡ j → ⊥) → slice_get (slice_set xs i y) j ≡ slice_get xs j
set_other [] i j y ne = refl
set_other (z ∷ xs) zero zero y ne = absurd (ne refl)
set_other (z ∷ xs) zero (suc j) y ne = refl
set_other (z ∷ xs) (suc i) zero y ne = refl
set_other (z ∷ xs) (suc i) (suc j) y ne = set_other xs i j y (λ e. ne (ap suc e))

-- what finishing an entry leaves: its list is noted, or was there
abbrev pub Finishes : {S : Type 0} → Book S → ℕ → List ℕ → Book S → Type 0
Finishes old place places new = (IsUnfinished old place × (new ≡ finish old place places)) ⊎ (IsFinished old place × (new ≡ old))

pub finishes : {S U E : Type 0} (result : Result U E) (old : Book S) (place : ℕ) (places : List ℕ) (new : Book S) → OnOk result (IsUnfinished old place) → OnOk result (new ≡ finish old place places) → OnErr result (IsFinished old place) → OnErr result (new ≡ old) → Finishes old place places new
finishes (Ok u) old place places new once ok twice err = inl (once, ok)
finishes (Err e) old place places new once ok twice err = inr (twice, err)

pub finished_now : {S : Type 0} (old : Book S) (place : ℕ) (places : List ℕ) (new : Book S) → Finishes old place places new → IsFinished new place
finished_now {S} old place places new (inl h) =
    let P : Book S → Type 0 = λ b. IsFinished b place in
    subst P (sym h.1) (places, set_at old.finished place None (Some places) h.0)
finished_now {S} old place places new (inr h) =
    let P : Book S → Type 0 = λ b. IsFinished b place in
    subst P (sym h.1) h.0

pub under_way_done : {S : Type 0} (r : Rules S) (limits : Limits) (old : Book S) (place : ℕ) (places : List ℕ) (new : Book S) → HasSuccessorsAt r old.entries place places → IsUnderWay r limits old → Finishes old place places new → IsUnderWay r limits new
under_way_done {S} r limits old place places new m u (inl h) =
    let P : Book S → Type 0 = λ b. IsUnderWay r limits b in
    subst P (sym h.1) (record { sound = sound_finish r limits.depart limits.steps old place places u.sound m; root = u.root })
under_way_done {S} r limits old place places new m u (inr h) =
    let P : Book S → Type 0 = λ b. IsUnderWay r limits b in
    subst P (sym h.1) u

-- finishing an entry takes no room
pub room_done : {S : Type 0} (old : Book S) (place : ℕ) (places : List ℕ) (new : Book S) (room count : ℕ) → Finishes old place places new → count ≤ length old.entries + room → count ≤ length new.entries + room
room_done {S} old place places new room count (inl h) few =
    let P : Book S → Type 0 = λ b. count ≤ length b.entries + room in
    subst P (sym h.1) few
room_done {S} old place places new room count (inr h) few =
    let P : Book S → Type 0 = λ b. count ≤ length b.entries + room in
    subst P (sym h.1) few

done_stays : (finished : List (Option (List ℕ))) (place : ℕ) (places : List ℕ) → slice_get finished place ≡ Some None → (i : ℕ) (others : List ℕ) → slice_get finished i ≡ Some (Some others) → slice_get (slice_set finished place (Some places)) i ≡ Some (Some others)
done_stays finished place places open_place i others at =
    set_other finished place i (Some places) (λ e.
    (let P : ℕ → Type 0 = λ p. slice_get finished p ≡ Some None in
    let here : slice_get finished i ≡ Some None = subst P e open_place in
    let clash : None ≡ Some others = same_Some None (Some others) (sym here ∙ at) in
    absurd cc)) ∙ at

pub grows_done : {S : Type 0} (old : Book S) (place : ℕ) (places : List ℕ) (new : Book S) (budget : ℕ) → Finishes old place places new → BookGrows old new budget
grows_done {S} old place places new budget (inl h) =
    let P : Book S → Type 0 = λ b. BookGrows old b budget in
    subst P (sym h.1) (record { stays = λ i e at. at; done = done_stays old.finished place places h.0; lower = λ i e at. inl at })
grows_done {S} old place places new budget (inr h) =
    let P : Book S → Type 0 = λ b. BookGrows old b budget in
    subst P (sym h.1) (grows_not old budget)

-- once each choice is met, all is that Finish asks
pub all_met : {S : Type 0} (r : Rules S) (old now : Book S) (place count : ℕ) (next : List ℕ) (e : Entry S) → HasSuccessors r old now place count next → slice_get old.entries place ≡ Some e → BookGrows old now e.budget → count ≡ choices_of (r.width e.state) e.budget → HasSuccessorsAt r now.entries place next
all_met r old now place count next e h at g all = record {
  entry = e;
  at = g.stays place e at;
  count = h.count ∙ all;
  met = h.met e at;
}

pub place_within : {S : Type 0} (old now : Book S) (budget place : ℕ) (e : Entry S) → BookGrows old now budget → slice_get old.entries place ≡ Some e → place < length now.entries
place_within old now budget place e g at = slice_get_within now.entries place e (g.stays place e at)

pub still_there : {S : Type 0} (old now : Book S) (budget place : ℕ) (e f : Entry S) → BookGrows old now budget → slice_get old.entries place ≡ Some e → slice_get now.entries place ≡ Some f → e ≡ f
still_there old now budget place e f g at at' = same_Some e f (sym (g.stays place e at) ∙ at')

pub grows_on : {S : Type 0} (old now new : Book S) (place : ℕ) (e : Entry S) → BookGrows old now e.budget → slice_get old.entries place ≡ Some e → ((f : Entry S) → slice_get now.entries place ≡ Some f → BookGrows now new f.budget) → BookGrows old new e.budget
grows_on old now new place e g at h = grows_twice old now new e.budget g (h e (g.stays place e at))

pub true_not_false : true ≡ false → ⊥
true_not_false e = cc

-- a choice that leads on does so as the book grows
pub leads_later : {S : Type 0} (r : Rules S) (limits : Limits) (old new : Book S) (budget : ℕ) (e : Entry S) (c : ℕ) → BookGrows old new budget → LeadsOn r limits old.entries e c → LeadsOn r limits new.entries e c
leads_later r limits old new budget e c g (inl met) = inl (met.0, met_later r old new budget e c met.0 g met.1)
leads_later r limits old new budget e c g (inr past) = inr past

-- the first choices of the entry at the place lead on
abbrev pub LeadUpTo : {S : Type 0} → Rules S → Limits → Book S → Book S → ℕ → ℕ → Type 0
LeadUpTo {S} r limits old now place choice = (e : Entry S) → slice_get old.entries place ≡ Some e → (c : ℕ) → c < choice → LeadsOn r limits now.entries e c

pub leads_more : {S : Type 0} (r : Rules S) (limits : Limits) (old now new : Book S) (place choice : ℕ) → LeadUpTo r limits old now place choice → ((e : Entry S) → slice_get old.entries place ≡ Some e → BookGrows now new e.budget) → ((e : Entry S) → slice_get old.entries place ≡ Some e → LeadsOn r limits new.entries e choice) → LeadUpTo r limits old new place (choice + 1)
leads_more {S} r limits old now new place choice h g m e at c lt = elim (cases_lt c choice) [
  | inl before ↦ leads_later r limits now new e.budget e c (g e at) (h e at c before)
  | inr ge ↦ (
      let P : ℕ → Type 0 = λ d. LeadsOn r limits new.entries e d in
      let same : choice ≡ c = omega (arith, lt, ge) in
      subst P same (m e at))
]

-- once all its choices do, the entry leads on
pub leads_all : {S : Type 0} (r : Rules S) (limits : Limits) (old now : Book S) (place choice : ℕ) (e : Entry S) → LeadUpTo r limits old now place choice → slice_get old.entries place ≡ Some e → BookGrows old now e.budget → choice ≡ choices_of (r.width e.state) e.budget → LeadsOnAt r limits now place
leads_all {S} r limits old now place choice e h at g all f at' =
    let P : Entry S → Type 0 = λ x. AllChoicesLeadOn r limits now.entries x in
    subst P (still_there old now e.budget place e f g at at') (λ c lt. h e at c (omega (arith, lt, all)))

-- and so it does in the book where it is finished
pub leads_done : {S : Type 0} (r : Rules S) (limits : Limits) (old : Book S) (place : ℕ) (places : List ℕ) (new : Book S) → Finishes old place places new → LeadsOnAt r limits old place → LeadsOnAt r limits new place
leads_done {S} r limits old place places new (inl h) leads =
    let P : Book S → Type 0 = λ b. LeadsOnAt r limits b place in
    subst P (sym h.1) leads
leads_done {S} r limits old place places new (inr h) leads =
    let P : Book S → Type 0 = λ b. LeadsOnAt r limits b place in
    subst P (sym h.1) leads

-- a choice of the entry that goes past the limit does so in the book that has grown
pub past_at : {S : Type 0} (r : Rules S) (limits : Limits) (old now : Book S) (place : ℕ) (e : Entry S) → SomeChoiceGoesPast r limits e → slice_get old.entries place ≡ Some e → BookGrows old now e.budget → (f : Entry S) → slice_get now.entries place ≡ Some f → SomeChoiceGoesPast r limits f
past_at {S} r limits old now place e past at g f at' =
    let P : Entry S → Type 0 = λ x. SomeChoiceGoesPast r limits x in
    subst P (still_there old now e.budget place e f g at at') past

pub adds_few : {S : Type 0} (r : Rules S) (old new : Book S) (place count : ℕ) (e : Entry S) → slice_get old.entries place ≡ Some e → count ≤ choices_of (r.width e.state) e.budget → length new.entries ≤ length old.entries + count → AddsFew r old place new
adds_few {S} r old new place count e at le few f at' =
    let P : Entry S → Type 0 = λ x. length new.entries ≤ length old.entries + choices_of (r.width x.state) x.budget in
    subst P (same_Some e f (sym at ∙ at')) (omega (arith, le, few))

-- finishing an entry adds none
pub count_done : {S : Type 0} (old : Book S) (place : ℕ) (places : List ℕ) (new : Book S) → Finishes old place places new → length new.entries ≡ length old.entries
count_done old place places new (inl h) = ap (λ b. length b.entries) h.1
count_done old place places new (inr h) = ap (λ b. length b.entries) h.1
