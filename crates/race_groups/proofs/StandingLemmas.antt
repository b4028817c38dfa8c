-- Marks that stand, one after another, and what they show.
use Rattle.std.proofs.Common.{◌≡◌, ◌⊎◌, ◌+◌, ℕ, zero, suc, ◌<◌, ◌≤◌, Bool, true, false, cond, is_some, nat_lt, List, [], ◌∷◌, ◌++◌, length, slice_get}
use Rattle.std.proofs.Common.{None, Some, sym, ap, ◌∙◌, subst, inl, inr, append-nil, append_assoc, arith, lt-ltb}
use Rattle.std.specs.List.{Contains}
use Rattle.std.proofs.lemmas.Bool.{cases_lt, ne_eqb}
use Rattle.std.proofs.lemmas.List.{length_push, map-append}
use Rattle.std.proofs.lemmas.List.Elements.{All-contains, All-contains_itself, All-filter, Contains-append_cases, Contains-append_left}
use Rattle.std.proofs.lemmas.List.Elements.{Contains-append_right, Contains-push, Contains-push_cases}
use Rattle.std.proofs.lemmas.Option.{same_Some}
use Rattle.basis.proofs.Lists.{at_contains, last_or_before, place_within, stands_in_front, stands_last}
use Rattle.explore.specs.Ranked.{Closing, pairs_of}
use Rattle.explore.specs.declared.rank_marks.FoundMark.{FoundMark}
use Rattle.vmodel.specs.State.{State}
use Rattle.vmodel.specs.Choices.{choices}
use Rattle.vmodel.specs.Run.{Setting, end_of, rules_of}
use Rattle.vmodel.specs.RunProgress.{width_is}
use Rattle.vmachine.specs.declared.machine_state.MachineState.{MachineState}
use Rattle.vmachine.specs.Machines.{Stands, machine_is_lawful, machine_is_ranked, machine_rules, rank_of}
use Rattle.vmachine.specs.Reads.{slot_in}
use Rattle.racebook.specs.Inner.{GoesOn, HasEnded, IsNoSlot}
use Rattle.racebook.specs.declared.slot_state.SlotState.{SlotState}
use Rattle.racebook.proofs.FoundLemmas.{below_next}
use Rattle.racebook.proofs.InTimeLemmas.{told_where_ended}
use Rattle.racebook.proofs.ListLemmas.{contains_at}
use Rattle.race_groups.specs.declared.standing.Standing.{Standing}
use Rattle.race_groups.specs.Standing.{AddsStillBelow, AreStanding, GoOn, GoesOnByAllStill, GoesOnByNext, GoesOnByStill, HasCome, HasNext}
use Rattle.race_groups.specs.Standing.{HasStanding, IsOfEarlier, IsStill, IsStillOfOne, mark_of, standing_past}
use Rattle.race_groups.proofs.ListLemmas.{nothing_in}

abbrev Pair : Type 0
Pair = MachineState × List (ℕ × ℕ)

abbrev pair : FoundMark MachineState → Pair
pair found = (found.state, found.log)

-- ---- where a run goes on

-- states that stand for each other have as many choices
abbrev pub WidthAlike : Setting → Type 0
WidthAlike setting = (s : MachineState) (t : State) → Stands setting s t → (machine_rules setting).width s ≡ (rules_of setting).width t

pub ended_there : (setting : Setting) → WidthAlike setting → (s : MachineState) → (machine_rules setting).width s ≡ 0 → HasEnded setting s
ended_there setting widths s none t st =
    ap is_some (told_where_ended t (sym (width_is setting t) ∙ sym (widths s t st) ∙ none))

pub goes_on_there : (setting : Setting) → WidthAlike setting → (s : MachineState) → 0 < (machine_rules setting).width s → GoesOn setting s
goes_on_there setting widths s some t st =
    let w = width_is setting t in
    let same = widths s t st in
    ap (λ (b : Bool). cond b (Some (end_of t)) None) (ne_eqb (length (choices t)) 0 (λ e. omega (arith, w, same, some, e)))

-- a copy goes on as the state does
pub copy_width : (setting : Setting) (s copy : MachineState) → (machine_rules setting).same copy s ≡ true →
    0 < (machine_rules setting).width s → 0 < (machine_rules setting).width copy
copy_width setting s copy same some =
    let e = (machine_is_lawful setting).width_same copy s same in
    omega (arith, e, some)

pub next_of : (setting : Setting) (s copy ahead : MachineState) (time : ℕ) → (machine_rules setting).same copy s ≡ true →
    0 < (machine_rules setting).width s → (machine_rules setting).same ahead ((machine_rules setting).after copy 0) ≡ true →
    time ≡ rank_of setting ahead → HasNext setting s time
next_of setting s copy ahead time same some step is =
    let law = machine_is_lawful setting in
    let r = machine_rules setting in
    record {
      goes_on = some;
      is = is ∙ (machine_is_ranked setting).rank_same ahead (r.after s 0) (law.transitive ahead (r.after copy 0) (r.after s 0) step
          (law.after_same copy s 0 same (copy_width setting s copy same some)));
    }

-- ---- those from which runs go on, one mark after another

still_standing : (standing more : List Standing) (found : Pair) → HasStanding standing found → HasStanding (standing ++ more) found
still_standing standing more found has = record {
  one = has.one;
  among = Contains-append_left standing more has.one has.among;
  is = has.is;
}

go_on_none : (setting : Setting) (marks : List Pair) (found : Pair) (old new : List Standing) → GoOn setting marks old → new ≡ old →
    (machine_rules setting).width found.0 ≡ 0 → GoOn setting (marks ++ found ∷ []) new
go_on_none setting marks found old new are is ended = subst (GoOn setting (marks ++ found ∷ [])) (sym is) (record {
  each = λ one has. (let e = are.each one has in (Contains-append_left marks (found ∷ []) (mark_of one) e.0, e.1));
  whole = λ other next has goes. elim (Contains-push_cases marks found other has) [
    | inl there ↦ are.whole other next there goes
    | inr same ↦ absurd (
        let none : (machine_rules setting).width other.0 ≡ 0 = subst (λ (x : Pair). (machine_rules setting).width x.0 ≡ 0) same ended in
        let some = goes.goes_on in
        omega (arith, none, some))
  ];
})

go_on_one : (setting : Setting) (marks : List Pair) (found : FoundMark MachineState) (next : ℕ) (old new : List Standing) →
    GoOn setting marks old → new ≡ old ++ (record { found = found; next = next }) ∷ [] → HasNext setting found.state next →
    GoOn setting (marks ++ pair found ∷ []) new
go_on_one setting marks found next old new are is has_next =
    let one : Standing = record { found = found; next = next } in
    subst (GoOn setting (marks ++ pair found ∷ [])) (sym is) (record {
      each = λ x has. elim (Contains-push_cases old one x has) [
        | inl there ↦ (let e = are.each x there in (Contains-append_left marks (pair found ∷ []) (mark_of x) e.0, e.1))
        | inr same ↦ subst (λ (y : Standing). Contains (marks ++ pair found ∷ []) (mark_of y) × HasNext setting y.found.state y.next) same
            (Contains-push marks (pair found), has_next)
      ];
      whole = λ other later has goes. elim (Contains-push_cases marks (pair found) other has) [
        | inl there ↦ still_standing old (one ∷ []) other (are.whole other later there goes)
        | inr same ↦ record { one = one; among = Contains-push old one; is = same }
      ];
    })

-- of the marks that were looked at, those in front of what is left
pub record GoingSoFar (setting : Setting) (all left : List (FoundMark MachineState)) (going_on : List Standing) : Type 0 where
  pub looked_at : List (FoundMark MachineState)
  pub whole : looked_at ++ left ≡ all
  pub are : GoOn setting (pairs_of looked_at) going_on

pub going_start : (setting : Setting) (all left : List (FoundMark MachineState)) (going_on : List Standing) → left ≡ all → going_on ≡ [] →
    GoingSoFar setting all left going_on
going_start setting all left going_on is none = record {
  looked_at = [];
  whole = is;
  are = subst (GoOn setting []) (sym none) (record {
    each = λ one has. nothing_in one has;
    whole = λ found next has. nothing_in found has;
  });
}

pub going_on_by : (setting : Setting) (all left rest : List (FoundMark MachineState)) (old new : List Standing)
    (found : FoundMark MachineState) → GoingSoFar setting all left old → left ≡ found ∷ rest → GoesOnByNext setting found old new →
    GoingSoFar setting all rest new
going_on_by setting all left rest old new found so_far first by = record {
  looked_at = so_far.looked_at ++ found ∷ [];
  whole = append_assoc so_far.looked_at (found ∷ []) rest ∙ ap (λ l. so_far.looked_at ++ l) (sym first) ∙ so_far.whole;
  are = subst (λ (m : List Pair). GoOn setting m new) (sym (map-append pair so_far.looked_at (found ∷ []))) (elim by [
    | inl (is, ended) ↦ go_on_none setting (pairs_of so_far.looked_at) (pair found) old new so_far.are is ended
    | inr (next, has, is) ↦ go_on_one setting (pairs_of so_far.looked_at) found next old new so_far.are is has
  ]);
}

pub going_done : (setting : Setting) (all left : List (FoundMark MachineState)) (going_on : List Standing) →
    GoingSoFar setting all left going_on → left ≡ [] → GoOn setting (pairs_of all) going_on
going_done setting all left going_on so_far none =
    let e : so_far.looked_at ≡ all = sym (append-nil so_far.looked_at) ∙ ap (λ l. so_far.looked_at ++ l) (sym none) ∙ so_far.whole in
    subst (λ (l : List (FoundMark MachineState)). GoOn setting (pairs_of l) going_on) e so_far.are

-- ---- what they show, one after another

pub still_none : (setting : Setting) (time : ℕ) (standing : List Standing) (count : ℕ) (own gs : List SlotState) → count ≡ 0 → gs ≡ own →
    AddsStillBelow setting time standing count own gs
still_none setting time standing count own gs none same = subst (AddsStillBelow setting time standing count own) (sym same) (record {
  kept = λ g has. has;
  each = λ g has. inl has;
  whole = λ place one t ended lt. absurd (omega (arith, lt, none));
})

same_at : (standing : List Standing) (i place : ℕ) (x y : Standing) → i ≡ place → slice_get standing i ≡ Some x →
    slice_get standing place ≡ Some y → y ≡ x
same_at standing i place x y here at at' = same_Some y x (sym at' ∙ ap (slice_get standing) (sym here) ∙ at)

still_skip : (setting : Setting) (time : ℕ) (standing : List Standing) (place : ℕ) (one : Standing) (own gs new : List SlotState) →
    slice_get standing place ≡ Some one → new ≡ gs → ((one.next ≤ time) ⊎ IsNoSlot setting one.found.state) →
    AddsStillBelow setting time standing place own gs → AddsStillBelow setting time standing (place + 1) own new
still_skip setting time standing place one own gs new here is passed so_far =
    subst (AddsStillBelow setting time standing (place + 1) own) (sym is) (record {
      kept = so_far.kept;
      each = so_far.each;
      whole = λ i x t ended lt at st wide slot past. elim (below_next i place lt) [
        | inl before ↦ so_far.whole i x t ended before at st wide slot past
        | inr same ↦ absurd (
            let e : one ≡ x = same_at standing i place x one same at here in
            elim passed [
              | inl come ↦ (let late : x.next ≤ time = subst (λ (y : Standing). y.next ≤ time) e come in omega (arith, late, past))
              | inr none ↦ (let no : slot_in t ≡ None = subst (λ (y : Standing). IsNoSlot setting y.found.state) e none t st wide in
                  let bad : None ≡ Some ended = sym no ∙ slot in cc)
            ])
      ];
    })

still_more : (setting : Setting) (time : ℕ) (standing : List Standing) (place : ℕ) (one : Standing) (own gs new : List SlotState)
    (g : SlotState) → slice_get standing place ≡ Some one → new ≡ gs ++ g ∷ [] → time < one.next → IsStill setting time (mark_of one) g →
    AddsStillBelow setting time standing place own gs → AddsStillBelow setting time standing (place + 1) own new
still_more setting time standing place one own gs new g here is past still so_far =
    subst (AddsStillBelow setting time standing (place + 1) own) (sym is) (record {
      kept = λ h has. Contains-append_left gs (g ∷ []) h (so_far.kept h has);
      each = λ h has. elim (Contains-push_cases gs g h has) [
        | inl there ↦ so_far.each h there
        | inr same ↦ inr (subst (IsStillOfOne setting time standing) same (record {
          one = one;
          among = contains_at standing place one here;
          past = past;
          still = still;
        }))
      ];
      whole = λ i x t ended lt at st wide slot later. elim (below_next i place lt) [
        | inl before ↦ (let h = so_far.whole i x t ended before at st wide slot later in
            record { slot_state = h.slot_state; among = Contains-append_left gs (g ∷ []) h.slot_state h.among; still = h.still })
        | inr same ↦ record {
          slot_state = g;
          among = Contains-push gs g;
          still = subst (λ (y : Standing). IsStill setting time (mark_of y) g) (same_at standing i place x one same at here) still;
        }
      ];
    })

pub still_on : (setting : Setting) (time : ℕ) (standing : List Standing) (place : ℕ) (one : Standing) (own gs new : List SlotState) →
    slice_get standing place ≡ Some one → GoesOnByStill setting time one gs new →
    AddsStillBelow setting time standing place own gs → AddsStillBelow setting time standing (place + 1) own new
still_on setting time standing place one own gs new here (inl (is, passed)) so_far =
    still_skip setting time standing place one own gs new here is passed so_far
still_on setting time standing place one own gs new here (inr (g, is, past, still)) so_far =
    still_more setting time standing place one own gs new g here is past still so_far

pub still_done : (setting : Setting) (time : ℕ) (standing : List Standing) (count : ℕ) (own gs : List SlotState) →
    length standing ≤ count → AddsStillBelow setting time standing count own gs → GoesOnByAllStill setting time standing own gs
still_done setting time standing count own gs all so_far = record {
  kept = so_far.kept;
  each = so_far.each;
  whole = λ place one t ended lt. so_far.whole place one t ended (omega (arith, lt, all));
}

-- ---- which stand past a time

cons_now : (b : Bool) (x y : Standing) (rest : List Standing) → b ≡ true → x ≡ y → Contains (cond b (x ∷ rest) rest) y
cons_now true x y rest is e = (0, omega arith, e)
cons_now false x y rest is e = absurd (cc)

cons_then : (b : Bool) (x y : Standing) (rest : List Standing) → Contains rest y → Contains (cond b (x ∷ rest) rest) y
cons_then true x y rest has = (suc has.0, omega (arith, has.1), has.2)
cons_then false x y rest has = has

past_at : (time : ℕ) (standing : List Standing) (i : ℕ) (one : Standing) → slice_get standing i ≡ Some one → time < one.next →
    Contains (standing_past time standing) one
past_at time [] i one at past = absurd (cc)
past_at time (x ∷ standing) zero one at past =
    let e : x ≡ one = same_Some x one at in
    cons_now (nat_lt time x.next) x one (standing_past time standing)
    (ap (λ (y : Standing). nat_lt time y.next) e ∙ lt-ltb time one.next past) e
past_at time (x ∷ standing) (suc i) one at past =
    cons_then (nat_lt time x.next) x one (standing_past time standing) (past_at time standing i one at past)

past_kept : (time : ℕ) (standing : List Standing) (one : Standing) → Contains standing one → time < one.next →
    Contains (standing_past time standing) one
past_kept time standing one has past = let p = at_contains standing one has in past_at time standing p.0 one p.1 past

stood_before : (time : ℕ) (standing : List Standing) (one : Standing) → Contains (standing_past time standing) one → Contains standing one
stood_before time standing one has = All-contains (Contains standing) (standing_past time standing) one
    (All-filter (λ (x : Standing). nat_lt time x.next) (Contains standing) standing (All-contains_itself standing)) has

-- ---- closings

pub standing_more : (setting : Setting) (closings : List (Closing MachineState)) (c : Closing MachineState) (count : ℕ)
    (standing : List Standing) → count ≤ length closings → AreStanding setting closings count standing →
    AreStanding setting (closings ++ c ∷ []) count standing
standing_more setting closings c count standing le are = record {
  each = λ one has. (let o = are.each one has in
      record {
        place = o.place;
        closing = o.closing;
        before = o.before;
        at = stands_in_front closings (c ∷ []) o.place o.closing o.at;
        among = o.among;
        next = o.next;
      });
  whole = λ place closing found next lt at has goes. elim (last_or_before closings c place closing at) [
    | inl there ↦ elim (are.whole place closing found next lt there has goes) [
      | inl standing ↦ inl standing
      | inr come ↦ inr (record {
        place = come.place;
        closing = come.closing;
        before = come.before;
        at = stands_in_front closings (c ∷ []) come.place come.closing come.at;
        come = come.come;
      })
    ]
    | inr (here, same) ↦ absurd (omega (arith, here, lt, le))
  ];
}

pub none_stand : (setting : Setting) (standing : List Standing) → standing ≡ [] → AreStanding setting [] 0 standing
none_stand setting standing none = record {
  each = λ one has. nothing_in one (subst (λ (l : List Standing). Contains l one) none has);
  whole = λ place closing found next lt. absurd (omega (arith, lt));
}

-- one state has one next time
pub same_next : (setting : Setting) (s r : MachineState) (m n : ℕ) → s ≡ r → HasNext setting s m → HasNext setting r n → m ≡ n
same_next setting s r m n same one other =
    one.is ∙ ap (λ (x : MachineState). rank_of setting ((machine_rules setting).after x 0)) same ∙ sym other.is

module _ (setting : Setting) (closings : List (Closing MachineState)) (c : Closing MachineState) (standing going_on : List Standing)
    (are : AreStanding setting closings (length closings) standing) (go : GoOn setting c.marks going_on) where
  abbrev all : List (Closing MachineState)
  all = closings ++ c ∷ []

  abbrev stand_now : List Standing
  stand_now = standing_past c.rank (standing ++ going_on)

  long : length all ≡ length closings + 1
  long = length_push closings c

  each_now : (one : Standing) → Contains stand_now one → IsOfEarlier setting all (length all) one
  each_now one has = elim (Contains-append_cases standing going_on one (stood_before c.rank (standing ++ going_on) one has)) [
    | inl old ↦ (let o = are.each one old in
        let lt = o.before in
        record {
          place = o.place;
          closing = o.closing;
          before = omega (arith, lt, long);
          at = stands_in_front closings (c ∷ []) o.place o.closing o.at;
          among = o.among;
          next = o.next;
        })
    | inr new ↦ (let g = go.each one new in
        record {
          place = length closings;
          closing = c;
          before = omega (arith, long);
          at = stands_last closings c;
          among = g.0;
          next = g.1;
        })
  ]

  -- it stands, or its next slot has come by then
  stands_or_come : (found : Pair) (next : ℕ) (one : Standing) → Contains (standing ++ going_on) one → mark_of one ≡ found → one.next ≡ next →
      HasStanding stand_now found ⊎ HasCome all (length all) next
  stands_or_come found next one has is same = elim (cases_lt c.rank one.next) [
    | inl past ↦ inl (record { one = one; among = past_kept c.rank (standing ++ going_on) one has past; is = is })
    | inr come ↦ inr (record {
      place = length closings;
      closing = c;
      before = omega (arith, long);
      at = stands_last closings c;
      come = omega (arith, come, same);
    })
  ]

  whole_now : (place : ℕ) (closing : Closing MachineState) (found : Pair) (next : ℕ) → place < length all →
      slice_get all place ≡ Some closing → Contains closing.marks found → HasNext setting found.0 next →
      HasStanding stand_now found ⊎ HasCome all (length all) next
  whole_now place closing found next lt at has goes = elim (last_or_before closings c place closing at) [
    | inl there ↦ elim (are.whole place closing found next (place_within closings place closing there) there has goes) [
      | inl stood ↦
          let o = are.each stood.one stood.among in
          stands_or_come found next stood.one (Contains-append_left standing going_on stood.one stood.among) stood.is
          (same_next setting stood.one.found.state found.0 stood.one.next next (ap (λ (x : Pair). x.0) stood.is) o.next goes)
      | inr come ↦ (let before = come.before in
          inr (record {
            place = come.place;
            closing = come.closing;
            before = omega (arith, before, long);
            at = stands_in_front closings (c ∷ []) come.place come.closing come.at;
            come = come.come;
          }))
    ]
    | inr (here, same) ↦
        let stood = go.whole found next (subst (λ (d : Closing MachineState). Contains d.marks found) (sym same) has) goes in
        let g = go.each stood.one stood.among in
        stands_or_come found next stood.one (Contains-append_right standing going_on stood.one stood.among) stood.is
        (same_next setting stood.one.found.state found.0 stood.one.next next (ap (λ (x : Pair). x.0) stood.is) g.1 goes)
  ]

  pub standing_taken : (new : List Standing) → new ≡ stand_now → AreStanding setting all (length all) new
  standing_taken new is = subst (AreStanding setting all (length all)) (sym is) (record { each = each_now; whole = whole_now })
