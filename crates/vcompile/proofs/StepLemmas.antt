-- The links of a design's code lead along what a process has left, at its beginning and behind each of its steps.
use Rattle.std.proofs.Common.{◌≡◌, ◌≢◌, ℕ, ◌+◌, ◌-◌, ◌<◌, ◌≤◌, zero, suc, ◌==◌, nat_le, Bool, true, false, ◌&&◌, if◌then◌else◌, List, [], ◌∷◌, length, slice_get, unwrap_or, Option, None, Some, refl, sym, ap, subst, ◌∙◌, arith}
use Rattle.std.proofs.lemmas.Bool.Decides.{nat_tests}
use Rattle.basis.proofs.Bools.{and_left, and_right}
use Rattle.vbits.specs.Vectors.{Vector}
use Rattle.vwords.specs.declared.cases.CaseKind.{CaseKind}
use Rattle.vcode.specs.declared.point.Point.{Point}
use Rattle.vcode.specs.declared.point.Point.TheVariants.{Ended, Executing, Repeating}
use Rattle.vcode.specs.declared.link.Link.{Link}
use Rattle.vcode.specs.Points.{place_of_point}
use Rattle.vcode.specs.Code.{Code, link_at, begin_of, counter_at, turns_at, with_turns, pass_spent, settle, behind}
use Rattle.vdesign.specs.Design.{Design}
use Rattle.vdesign.specs.Expressions.{ExpressionTree}
use Rattle.vdesign.specs.declared.action.Branch.{Branch}
use Rattle.vdesign.specs.declared.action.Action.{Action}
use Rattle.vdesign.specs.declared.action.Action.TheVariants.{Assign, Nonblocking, AssignDelayed, NonblockingDelayed, Trigger, Test, Case, While, Repeat, Forever, Delay, EventControl, Wait, ContinuousAssign, Print, DumpVars, Dump, NoOperation, Finish, Stop}
use Rattle.vdesign.specs.declared.print.When.TheVariants.{Now, AtSlotEnd, AtChange}
use Rattle.vvalue.specs.declared.size_and_sign.SizeAndSign.{SizeAndSign}
use Rattle.vvalue.specs.Value.{Environment, holds, value_of}
use Rattle.vvalue.specs.Cases.{matches, case_size_and_sign, places_at, places_of_case, turns_of}
use Rattle.vmodel.specs.declared.frame.Frame.{Frame}
use Rattle.vmodel.specs.declared.frame.Frame.TheVariants as frame
use Rattle.vmodel.specs.declared.effect.Disposition.TheVariants.{Waiting}
use Rattle.vmodel.specs.Step.{StepResult, frames, turns_left, place_of, execute, execute_turn, resume, execute_at}
use Rattle.vmodel.specs.Effects.{no_effect}
use Rattle.vmodel.specs.InnerStep.{wait_result}
use Rattle.vcompile.specs.Links.{place_number, first_point, branch_bodies, links_of, begins_by, is_repeat, counter_by, next_counter, counters_from}
use Rattle.vcompile.specs.Listening.{resumes_at, events_in, lists_of}
use Rattle.vcompile.specs.Whole.{is_chain, are_chains, is_linked, are_linked, begin_well, lead_on, are_all, holds_links, all_listed, is_whole}
use Rattle.vcompile.specs.CodeOf.{no_code, code_by, code_of}
use Rattle.vcompile.specs.Laws.{point_of, first_of, IsCounted, IsLed, AreLed, turns_behind, HasCounters, BeginsAlong, StepsAlong, PassesAlong, ResumesAlong, StaysAlong}
use Rattle.vcompile.proofs.LinkLemmas.{of_same_number, number_of_place, IsLink, first_leads, others_lead, linked_at, begins_at, IsNext, LeadOn, all_lead_on}
use Rattle.vcompile.proofs.SettleLemmas.{On, turns_set, spent_leads, turning_stays, executing_stays, settled_on, turns_else, behind_else}

-- ---- what holds of a code that is whole

pub record Holds (design : Design) (code : Code) : Type 0 where
  pub count : length code.links ≡ length design.actions
  pub few : length code.links ≤ 4294967295
  pub leads : LeadOn code.links
  pub linked : are_linked code.links 0 design.actions ≡ true
  pub begins : begin_well code.links 0 design.processes ≡ true
  pub points : code.begins ≡ begins_by design.processes
  pub counters : code.counters ≡ counters_from 0 design.actions
  pub by_variable : code.by_variable ≡ (lists_of design code.links).by_variable
  pub by_event : code.by_event ≡ (lists_of design code.links).by_event
  pub listed : all_listed (length design.variables) (events_in design.actions) design.actions ≡ true

pub within_limit : (n : ℕ) → nat_le n 4294967295 ≡ true → n ≤ 4294967295
within_limit n h = grind (arith, nat_tests)

holds_by : (design : Design) (links : List Link) → length design.actions ≤ 4294967295 → is_whole design links (events_in design.actions) ≡ true →
    Holds design (code_by design links)
holds_by design links few h =
    let kept : holds_links design links ≡ true =
    and_left (holds_links design links) (all_listed (length design.variables) (events_in design.actions) design.actions) h in
    let all : are_all design links ≡ true =
    and_left (are_all design links) (are_linked links 0 design.actions && begin_well links 0 design.processes) kept in
    let leads : (are_linked links 0 design.actions && begin_well links 0 design.processes) ≡ true =
    and_right (are_all design links) (are_linked links 0 design.actions && begin_well links 0 design.processes) kept in
    let count : length links ≡ length design.actions =
    of_same_number (λ n. n) (length links) (length design.actions) (and_left (length links == length design.actions) (lead_on links 0 links) all) in
    record {
      count = count;
      few = subst (λ n. n ≤ 4294967295) (sym count) few;
      leads = all_lead_on links (and_right (length links == length design.actions) (lead_on links 0 links) all);
      linked = and_left (are_linked links 0 design.actions) (begin_well links 0 design.processes) leads;
      begins = and_right (are_linked links 0 design.actions) (begin_well links 0 design.processes) leads;
      points = refl;
      counters = refl;
      by_variable = refl;
      by_event = refl;
      listed = and_right (holds_links design links) (all_listed (length design.variables) (events_in design.actions) design.actions) h;
    }

holds_of_test : (design : Design) (test : Bool) → nat_le (length design.actions) 4294967295 ≡ test →
    (if test then code_by design (links_of design) else no_code).whole ≡ true → Holds design (if test then code_by design (links_of design) else no_code)
holds_of_test design true is h = holds_by design (links_of design) (within_limit (length design.actions) is) h
holds_of_test design false is h = absurd cc

pub holds_of : (design : Design) → (code_of design).whole ≡ true → Holds design (code_of design)
unfolding code_of
holds_of design h = holds_of_test design (nat_le (length design.actions) 4294967295) refl h

-- ---- counters

-- that of a place, where those of these actions are numbered from n on
abbrev pub counter_in : ℕ → List Action → ℕ → Option ℕ
counter_in n actions place = unwrap_or (slice_get (counters_from n actions) place) None

least_by : (test : Bool) (n counter : ℕ) → counter_by test n ≡ Some counter → n ≤ counter
least_by true n counter is = let same : n ≡ counter = cc in omega (arith, same)
least_by false n counter is = absurd cc

next_least : (test : Bool) (n counter : ℕ) → next_counter test n ≤ counter → n ≤ counter
next_least true n counter le = omega (arith, le)
next_least false n counter le = le

counters_least : (n : ℕ) (actions : List Action) (i counter : ℕ) → counter_in n actions i ≡ Some counter → n ≤ counter
counters_least n [] i counter is = absurd cc
counters_least n (a ∷ more) zero counter is = least_by (is_repeat a) n counter is
counters_least n (a ∷ more) (suc i) counter is = next_least (is_repeat a) n counter (counters_least (next_counter (is_repeat a) n) more i counter is)

head_differs : (test : Bool) (n counter : ℕ) → counter_by test n ≡ Some counter → next_counter test n ≤ counter → ⊥
head_differs true n counter is le = let same : n ≡ counter = cc in absurd (omega (arith, same, le))
head_differs false n counter is le = absurd cc

-- a counter is of one place
counters_differ : (n : ℕ) (actions : List Action) (i j counter : ℕ) → counter_in n actions i ≡ Some counter → counter_in n actions j ≡ Some counter → i ≡ j
counters_differ n [] i j counter one other = absurd cc
counters_differ n (a ∷ more) zero zero counter one other = refl
counters_differ n (a ∷ more) zero (suc j) counter one other =
    absurd (head_differs (is_repeat a) n counter one (counters_least (next_counter (is_repeat a) n) more j counter other))
counters_differ n (a ∷ more) (suc i) zero counter one other =
    absurd (head_differs (is_repeat a) n counter other (counters_least (next_counter (is_repeat a) n) more i counter one))
counters_differ n (a ∷ more) (suc i) (suc j) counter one other = ap suc (counters_differ (next_counter (is_repeat a) n) more i j counter one other)

-- and each `repeat` has one
counter_there : (n : ℕ) (actions : List Action) (i : ℕ) (count : ExpressionTree) (body : List ℕ) → slice_get actions i ≡ Some (Repeat count body) →
    (counter : ℕ) × (counter_in n actions i ≡ Some counter)
counter_there n [] i count body there = absurd cc
counter_there n (a ∷ more) zero count body there = let same : a ≡ Repeat count body = cc in (n, ap (λ x. counter_by (is_repeat x) n) same)
counter_there n (a ∷ more) (suc i) count body there = counter_there (next_counter (is_repeat a) n) more i count body there

-- ---- frames

-- at such places
abbrev pub AreOn : (ℕ → Type 0) → List Frame → Type 0
AreOn P [] = Unit {0}
AreOn P (f ∷ rest) = P (place_of f) × AreOn P rest

-- behind a place, or a process's
abbrev pub Later : Code → ℕ → ℕ → Type 0
Later code low place = (low < place) × (place < length code.links)

abbrev pub Owned : Code → ℕ → ℕ → Type 0
Owned code process place = (place < length code.links) × ((link_at code.links place).owner ≡ process)

later_further : (code : Code) (low place : ℕ) (rest : List Frame) → low < place → AreOn (Later code place) rest → AreOn (Later code low) rest
later_further code low place [] lt h = tt
later_further code low place (f ∷ rest) lt h =
    let above : place < place_of f = h.0.0 in
    ((omega (arith, lt, above), h.0.1), later_further code low place rest lt h.1)

place_of_point_of : (f : Frame) → place_of_point (point_of f) ≡ Some (place_of f)
place_of_point_of (frame.Executing place) = refl
place_of_point_of (frame.Repeating place n) = refl
place_of_point_of (frame.Writing place) = refl

choose : {X : Type 0} (P : X → Type 0) (test : Bool) (one other : X) → P one → P other → P (if test then one else other)
choose P true one other p q = p
choose P false one other p q = q

module _ (design : Design) (code : Code) (facts : Holds design code) where
  number : (place : ℕ) → place < length code.links → place_number place ≡ place
  number place within = let few : length code.links ≤ 4294967295 = facts.few in number_of_place place (omega (arith, within, few))

  counter_is : (place : ℕ) → counter_at code place ≡ counter_in 0 design.actions place
  counter_is place = ap (λ (cs : List (Option ℕ)). unwrap_or (slice_get cs place) None) facts.counters

  one_place : (i j counter : ℕ) → counter_at code i ≡ Some counter → counter_at code j ≡ Some counter → i ≡ j
  one_place i j counter one other = counters_differ 0 design.actions i j counter (sym (counter_is i) ∙ one) (sym (counter_is j) ∙ other)

  later_by : (low place : ℕ) (other : Option ℕ) → low ≤ place → IsNext code.links place other → On (Later code low) other
  later_by low place None le h = tt
  later_by low place (Some other) le h = let above : place < other = h.0 in (omega (arith, le, above), h.1)

  later_next : (low place : ℕ) → low ≤ place → place < length code.links → On (Later code low) (place_of_point (link_at code.links place).next)
  later_next low place le within = later_by low place (place_of_point (link_at code.links place).next) le (facts.leads place within)

  later_closed : (low place : ℕ) → Later code low place → On (Later code low) (place_of_point (link_at code.links place).next)
  later_closed low place h = let above : low < place = h.0 in later_next low place (omega (arith, above)) h.1

  later_apart : (low place : ℕ) → Later code low place → (counter : ℕ) → counter_at code low ≡ Some counter → counter_at code place ≡ Some counter → ⊥
  later_apart low place h counter one other =
      let above : low < place = h.0 in
      let same : low ≡ place = one_place low place counter one other in
      omega (arith, above, same)

  owned_by : (process place : ℕ) (other : Option ℕ) → (link_at code.links place).owner ≡ process → IsNext code.links place other → On (Owned code process) other
  owned_by process place None own h = tt
  owned_by process place (Some other) own h = (h.1, h.2 ∙ own)

  owned_closed : (process place : ℕ) → Owned code process place → On (Owned code process) (place_of_point (link_at code.links place).next)
  owned_closed process place h = owned_by process place (place_of_point (link_at code.links place).next) h.1 (facts.leads place h.0)

  owned_apart : (process low place : ℕ) → (link_at code.links low).owner ≢ process → Owned code process place →
      (counter : ℕ) → counter_at code low ≡ Some counter → counter_at code place ≡ Some counter → ⊥
  owned_apart process low place differ h counter one other =
      differ (ap (λ p. (link_at code.links p).owner) (one_place low place counter one other) ∙ h.1)

  -- ---- along places

  first_is : (turns : List ℕ) (process : ℕ) (places : List ℕ) (end : Point) (after : List Frame) → is_chain code.links process places end ≡ true →
      settle code turns end ≡ first_of after → settle code turns (first_point places end) ≡ first_of (frames places after)
  first_is turns process [] end after chain ends = ends
  first_is turns process (place ∷ places) end after chain ends =
      executing_stays code facts.leads turns (length code.links) (place_number place)
      ∙ ap Executing (number place (first_leads code.links process place places end chain).within)

  chain_leads : (turns : List ℕ) (process : ℕ) (places : List ℕ) (end : Point) (after : List Frame) → is_chain code.links process places end ≡ true →
      settle code turns end ≡ first_of after → AreLed code process turns after → AreLed code process turns (frames places after)
  chain_leads turns process [] end after chain ends led = led
  chain_leads turns process (place ∷ places) end after chain ends led =
      let here : IsLink code.links place process (first_point places end) = first_leads code.links process place places end chain in
      let others : is_chain code.links process places end ≡ true = others_lead code.links process place places end chain in (
        record {
          within = here.within;
          owner = here.owner_is;
          counted = tt;
          next = ap (settle code turns) here.next_is ∙ first_is turns process places end after others ends;
        },
        chain_leads turns process places end after others ends led,
      )

  -- what is left behind a place stands behind it
  later_led : (process : ℕ) (turns : List ℕ) (f : Frame) (rest : List Frame) → IsLed code process turns f rest → AreLed code process turns rest →
      AreOn (Later code (place_of f)) rest
  later_led process turns f [] led all = tt
  later_led process turns f (g ∷ rest) led all =
      let low : ℕ = place_of f in
      let at_point : On (Later code low) (place_of_point (behind code turns low)) =
      settled_on code facts.leads (Later code low) (later_closed low) turns (length code.links) (link_at code.links low).next (later_next low low (omega arith) led.within) in
      let there : On (Later code low) (Some (place_of g)) =
      subst (On (Later code low)) (ap place_of_point led.next ∙ place_of_point_of g) at_point in
      (there, later_further code low (place_of g) rest there.0 (later_led process turns g rest all.0 all.1))

  owned_led : (process : ℕ) (turns : List ℕ) (rest : List Frame) → AreLed code process turns rest → AreOn (Owned code process) rest
  owned_led process turns [] led = tt
  owned_led process turns (f ∷ rest) led = ((led.0.within, led.0.owner), owned_led process turns rest led.1)

  -- ---- where the turns of a place change

  module _ (P : ℕ → Type 0) (closed : (place : ℕ) → P place → On P (place_of_point (link_at code.links place).next)) (turns : List ℕ) (low n : ℕ)
      (apart : (place : ℕ) → P place → (counter : ℕ) → counter_at code low ≡ Some counter → counter_at code place ≡ Some counter → ⊥) where
    counted_else : (f : Frame) → P (place_of f) → IsCounted code turns f → IsCounted code (with_turns code low n turns) f
    counted_else (frame.Executing place) on h = tt
    counted_else (frame.Repeating place m) on h = (h.0, turns_else code facts.leads P closed turns low n apart place on ∙ h.1)
    counted_else (frame.Writing place) on h = tt

    led_else : (process : ℕ) (rest : List Frame) → AreOn P rest → AreLed code process turns rest → AreLed code process (with_turns code low n turns) rest
    led_else process [] on led = tt
    led_else process (f ∷ rest) on led = (
      record {
        within = led.0.within;
        owner = led.0.owner;
        counted = counted_else f on.0 led.0.counted;
        next = behind_else code facts.leads P closed turns low n apart (place_of f) (closed (place_of f) on.0) ∙ led.0.next;
      },
      led_else process rest on.1 led.1,
    )

  -- ---- behind the action of a place

  module _ (process place : ℕ) (turns : List ℕ) (after : List Frame) (room : (counter : ℕ) → counter_at code place ≡ Some counter → counter < length turns)
      (within : place < length code.links) (owner : (link_at code.links place).owner ≡ process) (next : behind code turns place ≡ first_of after)
      (rest : AreLed code process turns after) where
    here : AreLed code process turns (frame.Executing place ∷ after)
    here = (record { within = within; owner = owner; counted = tt; next = next }, rest)

    executing_here : settle code turns (Executing (place_number place)) ≡ Executing place
    executing_here = executing_stays code facts.leads turns (length code.links) (place_number place) ∙ ap Executing (number place within)

    body_leads : (places : List ℕ) → is_chain code.links (link_at code.links place).owner places (link_at code.links place).next ≡ true →
        AreLed code process turns (frames places after)
    body_leads places chain =
        chain_leads turns process places (link_at code.links place).next after
        (subst (λ o. is_chain code.links o places (link_at code.links place).next ≡ true) owner chain) next rest

    again_leads : (places : List ℕ) → is_chain code.links (link_at code.links place).owner places (Executing (place_number place)) ≡ true →
        AreLed code process turns (frames places (frame.Executing place ∷ after))
    again_leads places chain =
        chain_leads turns process places (Executing (place_number place)) (frame.Executing place ∷ after)
        (subst (λ o. is_chain code.links o places (Executing (place_number place)) ≡ true) owner chain)
        executing_here (record { within = within; owner = owner; counted = tt; next = next }, rest)

    -- 9.6: so many turns are left of it
    own_behind : (n : ℕ) → behind code (with_turns code place n turns) place ≡ first_of after
    own_behind n =
        behind_else code facts.leads (Later code place) (later_closed place) turns place n (later_apart place) place (later_next place place (omega arith) within) ∙ next

    own_rest : (n : ℕ) → AreLed code process (with_turns code place n turns) after
    own_rest n =
        led_else (Later code place) (later_closed place) turns place n (later_apart place) process after
        (later_led process turns (frame.Executing place) after (record { within = within; owner = owner; counted = tt; next = next }) rest) rest

    -- a `repeat` with so many
    module _ (count : ExpressionTree) (body : List ℕ) (there : slice_get design.actions place ≡ Some (Repeat count body)) where
      own_turns : (n : ℕ) → turns_at code (with_turns code place n turns) place ≡ n
      own_turns n =
          let found : (counter : ℕ) × (counter_in 0 design.actions place ≡ Some counter) = counter_there 0 design.actions place count body there in
          let is : counter_at code place ≡ Some found.0 = counter_is place ∙ found.1 in
          turns_set code turns place n found.0 is (room found.0 is)

      left_led : (n : ℕ) → AreLed code process (with_turns code place n turns) (turns_left place n after)
      left_led zero = own_rest zero
      left_led (suc n) = (record { within = within; owner = owner; counted = (omega arith, own_turns (suc n)); next = own_behind (suc n) }, own_rest (suc n))

      left_first : (n : ℕ) → settle code (with_turns code place n turns) (Repeating place) ≡ first_of (turns_left place n after)
      left_first zero = spent_leads code facts.leads (with_turns code place zero turns) place within (own_turns zero) ∙ own_behind zero
      left_first (suc n) = turning_stays code facts.leads (with_turns code place (suc n) turns) (length code.links) place n (own_turns (suc n))

      turn_leads : (n : ℕ) (places : List ℕ) → is_chain code.links (link_at code.links place).owner places (Repeating (place_number place)) ≡ true →
          AreLed code process (with_turns code place n turns) (frames places (turns_left place n after))
      turn_leads n places chain =
          chain_leads (with_turns code place n turns) process places (Repeating (place_number place)) (turns_left place n after)
          (subst (λ o. is_chain code.links o places (Repeating (place_number place)) ≡ true) owner chain)
          (ap (λ p. settle code (with_turns code place n turns) (Repeating p)) (number place within) ∙ left_first n)
          (left_led n)

    -- 9.5: the body of the first branch that matches
    at_leads : (now : Environment) (kind : CaseKind) (size : SizeAndSign) (value : Vector) (branches : List Branch) (otherwise : List ℕ) →
        are_chains code.links (link_at code.links place).owner (branch_bodies (link_at code.links place).next branches) ≡ true →
        AreLed code process turns (frames otherwise after) → AreLed code process turns (frames (places_at now kind size value branches otherwise) after)
    at_leads now kind size value [] otherwise h other = other
    at_leads now kind size value (b ∷ more) otherwise h other =
        choose (λ places. AreLed code process turns (frames places after)) (matches kind value (value_of now b.item size))
        b.body (places_at now kind size value more otherwise)
        (body_leads b.body (and_left (is_chain code.links (link_at code.links place).owner b.body (link_at code.links place).next)
        (are_chains code.links (link_at code.links place).owner (branch_bodies (link_at code.links place).next more)) h))
        (at_leads now kind size value more otherwise (and_right (is_chain code.links (link_at code.links place).owner b.body (link_at code.links place).next)
        (are_chains code.links (link_at code.links place).owner (branch_bodies (link_at code.links place).next more)) h) other)

    case_leads : (now : Environment) (kind : CaseKind) (value : ExpressionTree) (branches : List Branch) (otherwise : List ℕ) →
        are_chains code.links (link_at code.links place).owner (branch_bodies (link_at code.links place).next branches) ≡ true →
        AreLed code process turns (frames otherwise after) → AreLed code process turns (frames (places_of_case now kind value branches otherwise) after)
    unfolding places_of_case
    case_leads now kind value branches otherwise h other =
        at_leads now kind (case_size_and_sign now value branches) (value_of now value (case_size_and_sign now value branches)) branches otherwise h other

    step_executing : (action : Action) (now : Environment) → slice_get design.actions place ≡ Some action → is_linked code.links place action ≡ true →
        AreLed code process (turns_behind code (frame.Executing place) action now turns) (execute place action after now).continuation
    step_executing (Assign targets value) now there h = rest
    step_executing (Nonblocking targets value) now there h = rest
    step_executing (AssignDelayed amount targets value) now there h = (record { within = within; owner = owner; counted = tt; next = next }, rest)
    step_executing (NonblockingDelayed amount targets value) now there h = rest
    step_executing (Trigger event) now there h = rest
    step_executing (Test condition when_true otherwise) now there h =
        choose (λ places. AreLed code process turns (frames places after)) (holds now condition) when_true otherwise
        (body_leads when_true (and_left (is_chain code.links (link_at code.links place).owner when_true (link_at code.links place).next) (is_chain code.links (link_at code.links place).owner otherwise (link_at code.links place).next && true) h))
        (body_leads otherwise (and_left (is_chain code.links (link_at code.links place).owner otherwise (link_at code.links place).next) true
        (and_right (is_chain code.links (link_at code.links place).owner when_true (link_at code.links place).next) (is_chain code.links (link_at code.links place).owner otherwise (link_at code.links place).next && true) h)))
    step_executing (Case kind value branches otherwise) now there h =
        case_leads now kind value branches otherwise
        (and_right (is_chain code.links (link_at code.links place).owner otherwise (link_at code.links place).next) (are_chains code.links (link_at code.links place).owner (branch_bodies (link_at code.links place).next branches)) h)
        (body_leads otherwise (and_left (is_chain code.links (link_at code.links place).owner otherwise (link_at code.links place).next) (are_chains code.links (link_at code.links place).owner (branch_bodies (link_at code.links place).next branches)) h))
    step_executing (While condition body) now there h =
        choose (AreLed code process turns) (holds now condition) (frames body (frame.Executing place ∷ after)) after
        (again_leads body (and_left (is_chain code.links (link_at code.links place).owner body (Executing (place_number place))) true h)) rest
    step_executing (Repeat count body) now there h = left_led count body there (turns_of now count)
    step_executing (Forever body) now there h = again_leads body (and_left (is_chain code.links (link_at code.links place).owner body (Executing (place_number place))) true h)
    step_executing (Delay amount body) now there h = body_leads body (and_left (is_chain code.links (link_at code.links place).owner body (link_at code.links place).next) true h)
    step_executing (EventControl terms body) now there h = body_leads body (and_left (is_chain code.links (link_at code.links place).owner body (link_at code.links place).next) true h)
    step_executing (Wait condition terms body) now there h =
        choose (λ (result : StepResult). AreLed code process turns result.continuation) (holds now condition)
        (record { continuation = frames body after; effect = no_effect })
        (record { continuation = frame.Executing place ∷ after; effect = record no_effect { disposition = Waiting place } })
        (body_leads body (and_left (is_chain code.links (link_at code.links place).owner body (link_at code.links place).next) true h)) here
    step_executing (ContinuousAssign targets value terms) now there h = here
    step_executing (Print when pieces) now there h = rest
    step_executing (DumpVars selection) now there h = rest
    step_executing (Dump asked) now there h = rest
    step_executing NoOperation now there h = rest
    step_executing Finish now there h = rest
    step_executing Stop now there h = rest

    step_turn : (n : ℕ) (action : Action) (now : Environment) → slice_get design.actions place ≡ Some action → is_linked code.links place action ≡ true →
        (1 ≤ n) × (turns_at code turns place ≡ n) →
        AreLed code process (turns_behind code (frame.Repeating place n) action now turns) (execute_turn place n action after).continuation
    step_turn n (Assign targets value) now there h counted = (record { within = within; owner = owner; counted = counted; next = next }, rest)
    step_turn n (Nonblocking targets value) now there h counted = (record { within = within; owner = owner; counted = counted; next = next }, rest)
    step_turn n (AssignDelayed amount targets value) now there h counted = (record { within = within; owner = owner; counted = counted; next = next }, rest)
    step_turn n (NonblockingDelayed amount targets value) now there h counted = (record { within = within; owner = owner; counted = counted; next = next }, rest)
    step_turn n (Trigger event) now there h counted = (record { within = within; owner = owner; counted = counted; next = next }, rest)
    step_turn n (Test condition when_true otherwise) now there h counted = (record { within = within; owner = owner; counted = counted; next = next }, rest)
    step_turn n (Case kind value branches otherwise) now there h counted = (record { within = within; owner = owner; counted = counted; next = next }, rest)
    step_turn n (While condition body) now there h counted = (record { within = within; owner = owner; counted = counted; next = next }, rest)
    step_turn n (Repeat count body) now there h counted = turn_leads count body there (n - 1) body (and_left (is_chain code.links (link_at code.links place).owner body (Repeating (place_number place))) true h)
    step_turn n (Forever body) now there h counted = (record { within = within; owner = owner; counted = counted; next = next }, rest)
    step_turn n (Delay amount body) now there h counted = (record { within = within; owner = owner; counted = counted; next = next }, rest)
    step_turn n (EventControl terms body) now there h counted = (record { within = within; owner = owner; counted = counted; next = next }, rest)
    step_turn n (Wait condition terms body) now there h counted = (record { within = within; owner = owner; counted = counted; next = next }, rest)
    step_turn n (ContinuousAssign targets value terms) now there h counted = (record { within = within; owner = owner; counted = counted; next = next }, rest)
    step_turn n (Print when pieces) now there h counted = (record { within = within; owner = owner; counted = counted; next = next }, rest)
    step_turn n (DumpVars selection) now there h counted = (record { within = within; owner = owner; counted = counted; next = next }, rest)
    step_turn n (Dump asked) now there h counted = (record { within = within; owner = owner; counted = counted; next = next }, rest)
    step_turn n NoOperation now there h counted = (record { within = within; owner = owner; counted = counted; next = next }, rest)
    step_turn n Finish now there h counted = (record { within = within; owner = owner; counted = counted; next = next }, rest)
    step_turn n Stop now there h counted = (record { within = within; owner = owner; counted = counted; next = next }, rest)

    step_writing : (action : Action) (held : Option Vector) (now : Environment) →
        AreLed code process (turns_behind code (frame.Writing place) action now turns) (resume place action after held now).continuation
    step_writing (Assign targets value) held now = (record { within = within; owner = owner; counted = tt; next = next }, rest)
    step_writing (Nonblocking targets value) held now = (record { within = within; owner = owner; counted = tt; next = next }, rest)
    step_writing (AssignDelayed amount targets value) held now = rest
    step_writing (NonblockingDelayed amount targets value) held now = (record { within = within; owner = owner; counted = tt; next = next }, rest)
    step_writing (Trigger event) held now = (record { within = within; owner = owner; counted = tt; next = next }, rest)
    step_writing (Test condition when_true otherwise) held now = (record { within = within; owner = owner; counted = tt; next = next }, rest)
    step_writing (Case kind value branches otherwise) held now = (record { within = within; owner = owner; counted = tt; next = next }, rest)
    step_writing (While condition body) held now = (record { within = within; owner = owner; counted = tt; next = next }, rest)
    step_writing (Repeat count body) held now = (record { within = within; owner = owner; counted = tt; next = next }, rest)
    step_writing (Forever body) held now = (record { within = within; owner = owner; counted = tt; next = next }, rest)
    step_writing (Delay amount body) held now = (record { within = within; owner = owner; counted = tt; next = next }, rest)
    step_writing (EventControl terms body) held now = (record { within = within; owner = owner; counted = tt; next = next }, rest)
    step_writing (Wait condition terms body) held now = (record { within = within; owner = owner; counted = tt; next = next }, rest)
    step_writing (ContinuousAssign targets value terms) held now = (record { within = within; owner = owner; counted = tt; next = next }, rest)
    step_writing (Print when pieces) held now = (record { within = within; owner = owner; counted = tt; next = next }, rest)
    step_writing (DumpVars selection) held now = (record { within = within; owner = owner; counted = tt; next = next }, rest)
    step_writing (Dump asked) held now = (record { within = within; owner = owner; counted = tt; next = next }, rest)
    step_writing NoOperation held now = (record { within = within; owner = owner; counted = tt; next = next }, rest)
    step_writing Finish held now = (record { within = within; owner = owner; counted = tt; next = next }, rest)
    step_writing Stop held now = (record { within = within; owner = owner; counted = tt; next = next }, rest)

    -- ---- what stands behind the place then

    pass_executing : (action : Action) (now : Environment) → behind code (turns_behind code (frame.Executing place) action now turns) place ≡ first_of after
    pass_executing (Assign targets value) now = next
    pass_executing (Nonblocking targets value) now = next
    pass_executing (AssignDelayed amount targets value) now = next
    pass_executing (NonblockingDelayed amount targets value) now = next
    pass_executing (Trigger event) now = next
    pass_executing (Test condition when_true otherwise) now = next
    pass_executing (Case kind value branches otherwise) now = next
    pass_executing (While condition body) now = next
    pass_executing (Repeat count body) now = own_behind (turns_of now count)
    pass_executing (Forever body) now = next
    pass_executing (Delay amount body) now = next
    pass_executing (EventControl terms body) now = next
    pass_executing (Wait condition terms body) now = next
    pass_executing (ContinuousAssign targets value terms) now = next
    pass_executing (Print when pieces) now = next
    pass_executing (DumpVars selection) now = next
    pass_executing (Dump asked) now = next
    pass_executing NoOperation now = next
    pass_executing Finish now = next
    pass_executing Stop now = next

    pass_turn : (n : ℕ) (action : Action) (now : Environment) → behind code (turns_behind code (frame.Repeating place n) action now turns) place ≡ first_of after
    pass_turn n (Assign targets value) now = next
    pass_turn n (Nonblocking targets value) now = next
    pass_turn n (AssignDelayed amount targets value) now = next
    pass_turn n (NonblockingDelayed amount targets value) now = next
    pass_turn n (Trigger event) now = next
    pass_turn n (Test condition when_true otherwise) now = next
    pass_turn n (Case kind value branches otherwise) now = next
    pass_turn n (While condition body) now = next
    pass_turn n (Repeat count body) now = own_behind (n - 1)
    pass_turn n (Forever body) now = next
    pass_turn n (Delay amount body) now = next
    pass_turn n (EventControl terms body) now = next
    pass_turn n (Wait condition terms body) now = next
    pass_turn n (ContinuousAssign targets value terms) now = next
    pass_turn n (Print when pieces) now = next
    pass_turn n (DumpVars selection) now = next
    pass_turn n (Dump asked) now = next
    pass_turn n NoOperation now = next
    pass_turn n Finish now = next
    pass_turn n Stop now = next

    pass_writing : (action : Action) (now : Environment) → behind code (turns_behind code (frame.Writing place) action now turns) place ≡ first_of after
    pass_writing (Assign targets value) now = next
    pass_writing (Nonblocking targets value) now = next
    pass_writing (AssignDelayed amount targets value) now = next
    pass_writing (NonblockingDelayed amount targets value) now = next
    pass_writing (Trigger event) now = next
    pass_writing (Test condition when_true otherwise) now = next
    pass_writing (Case kind value branches otherwise) now = next
    pass_writing (While condition body) now = next
    pass_writing (Repeat count body) now = next
    pass_writing (Forever body) now = next
    pass_writing (Delay amount body) now = next
    pass_writing (EventControl terms body) now = next
    pass_writing (Wait condition terms body) now = next
    pass_writing (ContinuousAssign targets value terms) now = next
    pass_writing (Print when pieces) now = next
    pass_writing (DumpVars selection) now = next
    pass_writing (Dump asked) now = next
    pass_writing NoOperation now = next
    pass_writing Finish now = next
    pass_writing Stop now = next

    -- ---- where it goes on that waits

    body_resumes : (places : List ℕ) → is_chain code.links (link_at code.links place).owner places (link_at code.links place).next ≡ true →
        settle code turns (first_point places (link_at code.links place).next) ≡ first_of (frames places after)
    body_resumes places chain =
        first_is turns process places (link_at code.links place).next after
        (subst (λ o. is_chain code.links o places (link_at code.links place).next ≡ true) owner chain) next

    wait_resumes : (places : List ℕ) (q : ℕ) (test : Bool) → (wait_result place test places after).effect.disposition ≡ Waiting q →
        (q ≡ place) × (settle code turns (Executing (place_number place)) ≡ first_of (wait_result place test places after).continuation)
    wait_resumes places q true waits = absurd cc
    wait_resumes places q false waits = (cc, executing_here)

    resume_executing : (action : Action) (now : Environment) (q : ℕ) → is_linked code.links place action ≡ true → (execute place action after now).effect.disposition ≡ Waiting q →
        (q ≡ place) × (settle code turns (resumes_at place (link_at code.links place).next action) ≡ first_of (execute place action after now).continuation)
    resume_executing (Assign targets value) now q h waits = absurd cc
    resume_executing (Nonblocking targets value) now q h waits = absurd cc
    resume_executing (AssignDelayed amount targets value) now q h waits = absurd cc
    resume_executing (NonblockingDelayed amount targets value) now q h waits = absurd cc
    resume_executing (Trigger event) now q h waits = absurd cc
    resume_executing (Test condition when_true otherwise) now q h waits = absurd cc
    resume_executing (Case kind value branches otherwise) now q h waits = absurd cc
    resume_executing (While condition body) now q h waits = absurd cc
    resume_executing (Repeat count body) now q h waits = absurd cc
    resume_executing (Forever body) now q h waits = absurd cc
    resume_executing (Delay amount body) now q h waits = absurd cc
    resume_executing (EventControl terms body) now q h waits = (cc, body_resumes body (and_left (is_chain code.links (link_at code.links place).owner body (link_at code.links place).next) true h))
    resume_executing (Wait condition terms body) now q h waits = wait_resumes body q (holds now condition) waits
    resume_executing (ContinuousAssign targets value terms) now q h waits = (cc, executing_here)
    resume_executing (Print Now pieces) now q h waits = absurd cc
    resume_executing (Print AtSlotEnd pieces) now q h waits = absurd cc
    resume_executing (Print AtChange pieces) now q h waits = absurd cc
    resume_executing (DumpVars selection) now q h waits = absurd cc
    resume_executing (Dump asked) now q h waits = absurd cc
    resume_executing NoOperation now q h waits = absurd cc
    resume_executing Finish now q h waits = absurd cc
    resume_executing Stop now q h waits = absurd cc

    no_wait_in_turn : (n : ℕ) (action : Action) (q : ℕ) → (execute_turn place n action after).effect.disposition ≡ Waiting q → ⊥
    no_wait_in_turn n (Assign targets value) q waits = absurd cc
    no_wait_in_turn n (Nonblocking targets value) q waits = absurd cc
    no_wait_in_turn n (AssignDelayed amount targets value) q waits = absurd cc
    no_wait_in_turn n (NonblockingDelayed amount targets value) q waits = absurd cc
    no_wait_in_turn n (Trigger event) q waits = absurd cc
    no_wait_in_turn n (Test condition when_true otherwise) q waits = absurd cc
    no_wait_in_turn n (Case kind value branches otherwise) q waits = absurd cc
    no_wait_in_turn n (While condition body) q waits = absurd cc
    no_wait_in_turn n (Repeat count body) q waits = absurd cc
    no_wait_in_turn n (Forever body) q waits = absurd cc
    no_wait_in_turn n (Delay amount body) q waits = absurd cc
    no_wait_in_turn n (EventControl terms body) q waits = absurd cc
    no_wait_in_turn n (Wait condition terms body) q waits = absurd cc
    no_wait_in_turn n (ContinuousAssign targets value terms) q waits = absurd cc
    no_wait_in_turn n (Print when pieces) q waits = absurd cc
    no_wait_in_turn n (DumpVars selection) q waits = absurd cc
    no_wait_in_turn n (Dump asked) q waits = absurd cc
    no_wait_in_turn n NoOperation q waits = absurd cc
    no_wait_in_turn n Finish q waits = absurd cc
    no_wait_in_turn n Stop q waits = absurd cc

    no_wait_in_writing : (action : Action) (held : Option Vector) (now : Environment) (q : ℕ) → (resume place action after held now).effect.disposition ≡ Waiting q → ⊥
    no_wait_in_writing (Assign targets value) held now q waits = absurd cc
    no_wait_in_writing (Nonblocking targets value) held now q waits = absurd cc
    no_wait_in_writing (AssignDelayed amount targets value) held now q waits = absurd cc
    no_wait_in_writing (NonblockingDelayed amount targets value) held now q waits = absurd cc
    no_wait_in_writing (Trigger event) held now q waits = absurd cc
    no_wait_in_writing (Test condition when_true otherwise) held now q waits = absurd cc
    no_wait_in_writing (Case kind value branches otherwise) held now q waits = absurd cc
    no_wait_in_writing (While condition body) held now q waits = absurd cc
    no_wait_in_writing (Repeat count body) held now q waits = absurd cc
    no_wait_in_writing (Forever body) held now q waits = absurd cc
    no_wait_in_writing (Delay amount body) held now q waits = absurd cc
    no_wait_in_writing (EventControl terms body) held now q waits = absurd cc
    no_wait_in_writing (Wait condition terms body) held now q waits = absurd cc
    no_wait_in_writing (ContinuousAssign targets value terms) held now q waits = absurd cc
    no_wait_in_writing (Print when pieces) held now q waits = absurd cc
    no_wait_in_writing (DumpVars selection) held now q waits = absurd cc
    no_wait_in_writing (Dump asked) held now q waits = absurd cc
    no_wait_in_writing NoOperation held now q waits = absurd cc
    no_wait_in_writing Finish held now q waits = absurd cc
    no_wait_in_writing Stop held now q waits = absurd cc

  is_linked_there : (place : ℕ) (action : Action) → slice_get design.actions place ≡ Some action → is_linked code.links place action ≡ true
  is_linked_there place action there =
      let zero_plus : 0 + place ≡ place = omega arith in
      subst (λ p. is_linked code.links p action ≡ true) zero_plus (linked_at code.links 0 design.actions place action facts.linked there)

  step_along : (turns : List ℕ) (process : ℕ) (f : Frame) (after : List Frame) (action : Action) (held : Option Vector) (now : Environment) →
      HasCounters code turns → slice_get design.actions (place_of f) ≡ Some action → AreLed code process turns (f ∷ after) →
      AreLed code process (turns_behind code f action now turns) (execute_at f action after held now).continuation
  step_along turns process (frame.Executing place) after action held now room there led =
      step_executing process place turns after (room place) led.0.within led.0.owner led.0.next led.1 action now there (is_linked_there place action there)
  step_along turns process (frame.Repeating place n) after action held now room there led =
      step_turn process place turns after (room place) led.0.within led.0.owner led.0.next led.1 n action now there (is_linked_there place action there) led.0.counted
  step_along turns process (frame.Writing place) after action held now room there led =
      step_writing process place turns after (room place) led.0.within led.0.owner led.0.next led.1 action held now

  pass_along : (turns : List ℕ) (process : ℕ) (f : Frame) (after : List Frame) (action : Action) (now : Environment) → HasCounters code turns →
      AreLed code process turns (f ∷ after) → behind code (turns_behind code f action now turns) (place_of f) ≡ first_of after
  pass_along turns process (frame.Executing place) after action now room led =
      pass_executing process place turns after (room place) led.0.within led.0.owner led.0.next led.1 action now
  pass_along turns process (frame.Repeating place n) after action now room led =
      pass_turn process place turns after (room place) led.0.within led.0.owner led.0.next led.1 n action now
  pass_along turns process (frame.Writing place) after action now room led =
      pass_writing process place turns after (room place) led.0.within led.0.owner led.0.next led.1 action now

  -- of the place at which it waits
  at_place : (turns : List ℕ) (place q : ℕ) (action : Action) (point : Point) →
      (q ≡ place) × (settle code turns (resumes_at place (link_at code.links place).next action) ≡ point) →
      (q ≡ place) × (settle code turns (resumes_at q (link_at code.links q).next action) ≡ point)
  at_place turns place q action point h =
      (h.0, subst (λ p. settle code turns (resumes_at p (link_at code.links p).next action) ≡ point) (sym h.0) h.1)

  resume_along : (turns : List ℕ) (process : ℕ) (f : Frame) (after : List Frame) (action : Action) (held : Option Vector) (now : Environment) (q : ℕ) → HasCounters code turns →
      slice_get design.actions (place_of f) ≡ Some action → AreLed code process turns (f ∷ after) → (execute_at f action after held now).effect.disposition ≡ Waiting q →
      (q ≡ place_of f) × (settle code turns (resumes_at q (link_at code.links q).next action) ≡ first_of (execute_at f action after held now).continuation)
  resume_along turns process (frame.Executing place) after action held now q room there led waits =
      at_place turns place q action (first_of (execute place action after now).continuation)
      (resume_executing process place turns after (room place) led.0.within led.0.owner led.0.next led.1 action now q (is_linked_there place action there) waits)
  resume_along turns process (frame.Repeating place n) after action held now q room there led waits =
      absurd (no_wait_in_turn process place turns after (room place) led.0.within led.0.owner led.0.next led.1 n action q waits)
  resume_along turns process (frame.Writing place) after action held now q room there led waits =
      absurd (no_wait_in_writing process place turns after (room place) led.0.within led.0.owner led.0.next led.1 action held now q waits)

  stay_along : (turns : List ℕ) (process : ℕ) (left : List Frame) (place n : ℕ) → (link_at code.links place).owner ≢ process → AreLed code process turns left →
      AreLed code process (with_turns code place n turns) left
  stay_along turns process left place n differ led =
      led_else (Owned code process) (owned_closed process) turns place n (λ other. owned_apart process place other differ) process left (owned_led process turns left led) led

  begin_at : (processes : List (List ℕ)) (process : ℕ) (places : List ℕ) → slice_get processes process ≡ Some places →
      unwrap_or (slice_get (begins_by processes) process) Ended ≡ first_point places Ended
  begin_at [] process places there = absurd cc
  begin_at (p ∷ more) zero places there = let same : p ≡ places = cc in ap (λ x. first_point x Ended) same
  begin_at (p ∷ more) (suc process) places there = begin_at more process places there

  first_of_places : (process : ℕ) (places : List ℕ) → is_chain code.links process places Ended ≡ true → first_point places Ended ≡ first_of (frames places [])
  first_of_places process [] chain = refl
  first_of_places process (place ∷ places) chain = ap Executing (number place (first_leads code.links process place places Ended chain).within)

  ended_stays : (turns : List ℕ) (most : ℕ) → pass_spent code turns most Ended ≡ Ended
  ended_stays turns zero = refl
  ended_stays turns (suc most) = refl

  begin_along : (turns : List ℕ) (process : ℕ) (places : List ℕ) → slice_get design.processes process ≡ Some places →
      (begin_of code process ≡ first_of (frames places [])) × AreLed code process turns (frames places [])
  begin_along turns process places there =
      let zero_plus : 0 + process ≡ process = omega arith in
      let chain : is_chain code.links process places Ended ≡ true =
      subst (λ p. is_chain code.links p places Ended ≡ true) zero_plus (begins_at code.links 0 design.processes process places facts.begins there) in (
        ap (λ (points : List Point). unwrap_or (slice_get points process) Ended) facts.points ∙ begin_at design.processes process places there
            ∙ first_of_places process places chain,
        chain_leads turns process places Ended [] chain (ended_stays turns (length code.links)) tt,
      )

pub begins_along : BeginsAlong
begins_along design turns process places whole there = begin_along design (code_of design) (holds_of design whole) turns process places there

pub steps_along : StepsAlong
steps_along design turns process f after action held now takes =
    step_along design (code_of design) (holds_of design takes.whole) turns process f after action held now takes.counters takes.there takes.led

pub passes_along : PassesAlong
passes_along design turns process f after action now takes =
    pass_along design (code_of design) (holds_of design takes.whole) turns process f after action now takes.counters takes.led

pub resumes_along : ResumesAlong
resumes_along design turns process f after action held now place takes waits =
    resume_along design (code_of design) (holds_of design takes.whole) turns process f after action held now place takes.counters takes.there takes.led waits

pub stays_along : StaysAlong
stays_along design turns process left place n whole differ led = stay_along design (code_of design) (holds_of design whole) turns process left place n differ led
