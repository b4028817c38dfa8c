-- Of a code that is whole: where the processes stand once one has taken a step, and once some have woken.
use Rattle.std.proofs.Common.{◌≡◌, ◌≢◌, inl, inr, ℕ, zero, suc, ◌<◌, ◌≤◌, nat_le, ◌==◌, Bool, true, false, ◌&&◌, if◌then◌else◌, is_some, List, [], ◌∷◌, ◌++◌, map, length, Option, None, Some, option_map, refl, sym, ap, subst, ◌∙◌, arith}
use Rattle.std.specs.Prelude.{slice_get, slice_set}
use Rattle.basis.proofs.Bools.{and_left}
use Rattle.basis.proofs.Lists.{place_within}
use Rattle.vbits.specs.Vectors.{Vector}
use Rattle.vcode.specs.declared.point.Point.{Point}
use Rattle.vcode.specs.declared.point.Point.TheVariants as point
use Rattle.vcode.specs.Points.{place_of_point}
use Rattle.vcode.specs.Code.{link_at, with_turns}
use Rattle.vdesign.specs.Design.{Design}
use Rattle.vdesign.specs.declared.action.Action.{Action}
use Rattle.vvalue.specs.Value.{Environment}
use Rattle.vmodel.specs.declared.effect.Disposition.{Disposition}
use Rattle.vmodel.specs.declared.effect.Disposition.TheVariants.{Runnable, Delayed, Waiting}
use Rattle.vmodel.specs.declared.part.Part.{Part}
use Rattle.vmodel.specs.declared.frame.Frame.{Frame}
use Rattle.vmodel.specs.declared.frame.Frame.TheVariants.{Executing, Repeating, Writing}
use Rattle.vmodel.specs.Kept.{RisesFrom, waits_of}
use Rattle.vmodel.specs.Parts.{with_parts}
use Rattle.vmodel.specs.State.{Process}
use Rattle.vmodel.specs.Step.{StepResult, place_of, execute_at, continuation_of, process_to_continue, process_by, waits_by}
use Rattle.vmodel.specs.Waking.{wakes, awake, with_awake}
use Rattle.vmodel.proofs.MovedLemmas.{get-set_same, get-set_other}
use Rattle.vmodel.proofs.PlaceLemmas.{alike}
use Rattle.vcompile.specs.Links.{place_number, links_of}
use Rattle.vcompile.specs.Listening.{events_in}
use Rattle.vcompile.specs.Whole.{are_all, lead_on, are_linked, begin_well, holds_links, all_listed}
use Rattle.vcompile.specs.CodeOf.{no_code, code_by, code_of}
use Rattle.vcompile.specs.Laws.{point_of, first_of as first_point_of, AreLed, turns_behind, TakesStep, IsLinked, IsHeardByAll}
use Rattle.vflat.specs.Flat.{point_in, with_terms, terms_told, point_of_frame, comes_to, goes_from, stands_by, waits_in, left_in, stand_of, IsSuspended, StandsAlong, StandsFor}
use Rattle.vflat.proofs.ContinueLemmas.{before_left, continues, no_turns, own_turns, has_counters}
use Rattle.vflat.proofs.ToldLemmas.{covers}
use Rattle.vflat.proofs.WakeLemmas.{IsParked, Stand, set_else, set_length, AreWoken, woken_by_lists}
use Rattle.vmodel.proofs.AwakeLemmas.{get_awake}
use Rattle.vcompile.proofs.LinkLemmas.{number_of_place}
use Rattle.vcompile.proofs.StepLemmas.{within_limit}
use Rattle.vmodel.proofs.ProcessLemmas.{same_back}

-- ---- a code that is whole

few_by : (design : Design) (test : Bool) → nat_le (length design.actions) 4294967295 ≡ test →
    (if test then code_by design (links_of design) else no_code).whole ≡ true → length design.actions ≤ 4294967295
few_by design true is h = within_limit (length design.actions) is
few_by design false is h = absurd cc

-- it has few enough places
pub few_places : (design : Design) → (code_of design).whole ≡ true → length design.actions ≤ 4294967295
unfolding code_of
few_places design h = few_by design (nat_le (length design.actions) 4294967295) refl h

many_by : (design : Design) (test : Bool) → (if test then code_by design (links_of design) else no_code).whole ≡ true →
    length (if test then code_by design (links_of design) else no_code).links ≡ length design.actions
many_by design true h =
    let links = links_of design in
    let kept : holds_links design (links_of design) ≡ true =
    and_left (holds_links design (links_of design)) (all_listed (length design.variables) (events_in design.actions) design.actions) h in
    let all : are_all design (links_of design) ≡ true =
    and_left (are_all design (links_of design)) (are_linked (links_of design) 0 design.actions && begin_well (links_of design) 0 design.processes) kept in
    same_back (length (links_of design)) (length design.actions) (and_left (length (links_of design) == length design.actions) (lead_on (links_of design) 0 (links_of design)) all)
many_by design false h = absurd cc

-- and a link for each
pub many_links : (design : Design) → (code_of design).whole ≡ true → length (code_of design).links ≡ length design.actions
unfolding code_of
many_links design h = many_by design (nat_le (length design.actions) 4294967295) h

-- ---- points

numbered_is : (frame : Frame) → place_of frame ≤ 4294967295 → point_of_frame frame ≡ point_of frame
numbered_is (Executing place) le = ap point.Executing (number_of_place place le)
numbered_is (Repeating place n) le = ap point.Repeating (number_of_place place le)
numbered_is (Writing place) le = ap point.Writing (number_of_place place le)

-- the process goes on, where something is left
pub goes_is : (p : ℕ) (to : Point) (continuation : List Frame) → to ≡ first_point_of continuation → goes_from p to ≡ process_to_continue p continuation
goes_is p to [] e = ap (goes_from p) e
goes_is p to (Executing place ∷ rest) e = ap (goes_from p) e
goes_is p to (Repeating place n ∷ rest) e = ap (goes_from p) e
goes_is p to (Writing place ∷ rest) e = ap (goes_from p) e

waits_some : (place : ℕ) (to from : Point) → place ≤ 4294967295 → to ≡ from → is_some (place_of_point from) ≡ true →
    stands_by (Waiting place) to ≡ point.Waiting place
waits_some place to from le e some =
    ap (λ q. if is_some (place_of_point q) then point.Waiting (place_number place) else q) e
    ∙ ap (λ b. if b then point.Waiting (place_number place) else from) some
    ∙ ap point.Waiting (number_of_place place le)

-- and stands where it waits, or at the first of that
pub stands_is : (disposition : Disposition) (continuation : List Frame) (to : Point) → to ≡ first_point_of continuation →
    ((place : ℕ) → disposition ≡ Waiting place → place ≤ 4294967295) → stands_by disposition to ≡ stand_of (waits_by disposition continuation) continuation
stands_is Runnable continuation to e few = e
stands_is (Delayed d) continuation to e few = e
stands_is (Waiting place) [] to e few = ap (λ q. if is_some (place_of_point q) then point.Waiting (place_number place) else q) e
stands_is (Waiting place) (Executing one ∷ rest) to e few = waits_some place to (point.Executing one) (few place refl) e refl
stands_is (Waiting place) (Repeating one n ∷ rest) to e few = waits_some place to (point.Repeating one) (few place refl) e refl
stands_is (Waiting place) (Writing one ∷ rest) to e few = waits_some place to (point.Writing one) (few place refl) e refl

set_there : (ps : List Point) (n : ℕ) (p : Point) → n < length ps → point_in (slice_set ps n p) n ≡ p
set_there [] n p lt = absurd (omega (arith, lt))
set_there (q ∷ ps) zero p lt = refl
set_there (q ∷ ps) (suc n) p lt = set_there ps n p (omega (arith, lt))

pub sets_many : (processes : List Process) (p : ℕ) (q : Process) → length (slice_set processes p q) ≡ length processes
sets_many [] p q = refl
sets_many (r ∷ rs) zero q = refl
sets_many (r ∷ rs) (suc p) q = ap suc (sets_many rs p q)

module _ (design : Design) (whole : (code_of design).whole ≡ true) (linked : IsLinked) where
  -- ---- who is suspended

  pub parked_of : (turns : List ℕ) (i place : ℕ) (continuation : List Frame) → IsSuspended design turns i place continuation → IsParked design turns i place continuation
  parked_of turns i place continuation s =
      let r = linked.resumes design turns i s.frame s.after s.action s.held s.now place s.step s.waits in
      let here : slice_get design.actions place ≡ Some s.action = ap (slice_get design.actions) r.0 ∙ s.step.there in
      record {
        action = s.action;
        there = here;
        within = omega (arith, few_places design whole, place_within design.actions place s.action here);
        owner = ap (λ n. (link_at (code_of design).links n).owner) r.0 ∙ s.step.led.0.owner;
        resumes = r.1 ∙ ap first_point_of s.left;
      }

  pub led_of : (turns : List ℕ) (i place : ℕ) (continuation : List Frame) → IsSuspended design turns i place continuation → AreLed (code_of design) i turns continuation
  led_of turns i place continuation s =
      subst (AreLed (code_of design) i turns) s.left
      (subst (λ ts. AreLed (code_of design) i ts (execute_at s.frame s.action s.after s.held s.now).continuation)
      (no_turns (code_of design) s.frame s.action s.after s.held s.now turns place s.waits)
      (linked.steps design turns i s.frame s.after s.action s.held s.now s.step))

  stand_parked : (turns : List ℕ) (processes : List Process) (ps : List Point) → StandsFor design turns processes ps → Stand design turns processes ps
  stand_parked turns processes ps h = record {
    many = h.many;
    at = h.at;
    parked = λ i place e. parked_of turns i place (left_in processes i) (subst (λ o. StandsAlong design turns i o (left_in processes i)) e (h.along i));
  }

  -- ---- turns of another process

  stays_suspended : (turns : List ℕ) (i place : ℕ) (continuation : List Frame) (other n : ℕ) → (link_at (code_of design).links other).owner ≢ i →
      IsSuspended design turns i place continuation → IsSuspended design (with_turns (code_of design) other n turns) i place continuation
  stays_suspended turns i place continuation other n ne s = record {
    frame = s.frame;
    after = s.after;
    action = s.action;
    held = s.held;
    now = s.now;
    step = record {
      whole = whole;
      counters = has_counters (code_of design) other n turns s.step.counters;
      there = s.step.there;
      led = linked.stays design turns i (s.frame ∷ s.after) other n whole ne s.step.led;
    };
    waits = s.waits;
    left = s.left;
  }

  stays_along : (turns : List ℕ) (i : ℕ) (waits : Option ℕ) (continuation : List Frame) (other n : ℕ) → (link_at (code_of design).links other).owner ≢ i →
      StandsAlong design turns i waits continuation → StandsAlong design (with_turns (code_of design) other n turns) i waits continuation
  stays_along turns i None continuation other n ne h = linked.stays design turns i continuation other n whole ne h
  stays_along turns i (Some place) continuation other n ne h = stays_suspended turns i place continuation other n ne h

  others_along : (turns : List ℕ) (i : ℕ) (waits : Option ℕ) (continuation : List Frame) (frame : Frame) (action : Action) (now : Environment) →
      (link_at (code_of design).links (place_of frame)).owner ≢ i →
      StandsAlong design turns i waits continuation → StandsAlong design (turns_behind (code_of design) frame action now turns) i waits continuation
  others_along turns i waits continuation frame action now ne h = elim (own_turns (code_of design) frame action now turns) [
    | inl e ↦ subst (λ ts. StandsAlong design ts i waits continuation) (sym e) h
    | inr e ↦ subst (λ ts. StandsAlong design ts i waits continuation) (sym e.1) (stays_along turns i waits continuation (place_of frame) e.0 ne h)
  ]

  -- ---- a process that takes a step

  module _ (turns : List ℕ) (p : ℕ) (frame : Frame) (after : List Frame) (action : Action) (held : Option Vector) (now : Environment)
      (step : TakesStep design turns p frame after action) where
    behind_turns : List ℕ
    behind_turns = turns_behind (code_of design) frame action now turns

    -- it comes to the first of what it has left then
    comes_by : (heads : List Frame) → (execute_at frame action [] held now).continuation ≡ heads →
        comes_to (code_of design) (turns_behind (code_of design) frame action now turns) (place_of frame) heads ≡ first_point_of (heads ++ after)
    comes_by [] e = linked.passes design turns p frame after action now step
    comes_by (head ∷ more) e =
        let left : (execute_at frame action after held now).continuation ≡ head ∷ (more ++ after) =
        ap (λ (s : StepResult). s.continuation) (continues frame action after held now) ∙ ap (λ xs. xs ++ after) e in
        let led : AreLed (code_of design) p (turns_behind (code_of design) frame action now turns) (head ∷ (more ++ after)) =
        subst (AreLed (code_of design) p (turns_behind (code_of design) frame action now turns)) left (linked.steps design turns p frame after action held now step) in
        let within : place_of head < length (code_of design).links = led.0.within in
        numbered_is head (omega (arith, within, many_links design whole, few_places design whole))

    pub comes : comes_to (code_of design) (turns_behind (code_of design) frame action now turns) (place_of frame) (execute_at frame action [] held now).continuation
        ≡ first_point_of ((execute_at frame action [] held now).continuation ++ after)
    comes = comes_by (execute_at frame action [] held now).continuation refl

    waits_few : (place : ℕ) → (execute_at frame action [] held now).effect.disposition ≡ Waiting place → place ≤ 4294967295
    waits_few place e =
        let d : (execute_at frame action after held now).effect.disposition ≡ Waiting place =
        ap (λ (s : StepResult). s.effect.disposition) (continues frame action after held now) ∙ e in
        let r = linked.resumes design turns p frame after action held now place step d in
        omega (arith, ap (λ n. n) r.0, step.led.0.within, many_links design whole, few_places design whole)

    suspended : (place : ℕ) (left : List Frame) → (execute_at frame action [] held now).effect.disposition ≡ Waiting place →
        (execute_at frame action [] held now).continuation ++ after ≡ left → IsSuspended design (turns_behind (code_of design) frame action now turns) p place left
    suspended place left e is =
        let d : (execute_at frame action after held now).effect.disposition ≡ Waiting place =
        ap (λ (s : StepResult). s.effect.disposition) (continues frame action after held now) ∙ e in
        subst (λ ts. IsSuspended design ts p place left) (sym (no_turns (code_of design) frame action after held now turns place d))
        (record {
          frame = frame;
          after = after;
          action = action;
          held = held;
          now = now;
          step = step;
          waits = d;
          left = ap (λ (s : StepResult). s.continuation) (continues frame action after held now) ∙ is;
        })

    along_by : (disposition : Disposition) (left : List Frame) → (execute_at frame action [] held now).effect.disposition ≡ disposition →
        (execute_at frame action [] held now).continuation ++ after ≡ left →
        StandsAlong design (turns_behind (code_of design) frame action now turns) p (waits_by disposition left) left
    along_by Runnable left e is =
        subst (AreLed (code_of design) p (turns_behind (code_of design) frame action now turns))
        (ap (λ (s : StepResult). s.continuation) (continues frame action after held now) ∙ is) (linked.steps design turns p frame after action held now step)
    along_by (Delayed d) left e is =
        subst (AreLed (code_of design) p (turns_behind (code_of design) frame action now turns))
        (ap (λ (s : StepResult). s.continuation) (continues frame action after held now) ∙ is) (linked.steps design turns p frame after action held now step)
    along_by (Waiting place) [] e is = tt
    along_by (Waiting place) (one ∷ rest) e is = suspended place (one ∷ rest) e is

    -- where all stand once it has taken the step
    pub placed : (processes : List Process) (ps : List Point) → StandsFor design turns processes ps → p < length processes →
        StandsFor design (turns_behind (code_of design) frame action now turns)
        (slice_set processes p (process_by (before_left (execute_at frame action [] held now) after)))
        (slice_set ps p (stands_by (execute_at frame action [] held now).effect.disposition
        (comes_to (code_of design) (turns_behind (code_of design) frame action now turns) (place_of frame) (execute_at frame action [] held now).continuation)))
    placed processes ps h lt = record {
      many = set_length ps p to ∙ h.many ∙ sym (sets_many processes p after_step);
      at = λ i. elim (alike i p) [
        | inl e ↦ subst At (sym e)
            (set_there ps p to (omega (arith, lt, h.many))
            ∙ stands_is disposition after_step.continuation come comes waits_few
            ∙ ap (λ o. stand_of (waits_of o) (continuation_of o)) (sym (get-set_same processes p after_step lt)))
        | inr ne ↦ set_else ps p i to ne ∙ h.at i ∙ ap (λ o. stand_of (waits_of o) (continuation_of o)) (sym (get-set_other processes p i after_step ne))
      ];
      along = λ i. elim (alike i p) [
        | inl e ↦ subst Along (sym e)
            (subst (λ o. StandsAlong design turns_then p (waits_of o) (continuation_of o)) (sym (get-set_same processes p after_step lt))
            (along_by disposition after_step.continuation refl refl))
        | inr ne ↦ subst (λ o. StandsAlong design turns_then i (waits_of o) (continuation_of o)) (sym (get-set_other processes p i after_step ne))
            (others_along turns i (waits_in processes i) (left_in processes i) frame action now (λ same. ne (sym same ∙ step.led.0.owner)) (h.along i))
      ];
    }
      where
        turns_then : List ℕ
        turns_then = turns_behind (code_of design) frame action now turns

        disposition : Disposition
        disposition = (execute_at frame action [] held now).effect.disposition

        come : Point
        come = comes_to (code_of design) (turns_behind (code_of design) frame action now turns) (place_of frame) (execute_at frame action [] held now).continuation

        to : Point
        to = stands_by (execute_at frame action [] held now).effect.disposition
            (comes_to (code_of design) (turns_behind (code_of design) frame action now turns) (place_of frame) (execute_at frame action [] held now).continuation)

        after_step : Process
        after_step = process_by (before_left (execute_at frame action [] held now) after)

        At : ℕ → Type 0
        At n = point_in (slice_set ps p to) n ≡ stand_of (waits_in (slice_set processes p after_step) n) (left_in (slice_set processes p after_step) n)

        Along : ℕ → Type 0
        Along n = StandsAlong design turns_then n (waits_in (slice_set processes p after_step) n) (left_in (slice_set processes p after_step) n)

  -- ---- waking

  awake_along : (turns : List ℕ) (i : ℕ) (wake : Process → Bool) (o : Option Process) → StandsAlong design turns i (waits_of o) (continuation_of o) →
      StandsAlong design turns i (waits_of (option_map (awake wake) o)) (continuation_of (option_map (awake wake) o))
  awake_along turns i wake None h = h
  awake_along turns i wake (Some process) h = by (wake process)
    where
      led : (waits : Option ℕ) → StandsAlong design turns i waits process.continuation → AreLed (code_of design) i turns process.continuation
      led None h = h
      led (Some place) h = led_of turns i place process.continuation h

      by : (b : Bool) → StandsAlong design turns i (if b then record process { waits = None } else process).waits (if b then record process { waits = None } else process).continuation
      by true = led process.waits h
      by false = h

  -- who waits for what a step changes, or for the event that it triggers, wakes by the lists
  pub woken : (heard : IsHeardByAll) (turns : List ℕ) (before : List Vector) (wrote : List Part) (triggered : Option ℕ) (processes : List Process) (ps : List Point) (active : List ℕ) →
      StandsFor design turns processes ps → RisesFrom 0 active →
      StandsFor design turns (map (awake (wakes design.actions before (with_parts wrote before) triggered)) processes)
      (with_terms (code_of design) turns before (with_parts wrote before) triggered (terms_told wrote triggered) (record { points = ps; active = active })).points
      × ((with_terms (code_of design) turns before (with_parts wrote before) triggered (terms_told wrote triggered) (record { points = ps; active = active })).active
      ≡ with_awake (wakes design.actions before (with_parts wrote before) triggered) 0 processes active)
  woken heard turns before wrote triggered processes ps active h rising =
      let w : AreWoken design turns (wakes design.actions before (with_parts wrote before) triggered) processes active
      (with_terms (code_of design) turns before (with_parts wrote before) triggered (terms_told wrote triggered) (record { points = ps; active = active })) =
      woken_by_lists design turns before (with_parts wrote before) triggered processes ps active (terms_told wrote triggered) whole (few_places design whole) heard
      (stand_parked turns processes ps h) (covers before wrote triggered) rising in (
        record {
          many = w.stand.many;
          at = w.stand.at;
          along = λ i. subst (λ o. StandsAlong design turns i (waits_of o) (continuation_of o))
              (sym (get_awake (wakes design.actions before (with_parts wrote before) triggered) processes i))
              (awake_along turns i (wakes design.actions before (with_parts wrote before) triggered) (slice_get processes i) (h.along i));
        },
        w.active_is,
      )
