-- Waking by lists of listeners wakes each process for which that has come which it waits for, and nobody else.
use Rattle.std.proofs.Common.{◌≡◌, ◌≢◌, ◌⊎◌, inl, inr, ℕ, zero, suc, ◌+◌, ◌<◌, ◌≤◌, ◌==◌, Bool, true, false, true≢false, ◌||◌, ◌&&◌, if◌then◌else◌, List, [], ◌∷◌, map, length, slice_get, slice_set, Option, None, Some, option_map, refl, sym, ap, subst, ◌∙◌, arith}
use Rattle.std.specs.List.{Contains}
use Rattle.std.proofs.lemmas.Bool.{ne_eqb}
use Rattle.basis.proofs.Lists.{place_within}
use Rattle.vbits.specs.Vectors.{Vector}
use Rattle.vcode.specs.declared.point.Point.{Point}
use Rattle.vcode.specs.declared.point.Point.TheVariants as point
use Rattle.vcode.specs.declared.listener.Listener.{Listener}
use Rattle.vcode.specs.Points.{is_same_point}
use Rattle.vcode.specs.Code.{Code, link_at, settle}
use Rattle.vdesign.specs.Design.{Design}
use Rattle.vdesign.specs.declared.action.Edge.TheVariants.{Any}
use Rattle.vdesign.specs.declared.action.Term.{Term}
use Rattle.vdesign.specs.declared.action.Term.TheVariants.{Change, Event}
use Rattle.vdesign.specs.declared.action.Action.{Action}
use Rattle.vmodel.specs.declared.frame.Frame.{Frame}
use Rattle.vmodel.specs.declared.frame.Frame.TheVariants.{Executing, Repeating, Writing}
use Rattle.vmodel.specs.Queue.{with_process}
use Rattle.vmodel.specs.State.{Process}
use Rattle.vmodel.specs.Kept.{RisesFrom, waits_of}
use Rattle.vmodel.specs.Step.{continuation_of}
use Rattle.vmodel.specs.Waking.{hears, has_come, wakes_at, wakes, awake, with_awake}
use Rattle.vcompile.specs.Links.{place_number}
use Rattle.vcompile.specs.Listening.{edge_of, resumes_at, listener_at}
use Rattle.vcompile.specs.CodeOf.{code_of}
use Rattle.vcompile.specs.Laws.{first_of, heard_of, with_edge, IsHeard, Awaits, IsHeardByAll}
use Rattle.vflat.specs.Flat.{point_in, Woken, wakes_listener, with_resumed, with_listener, with_listeners, with_term, with_terms, waits_in, left_in, stand_of}
use Rattle.vflat.proofs.RisingLemmas.{is_in, in_with, rises_with, same_members}
use Rattle.basis.proofs.Bools.{and_left, and_right, or_first, or_second, same_truth}
use Rattle.vmodel.proofs.ProcessLemmas.{same as equal_numbers, same_back}
use Rattle.vmodel.proofs.PlaceLemmas.{or_either}
use Rattle.vmodel.proofs.AwakeLemmas.{awake_rises, get_awake}
use Rattle.vcompile.proofs.LinkLemmas.{number_of_place}
use Rattle.vcompile.proofs.HeardLemmas.{nobody}

-- ---- tests

or_none : (b : Bool) → (b || false) ≡ b
or_none true = refl
or_none false = refl

-- ---- lists

pub listed_first : {X : Type 0} (x : X) (xs : List X) → Contains (x ∷ xs) x
listed_first x xs = (0, omega arith, refl)

pub listed_later : {X : Type 0} (x : X) (xs : List X) (y : X) → Contains xs y → Contains (x ∷ xs) y
listed_later x xs y (k, lt, is) = (suc k, omega (arith, lt), is)

pub listed_cases : {X : Type 0} (x : X) (xs : List X) (y : X) → Contains (x ∷ xs) y → (y ≡ x) ⊎ Contains xs y
listed_cases x xs y (zero, lt, is) = inl (sym is)
listed_cases x xs y (suc k, lt, is) = inr (k, omega (arith, lt), is)

-- ---- points

waits_here : (p : Point) (place : ℕ) → is_same_point p (point.Waiting place) ≡ true → p ≡ point.Waiting place
waits_here point.Ended place h = absurd cc
waits_here (point.Executing one) place h = absurd cc
waits_here (point.Repeating one) place h = absurd cc
waits_here (point.Writing one) place h = absurd cc
waits_here (point.Waiting one) place h = ap point.Waiting (same_back one place h)

is_waiting : (p : Point) (place : ℕ) → p ≡ point.Waiting place → is_same_point p (point.Waiting place) ≡ true
is_waiting p place e = ap (λ q. is_same_point q (point.Waiting place)) e ∙ equal_numbers place place refl

-- what has so much left doesn't wait
pub goes_on : (continuation : List Frame) (place : ℕ) → first_of continuation ≡ point.Waiting place → ⊥
goes_on [] place e = absurd cc
goes_on (Executing one ∷ rest) place e = absurd cc
goes_on (Repeating one n ∷ rest) place e = absurd cc
goes_on (Writing one ∷ rest) place e = absurd cc

waits_so : (waits : Option ℕ) (continuation : List Frame) (place : ℕ) → stand_of waits continuation ≡ point.Waiting place → waits ≡ Some place
waits_so None continuation place e = absurd (goes_on continuation place e)
waits_so (Some one) continuation place e = same e
  where
    same : point.Waiting one ≡ point.Waiting place → Some one ≡ Some place
    same e = cc

-- ---- lists of points

set_here : (ps : List Point) (n place : ℕ) (p : Point) → point_in ps n ≡ point.Waiting place → point_in (slice_set ps n p) n ≡ p
set_here [] n place p e = absurd cc
set_here (q ∷ ps) zero place p e = refl
set_here (q ∷ ps) (suc n) place p e = set_here ps n place p e

pub set_else : (ps : List Point) (n m : ℕ) (p : Point) → m ≢ n → point_in (slice_set ps n p) m ≡ point_in ps m
set_else [] n m p other = refl
set_else (q ∷ ps) zero zero p other = absurd (other refl)
set_else (q ∷ ps) zero (suc m) p other = refl
set_else (q ∷ ps) (suc n) zero p other = refl
set_else (q ∷ ps) (suc n) (suc m) p other = set_else ps n m p (λ e. other (ap suc e))

pub set_length : (ps : List Point) (n : ℕ) (p : Point) → length (slice_set ps n p) ≡ length ps
set_length [] n p = refl
set_length (q ∷ ps) zero p = refl
set_length (q ∷ ps) (suc n) p = ap suc (set_length ps n p)

-- ---- who waits

-- A process that waits at a place: the action there is its own, and who listens for it there says where it goes on
pub record IsParked (design : Design) (turns : List ℕ) (i place : ℕ) (continuation : List Frame) : Type 0 where
  pub action : Action
  pub there : slice_get design.actions place ≡ Some action
  pub within : place ≤ 4294967295
  pub owner : (link_at (code_of design).links place).owner ≡ i
  pub resumes : settle (code_of design) turns (resumes_at place (link_at (code_of design).links place).next action) ≡ first_of continuation

-- the points are those of the processes, and who waits is parked
pub record Stand (design : Design) (turns : List ℕ) (processes : List Process) (ps : List Point) : Type 0 where
  pub many : length ps ≡ length processes
  pub at : (i : ℕ) → point_in ps i ≡ stand_of (waits_in processes i) (left_in processes i)
  pub parked : (i place : ℕ) → waits_in processes i ≡ Some place → IsParked design turns i place (left_in processes i)

-- ---- the first so many of all that listen

-- these have woken, each of which was to wake
record SoFar (processes : List Process) (ps : List Point) (active : List ℕ) (comes woke : ℕ → Bool) (w : Woken) : Type 0 where
  at : (i : ℕ) → point_in w.points i ≡ (if woke i then first_of (left_in processes i) else point_in ps i)
  many : length w.points ≡ length ps
  due : (i : ℕ) → woke i ≡ true → comes i ≡ true
  rises : RisesFrom 0 w.active
  active_are : (i : ℕ) → is_in i w.active ≡ (woke i || is_in i active)

-- and some more have, among them the processes of such listeners that waited
record Gone (processes : List Process) (ps : List Point) (active : List ℕ) (comes : ℕ → Bool) (P : Listener → Type 0) (woke : ℕ → Bool) (w : Woken) : Type 0 where
  now : ℕ → Bool
  so : SoFar processes ps active comes now w
  keeps : (i : ℕ) → woke i ≡ true → now i ≡ true
  done : (l : Listener) → P l → waits_in processes l.process ≡ Some l.place → now l.process ≡ true

-- it stands in the list of one of these terms, and hears
record IsTold (code : Code) (before after : List Vector) (triggered : Option ℕ) (terms : List Term) (l : Listener) : Type 0 where
  term : Term
  among : Contains terms term
  listed : Contains (heard_of code term) l
  heard : hears before after triggered (with_edge term l.edge) ≡ true

or_of_three : (a b c : Bool) → (a || (b || c)) ≡ ((a || b) || c)
or_of_three true b c = refl
or_of_three false b c = refl

whose_edge : (term : Term) → with_edge (with_edge term Any) (edge_of term) ≡ term
whose_edge (Change edge variable) = refl
whose_edge (Event event) = refl

same_list : (code : Code) (term : Term) → heard_of code (with_edge term Any) ≡ heard_of code term
same_list code (Change edge variable) = refl
same_list code (Event event) = refl

-- whether a process is to wake
abbrev comes_in : Design → List Vector → List Vector → Option ℕ → List Process → ℕ → Bool
comes_in design before after triggered processes i = wakes_at design.actions before after triggered (waits_in processes i)

module _ (design : Design) (turns : List ℕ) (before after : List Vector) (triggered : Option ℕ) (processes : List Process) (ps : List Point) (active : List ℕ)
    (whole : (code_of design).whole ≡ true) (few : length design.actions ≤ 4294967295) (law : IsHeardByAll) (stand : Stand design turns processes ps) where
  -- what a listener that hears tells of its process, where that waits at its place
  heard_is : (term : Term) (l : Listener) → Contains (heard_of (code_of design) term) l → hears before after triggered (with_edge term l.edge) ≡ true →
      waits_in processes l.process ≡ Some l.place →
      (comes_in design before after triggered processes l.process ≡ true) × (settle (code_of design) turns l.resumes ≡ first_of (left_in processes l.process))
  heard_is term l listed hear waits =
      let a : Awaits design term l = law.only design term l whole listed in
      let p : IsParked design turns l.process l.place (left_in processes l.process) = stand.parked l.process l.place waits in
      let within : a.place < length design.actions = place_within design.actions a.place a.action a.there in
      let near : a.place ≤ 4294967295 = omega (arith, few, within) in
      let place : l.place ≡ a.place = ap (λ (x : Listener). x.place) a.is ∙ number_of_place a.place near in
      let both : Some a.action ≡ Some p.action = sym a.there ∙ ap (slice_get design.actions) (sym place) ∙ p.there in
      let same : a.action ≡ p.action = cc in
      let resumes : l.resumes ≡ resumes_at l.place (link_at (code_of design).links l.place).next p.action =
      ap (λ (x : Listener). x.resumes) a.is
      ∙ (λ i. resumes_at (sym place i) (link_at (code_of design).links (sym place i)).next (same i)) in (
        ap (wakes_at design.actions before after triggered) waits ∙ ap (λ o. has_come o before after triggered) (p.there ∙ ap Some (sym same)) ∙ a.comes before after triggered hear,
        ap (settle (code_of design) turns) resumes ∙ p.resumes,
      )

  -- such a listener wakes its process
  wake_one : (term : Term) (l : Listener) → Contains (heard_of (code_of design) term) l → hears before after triggered (with_edge term l.edge) ≡ true →
      (woke : ℕ → Bool) (w : Woken) → SoFar processes ps active (comes_in design before after triggered processes) woke w →
      point_in w.points l.process ≡ point.Waiting l.place → waits_in processes l.process ≡ Some l.place →
      SoFar processes ps active (comes_in design before after triggered processes) (λ i. (i == l.process) || woke i) (with_resumed (code_of design) turns l w)
  wake_one term l listed hear woke w so here waits = record {
    at = λ i. at_by i (i == l.process) refl;
    many = set_length w.points l.process (settle (code_of design) turns l.resumes) ∙ so.many;
    due = λ i h. elim (or_either (i == l.process) (woke i) h) [
      | inl e ↦ ap (comes_in design before after triggered processes) (same_back i l.process e) ∙ (heard_is term l listed hear waits).0
      | inr e ↦ so.due i e
    ];
    rises = rises_with l.process 0 w.active (omega arith) so.rises;
    active_are = λ i. in_with i l.process w.active ∙ ap (λ b. (i == l.process) || b) (so.active_are i) ∙ or_of_three (i == l.process) (woke i) (is_in i active);
  }
    where
      at_by : (i : ℕ) (b : Bool) → (i == l.process) ≡ b →
          point_in (slice_set w.points l.process (settle (code_of design) turns l.resumes)) i ≡ (if b || woke i then first_of (left_in processes i) else point_in ps i)
      at_by i true e =
          let same : i ≡ l.process = same_back i l.process e in
          ap (point_in (slice_set w.points l.process (settle (code_of design) turns l.resumes))) same
          ∙ set_here w.points l.process l.place (settle (code_of design) turns l.resumes) here
          ∙ (heard_is term l listed hear waits).1
          ∙ ap (λ n. first_of (left_in processes n)) (sym same)
      at_by i false e =
          set_else w.points l.process i (settle (code_of design) turns l.resumes) (λ same. true≢false (sym (equal_numbers i l.process same) ∙ e)) ∙ so.at i

  -- a process that hasn't woken stands where it stood
  waits_yet : (woke : ℕ → Bool) (w : Woken) → SoFar processes ps active (comes_in design before after triggered processes) woke w → (i place : ℕ) →
      point_in w.points i ≡ point.Waiting place → waits_in processes i ≡ Some place
  waits_yet woke w so i place here = by (woke i) refl
    where
      by : (b : Bool) → woke i ≡ b → waits_in processes i ≡ Some place
      by true e = absurd (goes_on (left_in processes i) place (sym (so.at i ∙ ap (λ b. if b then first_of (left_in processes i) else point_in ps i) e) ∙ here))
      by false e = waits_so (waits_in processes i) (left_in processes i) place
          (sym (stand.at i) ∙ sym (so.at i ∙ ap (λ b. if b then first_of (left_in processes i) else point_in ps i) e) ∙ here)

  woke_yet : (woke : ℕ → Bool) (w : Woken) → SoFar processes ps active (comes_in design before after triggered processes) woke w → (i place : ℕ) →
      waits_in processes i ≡ Some place → is_same_point (point_in w.points i) (point.Waiting place) ≡ false → woke i ≡ true
  woke_yet woke w so i place waits isnt = by (woke i) refl
    where
      by : (b : Bool) → woke i ≡ b → woke i ≡ true
      by true e = e
      by false e =
          let here : point_in w.points i ≡ point.Waiting place =
          so.at i ∙ ap (λ b. if b then first_of (left_in processes i) else point_in ps i) e ∙ stand.at i ∙ ap (λ o. stand_of o (left_in processes i)) waits in
          absurd (true≢false (sym (is_waiting (point_in w.points i) place here) ∙ isnt))

  -- one listener
  step_by : (term : Term) (l : Listener) → Contains (heard_of (code_of design) term) l → (woke : ℕ → Bool) (w : Woken) →
      SoFar processes ps active (comes_in design before after triggered processes) woke w →
      (b : Bool) → wakes_listener (hears before after triggered (with_edge term l.edge)) l w.points ≡ b →
      Gone processes ps active (comes_in design before after triggered processes) (λ x. (x ≡ l) × (hears before after triggered (with_edge term l.edge) ≡ true)) woke
      (if b then with_resumed (code_of design) turns l w else w)
  step_by term l listed woke w so true e =
      let hear : hears before after triggered (with_edge term l.edge) ≡ true = and_left (hears before after triggered (with_edge term l.edge)) (is_same_point (point_in w.points l.process) (point.Waiting l.place)) e in
      let here : point_in w.points l.process ≡ point.Waiting l.place =
      waits_here (point_in w.points l.process) l.place (and_right (hears before after triggered (with_edge term l.edge)) (is_same_point (point_in w.points l.process) (point.Waiting l.place)) e) in
      record {
        now = λ i. (i == l.process) || woke i;
        so = wake_one term l listed hear woke w so here (waits_yet woke w so l.process l.place here);
        keeps = λ i h. or_second (i == l.process) (woke i) h;
        done = λ x h waits. or_first (x.process == l.process) (woke x.process) (equal_numbers x.process l.process (ap (λ (y : Listener). y.process) h.0));
      }
  step_by term l listed woke w so false e = record {
    now = woke;
    so = so;
    keeps = λ i h. h;
    done = λ x h waits. subst (λ (y : Listener). waits_in processes y.process ≡ Some y.place → woke y.process ≡ true) (sym h.0)
        (λ here. woke_yet woke w so l.process l.place here (sym (ap (λ heard. heard && is_same_point (point_in w.points l.process) (point.Waiting l.place)) h.1) ∙ e)) waits;
  }

  -- a list of them
  go_list : (term : Term) (ls : List Listener) → ((l : Listener) → Contains ls l → Contains (heard_of (code_of design) term) l) → (woke : ℕ → Bool) (w : Woken) →
      SoFar processes ps active (comes_in design before after triggered processes) woke w →
      Gone processes ps active (comes_in design before after triggered processes) (λ l. Contains ls l × (hears before after triggered (with_edge term l.edge) ≡ true)) woke
      (with_listeners (code_of design) turns (λ edge. hears before after triggered (with_edge term edge)) ls w)
  go_list term [] listed woke w so = record { now = woke; so = so; keeps = λ i h. h; done = λ l h waits. absurd (nobody l h.0) }
  go_list term (x ∷ ls) listed woke w so =
      let heard : Bool = hears before after triggered (with_edge term x.edge) in
      let first = step_by term x (listed x (listed_first x ls)) woke w so (wakes_listener (hears before after triggered (with_edge term x.edge)) x w.points) refl in
      let rest = go_list term ls (λ l h. listed l (listed_later x ls l h)) first.now
      (with_listener (code_of design) turns (hears before after triggered (with_edge term x.edge)) x w) first.so in
      record {
        now = rest.now;
        so = rest.so;
        keeps = λ i h. rest.keeps i (first.keeps i h);
        done = λ l h waits. elim (listed_cases x ls l h.0) [
          | inl e ↦ rest.keeps l.process (first.done l (e, ap (λ (y : Listener). hears before after triggered (with_edge term y.edge)) (sym e) ∙ h.1) waits)
          | inr there ↦ rest.done l (there, h.1) waits
        ];
      }

  -- those who listen to what some terms are of
  go_terms : (terms : List Term) (woke : ℕ → Bool) (w : Woken) → SoFar processes ps active (comes_in design before after triggered processes) woke w →
      Gone processes ps active (comes_in design before after triggered processes) (IsTold (code_of design) before after triggered terms) woke
      (with_terms (code_of design) turns before after triggered terms w)
  go_terms [] woke w so = record { now = woke; so = so; keeps = λ i h. h; done = λ l h waits. absurd (nobody h.term h.among) }
  go_terms (term ∷ terms) woke w so =
      let first = go_list term (heard_of (code_of design) term) (λ l h. h) woke w so in
      let rest = go_terms terms first.now (with_term (code_of design) turns before after triggered term w) first.so in
      record {
        now = rest.now;
        so = rest.so;
        keeps = λ i h. rest.keeps i (first.keeps i h);
        done = λ l h waits. elim (listed_cases term terms h.term h.among) [
          | inl e ↦ rest.keeps l.process (first.done l
              (subst (λ t. Contains (heard_of (code_of design) t) l) e h.listed, ap (λ t. hears before after triggered (with_edge t l.edge)) (sym e) ∙ h.heard) waits)
          | inr there ↦ rest.done l (record { term = h.term; among = there; listed = h.listed; heard = h.heard }) waits
        ];
      }

  -- ---- all of them

  module _ (terms : List Term) (covers : (term : Term) → hears before after triggered term ≡ true → Contains terms (with_edge term Any))
      (rising : RisesFrom 0 active) where
    start : SoFar processes ps active (comes_in design before after triggered processes) (λ i. false) (record { points = ps; active = active })
    start = record { at = λ i. refl; many = refl; due = λ i h. absurd (true≢false (sym h)); rises = rising; active_are = λ i. refl }

    gone : Gone processes ps active (comes_in design before after triggered processes) (IsTold (code_of design) before after triggered terms) (λ i. false)
        (with_terms (code_of design) turns before after triggered terms (record { points = ps; active = active }))
    gone = go_terms terms (λ i. false) (record { points = ps; active = active }) start

    all_woke : (i : ℕ) → comes_in design before after triggered processes i ≡ true → gone.now i ≡ true
    all_woke i comes = by (waits_in processes i) refl
      where
        by : (waits : Option ℕ) → waits_in processes i ≡ waits → gone.now i ≡ true
        by None e = absurd (true≢false (sym comes ∙ ap (wakes_at design.actions before after triggered) e))
        by (Some place) e =
            let p : IsParked design turns i place (left_in processes i) = stand.parked i place e in
            let come : has_come (Some p.action) before after triggered ≡ true =
            ap (λ o. has_come o before after triggered) (sym p.there) ∙ ap (wakes_at design.actions before after triggered) (sym e) ∙ comes in
            let h : IsHeard design place p.action before after triggered = law.all design place p.action before after triggered whole p.there come in
            let number : place_number place ≡ place = number_of_place place p.within in
            let waits : waits_in processes (link_at (code_of design).links place).owner ≡ Some (place_number place) =
            ap (waits_in processes) p.owner ∙ e ∙ ap Some (sym number) in
            let told : IsTold (code_of design) before after triggered terms (listener_at (code_of design).links place p.action (edge_of h.term)) = record {
              term = with_edge h.term Any;
              among = covers h.term h.comes;
              listed = subst (λ ls. Contains ls (listener_at (code_of design).links place p.action (edge_of h.term))) (sym (same_list (code_of design) h.term)) h.listed;
              heard = ap (hears before after triggered) (whose_edge h.term) ∙ h.comes;
            } in
            ap gone.now (sym p.owner) ∙ gone.done (listener_at (code_of design).links place p.action (edge_of h.term)) told waits

    woke_is : (i : ℕ) → gone.now i ≡ comes_in design before after triggered processes i
    woke_is i = same_truth (gone.now i) (comes_in design before after triggered processes i) (gone.so.due i) (all_woke i)

-- whether a process wakes, where it is there
abbrev pub wake_test : (Process → Bool) → Option Process → Bool
wake_test wakes None = false
wake_test wakes (Some process) = wakes process

-- ---- the processes that wake in the model

stand_awake : (wakes : Process → Bool) (o : Option Process) (b : Bool) (p q : Point) → wake_test wakes o ≡ b → p ≡ stand_of (waits_of o) (continuation_of o) →
    q ≡ (if b then first_of (continuation_of o) else p) → q ≡ stand_of (waits_of (option_map (awake wakes) o)) (continuation_of (option_map (awake wakes) o))
stand_awake wakes None true p q test is was = absurd (true≢false (sym test))
stand_awake wakes None false p q test is was = was ∙ is
stand_awake wakes (Some process) true p q test is was =
    was ∙ ap (λ b. stand_of (waits_of (Some (if b then record process { waits = None } else process))) (continuation_of (Some (if b then record process { waits = None } else process)))) (sym test)
stand_awake wakes (Some process) false p q test is was =
    was ∙ is ∙ ap (λ b. stand_of (waits_of (Some (if b then record process { waits = None } else process))) (continuation_of (Some (if b then record process { waits = None } else process)))) (sym test)

-- one that still waits waited there, and has as much left
still : (wakes : Process → Bool) (o : Option Process) (place : ℕ) → waits_of (option_map (awake wakes) o) ≡ Some place →
    (waits_of o ≡ Some place) × (continuation_of o ≡ continuation_of (option_map (awake wakes) o))
still wakes None place e = absurd cc
still wakes (Some process) place e = by (wakes process) refl
  where
    by : (b : Bool) → wakes process ≡ b → (process.waits ≡ Some place) × (process.continuation ≡ (if wakes process then record process { waits = None } else process).continuation)
    by true test =
        let none : None ≡ Some place = ap (λ b. (if b then record process { waits = None } else process).waits) (sym test) ∙ e in absurd cc
    by false test = (
      ap (λ b. (if b then record process { waits = None } else process).waits) (sym test) ∙ e,
      ap (λ b. (if b then record process { waits = None } else process).continuation) (sym test),
    )

many_awake : (wakes : Process → Bool) (ps : List Process) → length (map (awake wakes) ps) ≡ length ps
many_awake wakes [] = refl
many_awake wakes (process ∷ rest) = ap suc (many_awake wakes rest)

in_awake_by : (b : Bool) (r n : ℕ) (active : List ℕ) → r ≢ n → is_in r (if b then with_process n active else active) ≡ is_in r active
in_awake_by true r n active ne = in_with r n active ∙ ap (λ b. b || is_in r active) (ne_eqb r n ne)
in_awake_by false r n active ne = refl

in_awake_below : (wakes : Process → Bool) (r n : ℕ) (ps : List Process) (active : List ℕ) → r < n → is_in r (with_awake wakes n ps active) ≡ is_in r active
in_awake_below wakes r n [] active lt = refl
in_awake_below wakes r n (process ∷ rest) active lt =
    in_awake_below wakes r (suc n) rest (if wakes process then with_process n active else active) (omega (arith, lt))
    ∙ in_awake_by (wakes process) r n active (λ e. absurd (omega (arith, lt, e)))

in_awake_here : (b : Bool) (r n : ℕ) (active : List ℕ) → r ≡ n → is_in r (if b then with_process n active else active) ≡ (b || is_in r active)
in_awake_here true r n active e = in_with r n active ∙ or_first (r == n) (is_in r active) (equal_numbers r n e)
in_awake_here false r n active e = refl

in_awake : (wakes : Process → Bool) (r n k : ℕ) (ps : List Process) (active : List ℕ) → r ≡ n + k →
    is_in r (with_awake wakes n ps active) ≡ (wake_test wakes (slice_get ps k) || is_in r active)
in_awake wakes r n k [] active e = refl
in_awake wakes r n zero (process ∷ rest) active e =
    in_awake_below wakes r (suc n) rest (if wakes process then with_process n active else active) (omega (arith, e))
    ∙ in_awake_here (wakes process) r n active (omega (arith, e))
in_awake wakes r n (suc k) (process ∷ rest) active e =
    in_awake wakes r (suc n) k rest (if wakes process then with_process n active else active) (omega (arith, e))
    ∙ ap (λ b. wake_test wakes (slice_get rest k) || b) (in_awake_by (wakes process) r n active (λ same. absurd (omega (arith, e, same))))

rises_awake_by : (b : Bool) (n : ℕ) (active : List ℕ) → RisesFrom 0 active → RisesFrom 0 (if b then with_process n active else active)
rises_awake_by true n active h = rises_with n 0 active (omega arith) h
rises_awake_by false n active h = h

test_is : (actions : List Action) (before after : List Vector) (triggered : Option ℕ) (o : Option Process) →
    wakes_at actions before after triggered (waits_of o) ≡ wake_test (wakes actions before after triggered) o
test_is actions before after triggered None = refl
test_is actions before after triggered (Some process) = refl

parked_as : (design : Design) (turns : List ℕ) (i place : ℕ) (one other : List Frame) → one ≡ other → IsParked design turns i place one → IsParked design turns i place other
parked_as design turns i place one other e h = subst (IsParked design turns i place) e h

-- waking by lists is waking by what each process waits for
pub record AreWoken (design : Design) (turns : List ℕ) (wakes : Process → Bool) (processes : List Process) (active : List ℕ) (w : Woken) : Type 0 where
  pub stand : Stand design turns (map (awake wakes) processes) w.points
  pub active_is : w.active ≡ with_awake wakes 0 processes active

pub woken_by_lists : (design : Design) (turns : List ℕ) (before after : List Vector) (triggered : Option ℕ) (processes : List Process) (ps : List Point) (active : List ℕ) (terms : List Term) →
    (code_of design).whole ≡ true → length design.actions ≤ 4294967295 → IsHeardByAll → Stand design turns processes ps →
    ((term : Term) → hears before after triggered term ≡ true → Contains terms (with_edge term Any)) → RisesFrom 0 active →
    AreWoken design turns (wakes design.actions before after triggered) processes active
    (with_terms (code_of design) turns before after triggered terms (record { points = ps; active = active }))
woken_by_lists design turns before after triggered processes ps active terms whole few law stand covers rising =
    let g = gone design turns before after triggered processes ps active whole few law stand terms covers rising in
    let is : (i : ℕ) → g.now i ≡ wake_test (wakes design.actions before after triggered) (slice_get processes i) = λ i.
    woke_is design turns before after triggered processes ps active whole few law stand terms covers rising i
    ∙ test_is design.actions before after triggered (slice_get processes i) in
    record {
      stand = record {
        many = g.so.many ∙ stand.many ∙ sym (many_awake (wakes design.actions before after triggered) processes);
        at = λ i.
            stand_awake (wakes design.actions before after triggered) (slice_get processes i) (g.now i) (point_in ps i)
            (point_in (with_terms (code_of design) turns before after triggered terms (record { points = ps; active = active })).points i)
            (sym (is i)) (stand.at i) (g.so.at i)
            ∙ (λ j. stand_of (waits_of (sym (get_awake (wakes design.actions before after triggered) processes i) j)) (continuation_of (sym (get_awake (wakes design.actions before after triggered) processes i) j)));
        parked = λ i place e.
            let s = still (wakes design.actions before after triggered) (slice_get processes i) place (ap waits_of (sym (get_awake (wakes design.actions before after triggered) processes i)) ∙ e) in
            parked_as design turns i place (continuation_of (slice_get processes i)) (continuation_of (slice_get (map (awake (wakes design.actions before after triggered)) processes) i))
            (s.1 ∙ ap continuation_of (sym (get_awake (wakes design.actions before after triggered) processes i))) (stand.parked i place s.0);
      };
      active_is = same_members 0 0
          (with_terms (code_of design) turns before after triggered terms (record { points = ps; active = active })).active
          (with_awake (wakes design.actions before after triggered) 0 processes active)
          g.so.rises (awake_rises (wakes design.actions before after triggered) 0 processes active rising)
          (λ r. g.so.active_are r ∙ ap (λ b. b || is_in r active) (is r)
          ∙ sym (in_awake (wakes design.actions before after triggered) r 0 r processes active (omega arith)));
    }
