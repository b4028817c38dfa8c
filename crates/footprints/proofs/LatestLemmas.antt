-- Bounds by what visits touch: a visit is of no swap where nothing that it touches comes behind it in the run.
use Rattle.std.proofs.Common.{◌≡◌, ◌⊎◌, ℕ, zero, suc, ◌+◌, ◌<◌, ◌≤◌, ◌==◌, ◌&&◌, ◌||◌, not, nat_lt, if◌then◌else◌, Bool, true, false}
use Rattle.std.proofs.Common.{List, [], ◌∷◌, ◌++◌, length, take, Option, Some, None, slice_get, slice_set, inl, inr, refl, sym, ap}
use Rattle.std.proofs.Common.{subst, ◌∙◌, le_refl, arith}
use Rattle.std.proofs.lemmas.Bool.{cases_lt, eqb-true}
use Rattle.std.proofs.lemmas.Bool.Decides.{nat_tests}
use Rattle.std.proofs.lemmas.Option.{same_Some, slice_get_within}
use Rattle.basis.proofs.Bools.{and_both, and_left, and_right, clash, or_first, or_second}
use Rattle.footprints.specs.declared.thing.Thing.{Thing}
use Rattle.footprints.specs.declared.thing.Thing.TheVariants.{Variable, Wait, End}
use Rattle.footprints.specs.declared.thing.Awaited.{Awaited}
use Rattle.footprints.specs.declared.thing.Awaited.TheVariants as awaited
use Rattle.footprints.specs.declared.footprint.Footprint.{Footprint}
use Rattle.footprints.specs.declared.visit.Actor.{Actor}
use Rattle.footprints.specs.declared.visit.Actor.TheVariants.{Process, UpdateOf}
use Rattle.footprints.specs.declared.visit.Visit.{Visit}
use Rattle.footprints.specs.declared.latest.Table.{Table}
use Rattle.footprints.specs.declared.latest.Latest.{Latest}
use Rattle.footprints.specs.declared.swap.Known.{Known}
use Rattle.footprints.specs.Footprints.{same_awaited, same_thing, is_in, meet, touch}
use Rattle.footprints.specs.Visits.{same_actor, same_visit}
use Rattle.footprints.specs.Swaps.{footprint_in, touch_if, touch_in_one, is_swap, is_swap_of, has_come}
use Rattle.footprints.specs.Inner.{is_same_as}
use Rattle.footprints.specs.Latest.{number_at, of_thing, greater, greatest, Reaches, ReachesIf, ReachesBoth, latest_of, latest_if, Covers, AreClear}
use Rattle.footprints.specs.Known.{IsClearedAt, IsKnown, IsPast}
use Rattle.vmodel.proofs.PlaceLemmas.{or_either}
use Rattle.footprints.proofs.SwapLemmas.{come_by}

-- ---- numbers of things

pub zeros_on : (list : List ℕ) (k : ℕ) → number_at (list ++ 0 ∷ []) k ≡ number_at list k
zeros_on [] zero = refl
zeros_on [] (suc k) = refl
zeros_on (x ∷ list) zero = refl
zeros_on (x ∷ list) (suc k) = zeros_on list k

pub set_there : (list : List ℕ) (place n : ℕ) → place < length list → number_at (slice_set list place n) place ≡ n
set_there [] place n lt = absurd (omega (arith, lt))
set_there (x ∷ list) zero n lt = refl
set_there (x ∷ list) (suc place) n lt = set_there list place n (omega (arith, lt))

pub set_above : (list : List ℕ) (place n k : ℕ) → number_at list place < n → number_at list k ≤ number_at (slice_set list place n) k
set_above [] place n k lt = le_refl (number_at [] k)
set_above (x ∷ list) zero n zero lt = omega (arith, lt)
set_above (x ∷ list) zero n (suc k) lt = le_refl (number_at list k)
set_above (x ∷ list) (suc place) n zero lt = le_refl x
set_above (x ∷ list) (suc place) n (suc k) lt = set_above list place n k lt

same_awaited_is : (x y : Awaited) → same_awaited x y ≡ true → x ≡ y
same_awaited_is (awaited.Variable n) (awaited.Variable m) e = ap awaited.Variable (eqb-true n m e)
same_awaited_is (awaited.Variable n) (awaited.Event m) e = absurd cc
same_awaited_is (awaited.Event n) (awaited.Variable m) e = absurd cc
same_awaited_is (awaited.Event n) (awaited.Event m) e = ap awaited.Event (eqb-true n m e)

same_is : (x y : Thing) → same_thing x y ≡ true → x ≡ y
same_is (Variable n) (Variable m) e = ap Variable (eqb-true n m e)
same_is (Variable n) (Wait p m of) e = absurd cc
same_is (Variable n) End e = absurd cc
same_is (Wait p n of) (Variable m) e = absurd cc
same_is (Wait p n of) (Wait q m what) e =
    let both = and_left (p == q && n == m) (same_awaited of what) e in
    let ps : p ≡ q = eqb-true p q (and_left (p == q) (n == m) both) in
    let ns : n ≡ m = eqb-true n m (and_right (p == q) (n == m) both) in
    let same : of ≡ what = same_awaited_is of what (and_right (p == q && n == m) (same_awaited of what) e) in
    λ i. Wait (ps i) (ns i) (same i)
same_is (Wait p n of) End e = absurd cc
same_is End (Variable m) e = absurd cc
same_is End (Wait p m of) e = absurd cc
same_is End End e = refl

same_awaited_self : (x : Awaited) → same_awaited x x ≡ true
same_awaited_self (awaited.Variable n) = grind (arith, nat_tests)
same_awaited_self (awaited.Event n) = grind (arith, nat_tests)

same_number : (n : ℕ) → (n == n) ≡ true
same_number n = grind (arith, nat_tests)

same_self : (x : Thing) → same_thing x x ≡ true
same_self (Variable n) = same_number n
same_self (Wait p n of) = and_both (p == p && n == n) (same_awaited of of) (and_both (p == p) (n == n) (same_number p) (same_number n)) (same_awaited_self of)
same_self End = refl

pub greater_one : (n m : ℕ) → n ≤ greater n m
greater_one n m = by_case (nat_lt n m) refl
  where
    by_case : (test : Bool) → nat_lt n m ≡ test → n ≤ (if test then m else n)
    by_case true e = (let lt : n < m = grind (arith, nat_tests, e) in omega (arith, lt))
    by_case false e = le_refl n

pub greater_other : (n m : ℕ) → m ≤ greater n m
greater_other n m = by_case (nat_lt n m) refl
  where
    by_case : (test : Bool) → nat_lt n m ≡ test → m ≤ (if test then m else n)
    by_case true e = le_refl m
    by_case false e = (let le : m ≤ n = grind (arith, nat_tests, e) in le)

greatest_least : (table : Table) (things : List Thing) (most : ℕ) → most ≤ greatest table things most
greatest_least table [] most = le_refl most
greatest_least table (x ∷ things) most =
    let here : most ≤ greater most (of_thing table x) = greater_one most (of_thing table x) in
    let on : greater most (of_thing table x) ≤ greatest table things (greater most (of_thing table x)) =
    greatest_least table things (greater most (of_thing table x)) in
    omega (arith, here, on)

greatest_by : (table : Table) (things : List Thing) (x y : Thing) (most : ℕ) (test : Bool) → same_thing x y ≡ test → (same_thing x y || is_in x things) ≡ true →
    (is_in x things ≡ true → of_thing table x ≤ greatest table things (greater most (of_thing table y))) →
    of_thing table x ≤ greatest table things (greater most (of_thing table y))
greatest_by table things x y most true same e on =
    let here : of_thing table y ≤ greater most (of_thing table y) = greater_other most (of_thing table y) in
    let more : greater most (of_thing table y) ≤ greatest table things (greater most (of_thing table y)) =
    greatest_least table things (greater most (of_thing table y)) in
    let is : of_thing table x ≡ of_thing table y = ap (of_thing table) (same_is x y same) in
    omega (arith, is, here, more)
greatest_by table things x y most false other e on = on (ap (λ (b : Bool). b || is_in x things) (sym other) ∙ e)

greatest_in : (table : Table) (things : List Thing) (x : Thing) (most : ℕ) → is_in x things ≡ true → of_thing table x ≤ greatest table things most
greatest_in table [] x most e = absurd cc
greatest_in table (y ∷ things) x most e =
    greatest_by table things x y most (same_thing x y) refl e (greatest_in table things x (greater most (of_thing table y)))

-- ---- what touches

meet_some : (xs ys : List Thing) → meet xs ys ≡ true → (x : Thing) × (is_in x xs ≡ true) × (is_in x ys ≡ true)
meet_some [] ys e = absurd cc
meet_some (x ∷ xs) ys e =
    elim (or_either (is_in x ys) (meet xs ys) e) [
      | inl here ↦ (x, or_first (same_thing x x) (is_in x xs) (same_self x), here)
      | inr more ↦ (let (y, mine, yours) = meet_some xs ys more in (y, or_second (same_thing y x) (is_in y xs) mine, yours))
    ]

pub touch_reaches : (latest : Latest) (one other : Footprint) (n : ℕ) → Reaches n latest other → touch one other ≡ true → n ≤ latest_of latest one
touch_reaches latest one other n reach e =
    let of_changes : ℕ = greatest latest.touched one.changes 0 in
    let front : of_changes ≤ latest_of latest one = greatest_least latest.changed one.reads of_changes in
    elim (or_either (meet one.changes other.reads || meet one.changes other.changes) (meet other.changes one.reads) e) [
      | inl first ↦ elim (or_either (meet one.changes other.reads) (meet one.changes other.changes) first) [
        | inl is ↦ (let (x, mine, yours) = meet_some one.changes other.reads is in
            omega (arith, reach.reads x yours, greatest_in latest.touched one.changes x 0 mine, front))
        | inr is ↦ (let (x, mine, yours) = meet_some one.changes other.changes is in
            omega (arith, reach.changes x yours, greatest_in latest.touched one.changes x 0 mine, front))
      ]
      | inr is ↦ (let (x, yours, mine) = meet_some other.changes one.reads is in
          omega (arith, reach.changed x yours, greatest_in latest.changed one.reads x of_changes mine))
    ]

reaches_less : (n m : ℕ) (latest : Latest) (footprint : Footprint) → m ≤ n → Reaches n latest footprint → Reaches m latest footprint
reaches_less n m latest footprint le reach = record {
  reads = λ x e. omega (arith, le, reach.reads x e);
  changes = λ x e. omega (arith, le, reach.changes x e);
  changed = λ x e. omega (arith, le, reach.changed x e);
}

reaches_if_less : (n m : ℕ) (latest : Latest) (found : Option Footprint) → m ≤ n → ReachesIf n latest found → ReachesIf m latest found
reaches_if_less n m latest None le reach = tt
reaches_if_less n m latest (Some footprint) le reach = reaches_less n m latest footprint le reach

reaches_both_less : (n m : ℕ) (latest : Latest) (run : List Visit) (w : Visit) → m ≤ n → ReachesBoth n latest run w → ReachesBoth m latest run w
reaches_both_less n m latest run w le reach = record {
  in_parent = reaches_less n m latest w.footprint le reach.in_parent;
  in_run = reaches_if_less n m latest (footprint_in w run) le reach.in_run;
}

pub kept_if : (old new : Latest) → ((m : ℕ) (f : Footprint) → Reaches m old f → Reaches m new f) → (n : ℕ) (found : Option Footprint) →
    ReachesIf n old found → ReachesIf n new found
kept_if old new kept n None reach = tt
kept_if old new kept n (Some footprint) reach = kept n footprint reach

pub both_there : (n : ℕ) (latest : Latest) (run : List Visit) (w : Visit) (found : Footprint) → footprint_in w run ≡ Some found →
    Reaches n latest w.footprint → Reaches n latest found → ReachesBoth n latest run w
both_there n latest run w found is mine other = record { in_parent = mine; in_run = subst (ReachesIf n latest) (sym is) other }

kept_both : (old new : Latest) (run : List Visit) → ((m : ℕ) (f : Footprint) → Reaches m old f → Reaches m new f) → (n : ℕ) (w : Visit) →
    ReachesBoth n old run w → ReachesBoth n new run w
kept_both old new run kept n w reach = record {
  in_parent = kept n w.footprint reach.in_parent;
  in_run = kept_if old new kept n (footprint_in w run) reach.in_run;
}

one_reaches : (latest : Latest) (one : Footprint) (found : Option Footprint) (n : ℕ) → ReachesIf n latest found → touch_if (Some one) found ≡ true →
    n ≤ latest_of latest one
one_reaches latest one None n reach e = absurd cc
one_reaches latest one (Some other) n reach e = touch_reaches latest one other n reach e

found_reaches : (latest : Latest) (found : Option Footprint) (other : Footprint) (n : ℕ) → Reaches n latest other → touch_if found (Some other) ≡ true →
    n ≤ latest_if latest found
found_reaches latest None other n reach e = absurd cc
found_reaches latest (Some one) other n reach e = touch_reaches latest one other n reach e

-- ---- what a swap is

record IsSwapped (run parent : List Visit) (k l : ℕ) : Type 0 where
  v : Visit
  at_v : slice_get run k ≡ Some v
  w : Visit
  at_w : slice_get parent l ≡ Some w
  touches : touch_in_one run parent v w ≡ true
  comes_later : has_come w (take (k + 1) run) ≡ false
  is_later : has_come v (take (l + 1) parent) ≡ false

three_of : (a b c : Bool) → ((a && not b) && not c) ≡ true → (a ≡ true) × (b ≡ false) × (c ≡ false)
three_of true false false e = (refl, refl, refl)
three_of true false true e = absurd cc
three_of true true c e = absurd cc
three_of false b c e = absurd cc

swapped_by : (run parent : List Visit) (k l : ℕ) (one other : Option Visit) → slice_get run k ≡ one → slice_get parent l ≡ other →
    is_swap_of run parent k l one other ≡ true → IsSwapped run parent k l
swapped_by run parent k l None other e d is = absurd cc
swapped_by run parent k l (Some v) None e d is = absurd cc
swapped_by run parent k l (Some v) (Some w) e d is =
    let (touches, comes_later, is_later) = three_of (touch_in_one run parent v w) (has_come w (take (k + 1) run)) (has_come v (take (l + 1) parent)) is in
    record { v = v; at_v = e; w = w; at_w = d; touches = touches; comes_later = comes_later; is_later = is_later }

swapped : (run parent : List Visit) (k l : ℕ) → is_swap run parent k l ≡ true → IsSwapped run parent k l
swapped run parent k l is = swapped_by run parent k l (slice_get run k) (slice_get parent l) refl refl is

false_by : (b : Bool) → (b ≡ true → ⊥) → b ≡ false
false_by true never = absurd (never refl)
false_by false never = refl

same_actor_back : (a b : Actor) → same_actor a b ≡ true → same_actor b a ≡ true
same_actor_back (Process p) (Process q) e = grind (arith, nat_tests, e)
same_actor_back (Process p) (UpdateOf q) e = absurd cc
same_actor_back (UpdateOf p) (Process q) e = absurd cc
same_actor_back (UpdateOf p) (UpdateOf q) e = grind (arith, nat_tests, e)

same_back : (v w : Visit) → same_visit v w ≡ true → same_visit w v ≡ true
same_back v w e =
    let actors = and_left (same_actor v.actor w.actor) (v.number == w.number) e in
    let numbers = and_right (same_actor v.actor w.actor) (v.number == w.number) e in
    let back : (w.number == v.number) ≡ true = grind (arith, nat_tests, numbers) in
    and_both (same_actor w.actor v.actor) (w.number == v.number) (same_actor_back v.actor w.actor actors) back

come_found : (v : Visit) (visits : List Visit) (place n : ℕ) (found : Option Visit) → slice_get visits place ≡ found → is_same_as v found ≡ true → place < n →
    has_come v (take n visits) ≡ true
come_found v visits place n None e same lt = absurd cc
come_found v visits place n (Some w) e same lt = come_by v visits place n w e same lt

come_as : (v : Visit) (visits : List Visit) (place n : ℕ) → is_same_as v (slice_get visits place) ≡ true → place < n → has_come v (take n visits) ≡ true
come_as v visits place n same lt = come_found v visits place n (slice_get visits place) refl same lt

-- ---- where a visit is found

module _ (run parent : List Visit) where
  -- the parent's visit w is found at a place of the run
  before_place : (k l place : ℕ) (w : Visit) → slice_get parent l ≡ Some w → (place < length run → is_same_as w (slice_get run place) ≡ true) →
      place ≤ length run → is_swap run parent k l ≡ true → k < place
  before_place k l place w e there within is =
      let s : IsSwapped run parent k l = swapped run parent k l is in
      elim (cases_lt k place) [
        | inl lt ↦ lt
        | inr ge ↦ (
            let in_run : k < length run = slice_get_within run k s.v s.at_v in
            let same : w ≡ s.w = same_Some w s.w (sym e ∙ s.at_w) in
            let come : has_come w (take (k + 1) run) ≡ true = come_as w run place (k + 1) (there (omega (arith, ge, in_run))) (omega (arith, ge)) in
            absurd (clash (has_come s.w (take (k + 1) run)) (ap (λ (u : Visit). has_come u (take (k + 1) run)) (sym same) ∙ come) s.comes_later))
      ]

  pub has_come_before : (k l place : ℕ) (w : Visit) → slice_get parent l ≡ Some w → (place < length run → is_same_as w (slice_get run place) ≡ true) →
      place ≤ length run → place ≤ k → is_swap run parent k l ≡ false
  has_come_before k l place w e there within le =
      false_by (is_swap run parent k l) (λ is. (let lt : k < place = before_place k l place w e there within is in omega (arith, lt, le)))

  pub not_swapped : (k l place : ℕ) (w : Visit) → slice_get parent l ≡ Some w → (place < length run → is_same_as w (slice_get run place) ≡ true) →
      place ≤ length run → place ≤ k → false ≡ is_swap run parent k l
  not_swapped k l place w e there within le = sym (has_come_before k l place w e there within le)

  pub no_other : (k l : ℕ) → slice_get parent l ≡ None → is_swap run parent k l ≡ false
  no_other k l e = false_by (is_swap run parent k l) (λ is. (let s : IsSwapped run parent k l = swapped run parent k l is in absurd cc (sym e ∙ s.at_w)))

  -- the run's visit v is found at a place of the parent
  pub behind_found : (k place : ℕ) (v : Visit) → slice_get run k ≡ Some v → (place < length parent → is_same_as v (slice_get parent place) ≡ true) →
      (l : ℕ) → place ≤ l → is_swap run parent k l ≡ false
  behind_found k place v e there l le =
      false_by (is_swap run parent k l) (λ is. (
      let s : IsSwapped run parent k l = swapped run parent k l is in
      let in_parent : l < length parent = slice_get_within parent l s.w s.at_w in
      let same : v ≡ s.v = same_Some v s.v (sym e ∙ s.at_v) in
      let come : has_come v (take (l + 1) parent) ≡ true = come_as v parent place (l + 1) (there (omega (arith, le, in_parent))) (omega (arith, le)) in
      clash (has_come s.v (take (l + 1) parent)) (ap (λ (u : Visit). has_come u (take (l + 1) parent)) (sym same) ∙ come) s.is_later))

  -- nothing that visit k touches was put behind it, of these first visits of the parent
  past_no : (n k l place : ℕ) (latest : Latest) → Covers run parent n latest → (past : IsPast run parent latest k place) → l < n →
      is_swap run parent k l ≡ true → ⊥
  past_no n k l place latest covers past lt is =
      let s : IsSwapped run parent k l = swapped run parent k l is in
      let same : s.v ≡ past.v = same_Some s.v past.v (sym s.at_v ∙ past.at) in
      let reach : ReachesBoth (k + 1) latest run s.w = covers k l s.w lt s.at_w is in
      elim (or_either (touch_if (Some s.v.footprint) (footprint_in s.w run)) (touch_if (footprint_in s.v parent) (Some s.w.footprint)) s.touches) [
        | inl e ↦ (
            let far : k + 1 ≤ latest_of latest s.v.footprint = one_reaches latest s.v.footprint (footprint_in s.w run) (k + 1) reach.in_run e in
            let there : latest_of latest s.v.footprint ≡ latest_of latest past.v.footprint = ap (λ (u : Visit). latest_of latest u.footprint) same in
            omega (arith, far, there, past.in_run))
        | inr e ↦ (
            let far : k + 1 ≤ latest_if latest (footprint_in s.v parent) = found_reaches latest (footprint_in s.v parent) s.w.footprint (k + 1) reach.in_parent e in
            let there : latest_if latest (footprint_in s.v parent) ≡ latest_if latest (footprint_in past.v parent) =
            ap (λ (u : Visit). latest_if latest (footprint_in u parent)) same in
            omega (arith, far, there, past.in_parent))
      ]

  pub known_no : (known : Known) (i : ℕ) → AreClear run parent known.clear.items → Covers run parent (length parent) known.latest → IsKnown run parent known i →
      (l : ℕ) → is_swap run parent i l ≡ false
  known_no known i clear covers (inl none) l =
      false_by (is_swap run parent i l) (λ is. (let s : IsSwapped run parent i l = swapped run parent i l is in absurd cc (sym none ∙ s.at_v)))
  known_no known i clear covers (inr (inl said)) l = clear i l said
  known_no known i clear covers (inr (inr past)) l =
      false_by (is_swap run parent i l) (λ is. (
      let s : IsSwapped run parent i l = swapped run parent i l is in
      past_no (length parent) i l i known.latest covers past (slice_get_within parent l s.w s.at_w) is))

  -- ---- one visit of the parent more
  module _ (n place : ℕ) (w : Visit) (at_n : slice_get parent n ≡ Some w) (there : place < length run → is_same_as w (slice_get run place) ≡ true)
      (within : place ≤ length run) (latest : Latest) (covers : Covers run parent n latest) where
    pub clear_on : (old new : List Bool) → AreClear run parent old →
        IsClearedAt run parent latest place old new → AreClear run parent new
    clear_on old new clear set k l e = by_case (set k e)
      where
        by_case : (slice_get old k ≡ Some true) ⊎ IsPast run parent latest k place → is_swap run parent k l ≡ false
        by_case (inl said) = clear k l said
        by_case (inr past) =
            false_by (is_swap run parent k l) (λ is. (
            let s : IsSwapped run parent k l = swapped run parent k l is in
            elim (cases_lt l n) [
              | inl lt ↦ past_no n k l place latest covers past lt is
              | inr ge ↦ (
                  let in_run : k < length run = slice_get_within run k past.v past.at in
                  let here : slice_get run place ≡ Some past.v = ap (slice_get run) (sym past.here) ∙ past.at in
                  let same : same_visit w past.v ≡ true = ap (is_same_as w) (sym here) ∙ there (omega (arith, in_run, past.here)) in
                  let v_is : past.v ≡ s.v = same_Some past.v s.v (sym past.at ∙ s.at_v) in
                  let come : has_come past.v (take (l + 1) parent) ≡ true =
                  come_by past.v parent n (l + 1) w at_n (same_back w past.v same) (omega (arith, ge)) in
                  clash (has_come s.v (take (l + 1) parent)) (ap (λ (u : Visit). has_come u (take (l + 1) parent)) (sym v_is) ∙ come) s.is_later)
            ]))

    pub covers_on : (new : Latest) (next : ℕ) → next ≡ n + 1 → ((m : ℕ) (f : Footprint) → Reaches m latest f → Reaches m new f) →
        ReachesBoth place new run w → Covers run parent next new
    covers_on new next e kept put k l u lt at_l is =
        elim (cases_lt l n) [
          | inl below ↦ kept_both latest new run kept (k + 1) u (covers k l u below at_l is)
          | inr ge ↦ (
              let here : l ≡ n = omega (arith, ge, lt, e) in
              let same : w ≡ u = same_Some w u (sym at_n ∙ ap (slice_get parent) (sym here) ∙ at_l) in
              let before : k < place = before_place k l place w (ap (slice_get parent) here ∙ at_n) there within is in
              subst (λ (x : Visit). ReachesBoth (k + 1) new run x) same (reaches_both_less place (k + 1) new run w (omega (arith, before)) put))
        ]

pub none_covered : (run parent : List Visit) (latest : Latest) → Covers run parent 0 latest
none_covered run parent latest k l w lt e is = absurd (omega (arith, lt))

pub none_clear : (run parent : List Visit) (clear : List Bool) → ((k : ℕ) → slice_get clear k ≡ Some true → ⊥) → AreClear run parent clear
none_clear run parent clear none k l e = absurd (none k e)
