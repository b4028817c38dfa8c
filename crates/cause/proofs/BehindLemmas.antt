-- The way back from a visit, one by one.
use Rattle.std.proofs.Common.{◌≡◌, ℕ, zero, suc, ◌+◌, ◌-◌, ◌<◌, ◌≤◌, List, [], ◌∷◌, ◌++◌, length, Option, Some, None, slice_get, Bool, true, false, if◌then◌else◌, refl, sym, ap, subst, ◌∙◌, arith, add-one}
use Rattle.std.proofs.lemmas.Option.{same_Some, slice_get_past}
use Rattle.basis.proofs.Lists.{stands_in_front}
use Rattle.vdesign.specs.Design.{Design}
use Rattle.footprints.specs.declared.thing.Thing.{Thing}
use Rattle.footprints.specs.declared.visit.Visit.{Visit}
use Rattle.cause.specs.declared.slot.Slot.{Slot}
use Rattle.footprints.specs.Footprints.{meet}
use Rattle.cause.specs.Behind.{asked_of, changes_one, last_changer, source_by, source_of, onward, IsEnd, behind, place_or, statement_behind}
use Rattle.cause.specs.Inner.{whole}

-- ---- visits of a whole slot

get_back : (xs ys : List Visit) (n : ℕ) → length xs ≤ n → slice_get (xs ++ ys) n ≡ slice_get ys (n - length xs)
get_back [] ys n le = let same : n ≡ n - 0 = omega arith in ap (slice_get ys) same
get_back (x ∷ xs) ys zero le = absurd (omega (arith, le))
get_back (x ∷ xs) ys (suc n) le =
    let same : n - length xs ≡ suc n - suc (length xs) = omega arith in get_back xs ys n (omega (arith, le)) ∙ ap (slice_get ys) same

pub front_at : (slot : Slot) (n : ℕ) (v : Visit) → slice_get slot.earlier.items n ≡ Some v → slice_get (whole slot) n ≡ Some v
front_at slot n v e = stands_in_front slot.earlier.items slot.visits.items n v e

pub back_at : (slot : Slot) (n : ℕ) (found : Option Visit) → length slot.earlier.items ≤ n → slice_get slot.visits.items (n - length slot.earlier.items) ≡ found →
    slice_get (whole slot) n ≡ found
back_at slot n found le e = get_back slot.earlier.items slot.visits.items n le ∙ e

pub past_all : (slot : Slot) (n : ℕ) → length slot.earlier.items ≤ n → length slot.visits.items ≤ n - length slot.earlier.items → slice_get (whole slot) n ≡ None
past_all slot n le past = back_at slot n None le (slice_get_past slot.visits.items (n - length slot.earlier.items) past)

module _ (things : List Thing) (visits : List Visit) (n : ℕ) where
  pub changes_there : (v : Visit) → slice_get visits n ≡ Some v → meet v.footprint.changes things ≡ changes_one things (slice_get visits n)
  changes_there v e = ap (changes_one things) (sym e)

  pub changes_nowhere : slice_get visits n ≡ None → changes_one things (slice_get visits n) ≡ false
  changes_nowhere e = ap (changes_one things) e

module _ (design : Design) (visits : List Visit) (i : ℕ) where
  pub source_there : (v : Visit) (asked : List Thing) → slice_get visits i ≡ Some v → asked ≡ asked_of design v →
      last_changer asked visits i ≡ source_of design visits i
  source_there v asked e is = ap (λ (things : List Thing). last_changer things visits i) is ∙ ap (source_by design visits i) (sym e)

  pub source_nowhere : slice_get visits i ≡ None → source_of design visits i ≡ None
  source_nowhere e = ap (source_by design visits i) e

  pub behind_there : (v source : Visit) → slice_get visits (behind design visits (length visits) i) ≡ Some source → source.place ≡ statement_behind design visits i v
  behind_there v source e = ap (place_or v.place) (sym e)

  pub behind_nowhere : (v : Visit) → slice_get visits (behind design visits (length visits) i) ≡ None → v.place ≡ statement_behind design visits i v
  behind_nowhere v e = ap (place_or v.place) (sym e)

-- ---- the way back

module _ (things : List Thing) (visits : List Visit) where
  changer_at : (k next : ℕ) → k ≡ next + 1 →
      last_changer things visits k ≡ (if changes_one things (slice_get visits next) then Some next else last_changer things visits next)
  changer_at k next e = ap (last_changer things visits) (e ∙ add-one next)

  pub changer_there : (k next : ℕ) → k ≡ next + 1 → changes_one things (slice_get visits next) ≡ true → last_changer things visits k ≡ Some next
  changer_there k next e h =
      changer_at k next e ∙ ap (λ (b : Bool). if b then Some next else last_changer things visits next) h

  pub changer_before : (k next : ℕ) → k ≡ next + 1 → changes_one things (slice_get visits next) ≡ false →
      last_changer things visits k ≡ last_changer things visits next
  changer_before k next e h =
      changer_at k next e ∙ ap (λ (b : Bool). if b then Some next else last_changer things visits next) h

  pub no_changer : (k : ℕ) → k ≤ 0 → last_changer things visits k ≡ None
  no_changer k le = let none : k ≡ 0 = omega (arith, le) in ap (last_changer things visits) none

module _ (design : Design) (visits : List Visit) where
  behind_at : (left next at : ℕ) → left ≡ next + 1 → behind design visits left at ≡ onward (behind design visits next) at (source_of design visits at)
  behind_at left next at e = ap (λ (n : ℕ). behind design visits n at) (e ∙ add-one next)

  pub behind_none : (left next at : ℕ) (source : Option ℕ) → left ≡ next + 1 → source ≡ source_of design visits at → source ≡ None →
      behind design visits left at ≡ at
  behind_none left next at source e found none =
      behind_at left next at e ∙ ap (onward (behind design visits next) at) (sym found ∙ none)

  pub behind_some : (left next at there : ℕ) (source : Option ℕ) → left ≡ next + 1 → source ≡ source_of design visits at → source ≡ Some there →
      behind design visits left at ≡ behind design visits next there
  behind_some left next at there source e found some =
      behind_at left next at e ∙ ap (onward (behind design visits next) at) (sym found ∙ some)

  pub behind_done : (left at : ℕ) → left ≤ 0 → behind design visits left at ≡ at
  behind_done left at le = let none : left ≡ 0 = omega (arith, le) in ap (λ (n : ℕ). behind design visits n at) none

  -- each goes back to an earlier one, so after as many as stand before it the way has ended
  changer_by : (things : List Thing) (n j : ℕ) (test : Bool) → (last_changer things visits n ≡ Some j → j < n) →
      (if test then Some n else last_changer things visits n) ≡ Some j → j < suc n
  changer_by things n j true before e = let same : n ≡ j = same_Some n j e in omega (arith, same)
  changer_by things n j false before e = omega (arith, before e)

  changer_below : (things : List Thing) (n j : ℕ) → last_changer things visits n ≡ Some j → j < n
  changer_below things zero j e = absurd cc
  changer_below things (suc n) j e = changer_by things n j (changes_one things (slice_get visits n)) (changer_below things n j) e

  source_below : (i j : ℕ) (found : Option Visit) → source_by design visits i found ≡ Some j → j < i
  source_below i j None e = absurd cc
  source_below i j (Some v) e = changer_below (asked_of design v) i j e

  end_by : (n i : ℕ) (found : Option ℕ) → source_of design visits i ≡ found → i < suc n →
      ((j : ℕ) → j < n → IsEnd design visits (behind design visits n j)) → IsEnd design visits (onward (behind design visits n) i found)
  end_by n i None e lt later = e
  end_by n i (Some j) e lt later = later j (omega (arith, source_below i j (slice_get visits i) e, lt))

  pub is_end : (n i : ℕ) → i < n → IsEnd design visits (behind design visits n i)
  is_end zero i lt = absurd (omega (arith, lt))
  is_end (suc n) i lt = end_by n i (source_of design visits i) refl lt (is_end n)

  pub way_ends : (most i found : ℕ) → found ≡ behind design visits most i → i < most → IsEnd design visits found
  way_ends most i found e lt = subst (IsEnd design visits) (sym e) (is_end most i lt)
