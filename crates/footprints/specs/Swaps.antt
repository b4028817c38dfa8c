-- *product rule*: Which visits two runs of a slot take in another order (crates/cause/README.md): in a run under a log, and in its parent,
-- the run under the same log without its last member.
use Rattle.std.specs.Prelude.{◌≡◌, ℕ, ◌+◌, ◌≤◌, ◌&&◌, ◌||◌, not, Bool, true, false, List, [], ◌∷◌, ◌++◌, take, Option, Some, None, slice_get}
use Rattle.std.specs.List.{list_any}
use Rattle.footprints.specs.Footprints.{touch, shared_things}
use Rattle.footprints.specs.declared.thing.Thing.{Thing}
use Rattle.footprints.specs.declared.footprint.Footprint.{Footprint}
use Rattle.footprints.specs.Visits.{same_visit}
use Rattle.footprints.specs.declared.visit.Visit.{Visit}

abbrev pub has_come : Visit → List Visit → Bool
has_come v visits = list_any (same_visit v) visits

-- what the same visit reads and changes among these, if it comes
abbrev pub found_or : Option Footprint → Bool → Footprint → Option Footprint
found_or (Some found) same footprint = Some found
found_or None true footprint = Some footprint
found_or None false footprint = None

abbrev pub footprint_in : Visit → List Visit → Option Footprint
footprint_in v [] = None
footprint_in v (w ∷ visits) = found_or (footprint_in v visits) (same_visit v w) w.footprint

abbrev pub touch_if : Option Footprint → Option Footprint → Bool
touch_if (Some one) (Some other) = touch one other
touch_if _ _ = false

-- v is a visit of the run, w one of the parent: they touch in the run, or in the parent
abbrev pub touch_in_one : List Visit → List Visit → Visit → Visit → Bool
touch_in_one run parent v w = touch_if (Some v.footprint) (footprint_in w run) || touch_if (footprint_in v parent) (Some w.footprint)

abbrev pub shared_if : Option Footprint → Option Footprint → List Thing
shared_if (Some one) (Some other) = shared_things one other
shared_if _ _ = []

-- the things by which they touch
abbrev pub things_in_both : List Visit → List Visit → Visit → Visit → List Thing
things_in_both run parent v w = shared_if (Some v.footprint) (footprint_in w run) ++ shared_if (footprint_in v parent) (Some w.footprint)

-- v is visit i of the run, w visit j of the parent. They touch; in the run v comes, and w later or not at all; in the parent w comes, and v
-- later or not at all
abbrev pub are_swapped : List Visit → List Visit → ℕ → ℕ → Visit → Visit → Bool
are_swapped run parent i j v w =
    (touch_in_one run parent v w && not (has_come w (take (i + 1) run))) && not (has_come v (take (j + 1) parent))

abbrev pub is_swap_of : List Visit → List Visit → ℕ → ℕ → Option Visit → Option Visit → Bool
is_swap_of run parent i j (Some v) (Some w) = are_swapped run parent i j v w
is_swap_of run parent i j (Some v) None = false
is_swap_of run parent i j None other = false

-- visit i of the run and visit j of the parent are a swap
abbrev pub is_swap : List Visit → List Visit → ℕ → ℕ → Bool
is_swap run parent i j = is_swap_of run parent i j (slice_get run i) (slice_get parent j)

-- of all swaps the one whose earlier visit in the run comes first, and of those the one whose other visit stands last in the parent
pub record IsFirstSwap (run parent : List Visit) (i j : ℕ) : Type 0 where
  pub swap : is_swap run parent i j ≡ true
  pub first : (k l : ℕ) → is_swap run parent k l ≡ true → i ≤ k
  pub last : (l : ℕ) → is_swap run parent i l ≡ true → l ≤ j

abbrev pub HasNoSwap : List Visit → List Visit → Type 0
HasNoSwap run parent = (k l : ℕ) → is_swap run parent k l ≡ false
