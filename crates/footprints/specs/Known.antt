-- *internal*: What is known of visits before their swaps are looked for.
use Rattle.std.specs.Prelude.{◌≡◌, ◌⊎◌, ℕ, ◌≤◌, Bool, true, List, Some, None, slice_get}
use Rattle.footprints.specs.declared.visit.Visit.{Visit}
use Rattle.footprints.specs.declared.latest.Latest.{Latest}
use Rattle.footprints.specs.declared.swap.Known.{Known}
use Rattle.footprints.specs.Latest.{latest_of, latest_if}
use Rattle.footprints.specs.Swaps.{footprint_in}

-- at this place stands visit k of the run, and nothing that it touches was put behind it
pub record IsPast (run parent : List Visit) (latest : Latest) (k place : ℕ) : Type 0 where
  pub here : k ≡ place
  pub v : Visit
  pub at : slice_get run k ≡ Some v
  pub in_run : latest_of latest v.footprint ≤ k
  pub in_parent : latest_if latest (footprint_in v parent) ≤ k

-- it is known that visit i of the run is of no swap
abbrev pub IsKnown : List Visit → List Visit → Known → ℕ → Type 0
IsKnown run parent known i = (slice_get run i ≡ None) ⊎ ((slice_get known.clear.items i ≡ Some true) ⊎ IsPast run parent known.latest i i)

-- more visits than before are said to be of no swap, each of them past at this place
abbrev pub IsClearedAt : List Visit → List Visit → Latest → ℕ → List Bool → List Bool → Type 0
IsClearedAt run parent latest place old new =
    (k : ℕ) → slice_get new k ≡ Some true → (slice_get old k ≡ Some true) ⊎ IsPast run parent latest k place
