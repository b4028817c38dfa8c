-- *internal*: Where visits stand, in chains, by which the same visit of another run is found.
use Rattle.std.specs.Prelude.{◌≡◌, ℕ, ◌+◌, ◌*◌, ◌%◌, ◌<◌, ◌≤◌, List, length, Some, slice_get}
use Rattle.footprints.specs.declared.visit.Actor.{Actor}
use Rattle.footprints.specs.declared.visit.Actor.TheVariants.{Process, UpdateOf}
use Rattle.footprints.specs.declared.visit.Visit.{Visit}
use Rattle.footprints.specs.Latest.{number_at}

abbrev pub number_of : Actor → ℕ
number_of (Process p) = p
number_of (UpdateOf place) = place + 256

-- of so many chains that of a visit
abbrev pub chain_of : Visit → ℕ → ℕ
chain_of v count = (number_of v.actor + v.number * 2654435761) % count

-- of these visits none from a place up to another stands in this chain
abbrev pub NoneIn : List Visit → ℕ → ℕ → ℕ → ℕ → Type 0
NoneIn visits count chain from to =
    (j : ℕ) (v : Visit) → from ≤ j → j < to → slice_get visits j ≡ Some v → chain_of v count ≡ chain → ⊥

-- the first n visits stand in these chains: behind the last of each, and between a visit and the one before it, there is none
pub record AreChains (visits : List Visit) (n : ℕ) (last before : List ℕ) : Type 0 where
  pub some : 0 < length last
  pub long : length before ≡ n
  pub none_behind : (c : ℕ) → c < length last → NoneIn visits (length last) c (number_at last c) n
  pub none_between : (k : ℕ) (v : Visit) → k < n → slice_get visits k ≡ Some v →
      NoneIn visits (length last) (chain_of v (length last)) (number_at before k) k
