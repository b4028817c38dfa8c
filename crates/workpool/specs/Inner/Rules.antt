-- *internal*: The rule of a tally's words over what the seats have counted.
use Rattle.std.specs.Prelude.{◌≡◌, ℕ, ◌+◌, ◌-◌, ◌%◌, ◌^◌, ◌<◌, true, false, ◌||◌, nat_lt, List, [], ◌∷◌}
use mathlib.Core.Option.{some}
use lib.ListN.{get_elem?}
use Rattle.atomic_table.specs.Seated.{TableId}
use Rattle.workpool.specs.Tallies.{Seated}
use Rattle.workpool.specs.Inner.Sums.{total}
use Rattle.workpool.specs.declared.rule.Counted.{Counted}

-- a seat at a tally, by what it has counted
abbrev pub seat_of : TableId → Counted → Seated
seat_of tally v = record { tally = tally; parts = v.parts; opens = v.opens; shuts = v.shuts; stopped = v.stopped }

abbrev pub fresh : ℕ → Counted
fresh parts = record { parts = parts; opens = 0; shuts = 0; stopped = false }

abbrev pub with_open : Counted → Counted
with_open v = record { parts = v.parts; opens = v.opens + 1; shuts = v.shuts; stopped = v.stopped }

abbrev pub with_shut : Counted → Counted
with_shut v = record { parts = v.parts; opens = v.opens; shuts = v.shuts + 1; stopped = v.stopped }

abbrev pub with_stop : Counted → Counted
with_stop v = record { parts = v.parts; opens = v.opens; shuts = v.shuts; stopped = true }

-- the mark was found to be this
abbrev pub with_mark : Counted → ℕ → Counted
with_mark v found = record { parts = v.parts; opens = v.opens; shuts = v.shuts; stopped = nat_lt 0 found }

-- who knows of the mark finds it
abbrev pub StaysHeard : Counted → ℕ → Type 0
StaysHeard v found = v.stopped ≡ true → 0 < found

-- who has all parts finds just what it has counted
abbrev pub FindsAll : Counted → ℕ → ℕ → Type 0
FindsAll v count found = v.parts ≡ 65 → found ≡ count % 2 ^ 64

-- one part goes, with nothing counted
abbrev pub split_left : Counted → Counted
split_left v = record { parts = v.parts - 1; opens = v.opens; shuts = v.shuts; stopped = v.stopped }

abbrev pub split_right : Counted → Counted
split_right v = record { parts = 1; opens = 0; shuts = 0; stopped = v.stopped }

abbrev pub join_of : Counted → Counted → Counted
join_of v w = record { parts = v.parts + w.parts; opens = v.opens + w.opens; shuts = v.shuts + w.shuts; stopped = v.stopped || w.stopped }

abbrev pub no_counts : Counted
no_counts = fresh 0

-- The words are the sums of what was counted, modulo 2^64, and the mark, which is set where a seat knows of it. All parts are
-- 65, and who has none has counted nothing.
pub record IsTallied (words : List ℕ) (views : List Counted) : Type 0 where
  pub mark : ℕ
  pub words_are : words ≡ (total (λ (v : Counted). v.opens) views % 2 ^ 64) ∷ (total (λ (v : Counted). v.shuts) views % 2 ^ 64) ∷ mark ∷ []
  pub told : (seat : ℕ) (v : Counted) → get_elem? views seat ≡ some v → v.stopped ≡ true → 0 < mark
  pub parts : total (λ (v : Counted). v.parts) views ≡ 65
  pub idle : (seat : ℕ) (v : Counted) → get_elem? views seat ≡ some v → v.parts ≡ 0 → (v.opens ≡ 0) × (v.shuts ≡ 0)
