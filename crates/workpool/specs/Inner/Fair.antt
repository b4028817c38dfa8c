-- *internal*: The rule of a deque: what was put is what was taken and what is left.
use Rattle.std.specs.Prelude.{◌≡◌, ℕ, ◌+◌, ◌-◌, List, [], ◌++◌}
use mathlib.Core.Option.{some}
use lib.ListN.{get_elem?}
use Rattle.workpool.specs.Inner.Sums.{total, times}
use Rattle.workpool.specs.declared.hand.Hand.{Hand}

abbrev pub hand : ℕ → List ℕ → List ℕ → Hand
hand parts put taken = record { parts = parts; put = put; taken = taken }

-- one part goes, with nothing put or taken
abbrev pub one_less : Hand → Hand
one_less v = hand (v.parts - 1) v.put v.taken

abbrev pub together : Hand → Hand → Hand
together v w = hand (v.parts + w.parts) (v.put ++ w.put) (v.taken ++ w.taken)

-- Each number was put as often as it was taken or is left. All parts are 2, and who has none has put and taken nothing.
pub record IsFair (items : List ℕ) (views : List Hand) : Type 0 where
  pub parts : total (λ (v : Hand). v.parts) views ≡ 2
  pub fair : (x : ℕ) → total (λ (v : Hand). times x v.put) views ≡ total (λ (v : Hand). times x v.taken) views + times x items
  pub idle : (port : ℕ) (v : Hand) → get_elem? views port ≡ some v → v.parts ≡ 0 → (v.put ≡ []) × (v.taken ≡ [])

-- what was put is what was taken, and these
abbrev pub Leaves : Hand → List ℕ → Type 0
Leaves v items = (x : ℕ) → times x v.put ≡ times x v.taken + times x items
