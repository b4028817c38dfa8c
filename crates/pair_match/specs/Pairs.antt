-- *product rule*: Two references shown as one: at each time what both show, up to where either ends.
use Rattle.std.specs.Prelude.{◌≡◌, ℕ, ◌+◌, ◌-◌, ◌≤◌, ◌⊎◌, min, max, List, ◌++◌, Option, Some, None, slice_get}
use Rattle.matching.specs.Answers.{IsLater, ReadsMore}
use Rattle.matching.specs.Explained.{Piece, differ_at, latest_time}
use Rattle.matching.specs.Inner.Reading.{last_piece}
use Rattle.pair_match.specs.declared.pair.PairReference.{PairReference}

-- how many differ in both together, as far as a number of 64 bits can say it: none exactly where none does in either
abbrev pub together : ℕ → ℕ → ℕ
together one other = min (one + other) 18446744073709551615

-- the time of the next piece of either, where both have one
abbrev pub earlier_of : Option ℕ → Option ℕ → Option ℕ
earlier_of None other = None
earlier_of (Some one) None = None
earlier_of (Some one) (Some other) = Some (min one other)

abbrev pub next_in : {R : Type 0} → (R → Option ℕ) → PairReference R → Option ℕ
next_in upcoming me = earlier_of (upcoming me.first) (upcoming me.second)

-- The time of the last piece of either. What comes next is later, also behind a fault.
abbrev pub shown_since : ℕ → Option ℕ → ℕ
shown_since time None = time
shown_since time (Some next) = min time (next - 1)

-- what both show
abbrev pub piece_in : {R S : Type 0} → (R → Piece S) → (R → Option ℕ) → PairReference R → Piece S
piece_in piece upcoming me = record {
  from = shown_since me.time (next_in upcoming me);
  differ = λ s. together ((piece me.first).differ s) ((piece me.second).differ s);
}

-- What comes next is later than each of the pieces.
abbrev pub IsBehind : {S : Type 0} → List (Piece S) → Option ℕ → Type 0
IsBehind {S} pieces next = (i : ℕ) (p : Piece S) → slice_get pieces i ≡ Some p → IsLater next p.from

-- Both were read. At each time what is shown is what both show; and the last piece is the last of either. What comes next in each of them is
-- later than all that was read of both. For the proof: what both show now are their last pieces, all of which have come.
pub record ReadsBoth {R S : Type 0} (piece : R → Piece S) (upcoming : R → Option ℕ) (reads : R → List (Piece S) → R → Type 0)
    (first : PairReference R) (pieces : List (Piece S)) (now : PairReference R) : Type 0 where
  pub of_first : List (Piece S)
  pub of_second : List (Piece S)
  pub read_first : reads first.first of_first now.first
  pub read_second : reads first.second of_second now.second
  pub both : (v : ℕ) (s : S) → differ_at (piece_in piece upcoming first) pieces v s ≡
      together (differ_at (piece first.first) of_first v s) (differ_at (piece first.second) of_second v s)
  pub latest : (v : ℕ) → latest_time v pieces ≡ max (latest_time v of_first) (latest_time v of_second)
  pub ahead_first : IsBehind (of_first ++ of_second) (upcoming now.first)
  pub ahead_second : IsBehind (of_first ++ of_second) (upcoming now.second)
  pub last_first : piece now.first ≡ last_piece (piece first.first) of_first
  pub last_second : piece now.second ≡ last_piece (piece first.second) of_second
  pub come : latest_time 0 pieces ≤ (piece_in piece upcoming now).from

-- ---- for the calls within

-- the piece of this time was read, or nothing was
abbrev pub GoesTo : {R S : Type 0} → (R → Piece S) → (R → List (Piece S) → R → Type 0) → ℕ → R → R → Type 0
GoesTo piece reads v old new = (new ≡ old) ⊎ (((piece new).from ≡ v) × ReadsMore reads old (piece new) new)
