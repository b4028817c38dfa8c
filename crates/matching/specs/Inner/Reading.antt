-- *internal*: What was read of a reference.
use Rattle.std.specs.Prelude.{◌≡◌, ℕ, ◌<◌, ◌≤◌, ◌⊎◌, List, [], ◌∷◌}
use Rattle.matching.specs.Explained.{Piece, latest_time}
use Rattle.matching.specs.Answers.{ReadsMore}

-- the piece that is shown last
abbrev pub last_piece : {S : Type 0} → Piece S → List (Piece S) → Piece S
last_piece first [] = first
last_piece first (p ∷ ps) = last_piece p ps

-- Pieces were read from the first reference up to this one, none of them later than `upto`; the last is the one that is shown.
pub record HasRead {R S : Type 0} (piece : R → Piece S) (reads : R → List (Piece S) → R → Type 0) (first : R) (start upto : ℕ)
    (now : R) : Type 0 where
  pub pieces : List (Piece S)
  pub read : reads first pieces now
  pub last : piece now ≡ last_piece (piece first) pieces
  pub within : latest_time start pieces ≤ upto

-- the piece of this time was read, or there is none of this time and nothing was read
abbrev pub ReadsAt : {R S : Type 0} → (R → Piece S) → (R → List (Piece S) → R → Type 0) → R → ℕ → ℕ → R → Type 0
ReadsAt piece reads old next v new = ((v < next) × (new ≡ old)) ⊎ (((piece new).from ≡ v) × ReadsMore reads old (piece new) new)
