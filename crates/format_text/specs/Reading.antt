-- *internal*: A reading on its way: words for the contracts of parts within.
use Rattle.std.specs.Prelude.{◌≡◌, ℕ, Bool, true, false, List, drop, Option, Some, None}
use Rattle.vdesign.specs.declared.print.Piece.{Piece}
use Rattle.format_text.specs.Pieces.{pieces_before}

-- these pieces were put after others, if there are any
abbrev pub Adds : List Piece → Option (List Piece) → Bool → List Piece → Type 0
Adds old added true new = pieces_before old added ≡ Some new
Adds old added false new = added ≡ None

-- what a format ends in
abbrev pub IsEndOf : List ℕ → List ℕ → Type 0
IsEndOf left format = (n : ℕ) × (drop n format ≡ left)
