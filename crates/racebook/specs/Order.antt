-- *product rule*: The order in which races, and the values of one race, are listed.
use Rattle.std.specs.Prelude.{◌≡◌, ℕ, ◌+◌, ◌*◌, ◌<◌, ◌⊎◌, if◌then◌else◌, List, [], ◌∷◌, length, slice_get, Some}
use Rattle.vbits.specs.declared.bit4.Bit4.{Bit4}
use Rattle.vbits.specs.declared.bit4.Bit4.TheVariants.{Zero, One, X, Z}
use Rattle.vbits.specs.Vectors.{Vector}

-- one time and variable come before another: by time, then by variable
abbrev pub IsEarlier : ℕ → ℕ → ℕ → ℕ → Type 0
IsEarlier time variable time' variable' = (time < time') ⊎ ((time ≡ time') × (variable < variable'))

-- '0' < '1' < 'x' < 'z'
abbrev pub digit_of : Bit4 → ℕ
digit_of Zero = 0
digit_of One = 1
digit_of X = 2
digit_of Z = 3

-- the digits as a number of base four, where the lowest stands first: of two texts of one length, the lesser number is
-- the text whose leftmost different digit is the lesser
abbrev pub text_number : List Bit4 → ℕ
text_number [] = 0
text_number (letter ∷ letters) = digit_of letter + 4 * text_number letters

-- length and sign together; the values of one variable have one shape (4.2.2)
abbrev pub shape_of : Vector → ℕ
shape_of value = 2 * length value.letters + (if value.signed then 1 else 0)

-- in the order of texts, leftmost digit first; those of another shape stand apart
abbrev pub IsTextBefore : Vector → Vector → Type 0
IsTextBefore v w = IsEarlier (shape_of v) (text_number v.letters) (shape_of w) (text_number w.letters)

-- each value stands before all later ones, so that no two are the same
abbrev pub AreInTextOrder : List (Vector × List (ℕ × ℕ)) → Type 0
AreInTextOrder values = (i j : ℕ) (s t : Vector × List (ℕ × ℕ)) →
    i < j → slice_get values i ≡ Some s → slice_get values j ≡ Some t → IsTextBefore s.0 t.0
