-- *trusted*: Names are alike where their letters are (IEEE 1364-2005, 3.7); lists of them, in which none may stand twice (4.11).
use Rattle.std.specs.Prelude.{Bool, false, ◌||◌, if◌then◌else◌, List, [], ◌∷◌, ◌++◌, map, Option, None, Some}
use Rattle.std.specs.List.{list_any}
use Rattle.std.specs.Str.{bytes_eq}
use Rattle.vwords.specs.Words.{Text}
use Rattle.vast.specs.NumberedWords.{Word}

-- a name is among these
abbrev pub is_declared : List Text → Text → Bool
is_declared names text = list_any (bytes_eq text) names

-- a name stands twice in the list
abbrev pub has_double : List Text → Bool
has_double [] = false
has_double (x ∷ xs) = is_declared xs x || has_double xs

-- their letters
abbrev pub letters_of : List Word → List Text
letters_of = map (λ word. word.letters)

-- the first of these words that stands before it by its letters: among these names, or as an earlier one of the words
abbrev pub again_behind : List Text → List Word → Option Word
again_behind names [] = None
again_behind names (word ∷ more) =
    if is_declared names word.letters then Some word else again_behind (names ++ word.letters ∷ []) more

-- the first of these words that stands among them before
abbrev pub first_again : List Word → Option Word
first_again words = again_behind [] words
