-- *trusted*: The words of a value change dump (IEEE 1364-2005, 18.2.1): blanks, tabs, ends of lines and of pages divide them.
use Rattle.std.specs.Prelude.{ℕ, if◌then◌else◌, List, [], ◌∷◌, ◌++◌}
use Rattle.std.specs.Char.{is_ascii_whitespace}

abbrev pub Text : Type 0
Text = List ℕ

-- where letters end that have come since the blank before, they are a word
abbrev pub with_word : Text → List Text → List Text
with_word [] words = words
with_word (c ∷ cs) words = (c ∷ cs) ∷ words

-- the words of these bytes, behind letters that have come since the blank before
abbrev pub words_behind : List ℕ → Text → List Text
words_behind [] letters = with_word letters []
words_behind (c ∷ cs) letters =
    if is_ascii_whitespace c then with_word letters (words_behind cs []) else words_behind cs (letters ++ c ∷ [])

-- those of a text
abbrev pub words_of : List ℕ → List Text
words_of text = words_behind text []
