-- *product rule*: A word as elaboration reads it: its letters, which of an escaped name are those after the backslash (3.7.1); its number
-- among the words of the text, by which a fault says its place; and its path. A string that a task prints has the path of the scope that the
-- task stands in (17.1.1.6), once its instance is known (`placed_items` of `vmodules`). In all other words, and before that, it is empty.
use Rattle.std.specs.Prelude.{ℕ, suc, if◌then◌else◌, List, [], ◌∷◌}
use Rattle.vwords.specs.Words.{Text, is_leaf, without_backslash}
use Rattle.vast.specs.TokenTexts.{token_text}
use Rattle.vast.specs.declared.token.Token.{Token}

pub record Word : Type 0 where
  pub letters : Text
  pub number : ℕ
  pub path : Text

-- that of a token, among the words of the text
abbrev pub word_of : List Text → Token → Word
word_of words token = record { letters = without_backslash (token_text words token); number = token.number; path = [] }

-- the words of a text that trees keep, with their numbers, the first of which is this one
abbrev pub words_from : ℕ → List Text → List Word
words_from number [] = []
words_from number (word ∷ words) =
    if is_leaf word then record { letters = without_backslash word; number = number; path = [] } ∷ words_from (suc number) words
    else words_from (suc number) words
