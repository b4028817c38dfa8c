-- *internal*: The letters of a token that a tree keeps by its number, among the words of the text.
use Rattle.std.specs.Prelude.{ℕ, suc, if◌then◌else◌, List, [], ◌∷◌, ◌++◌, Option, Some, None, map, slice_get}
use Rattle.std.specs.Borrow.{Bor}
use Rattle.vwords.specs.Words.{Text, is_leaf}
use Rattle.vast.specs.declared.token.Token.{Token}

abbrev pub letters : Option Text → Text
letters None = []
letters (Some text) = text

abbrev pub token_text : List Text → Token → Text
token_text words token = letters (slice_get words token.number)

-- the words of a text that is given by its tokens' bytes
abbrev pub texts : List (Bor Text) → List Text
texts = map (λ word. word.now)

-- the token of a word with this number, if trees keep it
abbrev pub leaf_at : ℕ → Text → List Token
leaf_at number word = if is_leaf word then record { number = number } ∷ [] else []

-- the tokens that trees keep of words that are numbered from here on, in their order
abbrev pub leaves_from : ℕ → List Text → List Token
leaves_from number [] = []
leaves_from number (word ∷ words) = leaf_at number word ++ leaves_from (suc number) words
