-- *product rule*: The words of a text, as its tokens stand.
use Rattle.std.specs.Prelude.{List, map}
use Rattle.vlex.specs.Tokenized.{Tokenized, pieces_of}
use Rattle.vwords.specs.Words.{Text}

abbrev pub words_of : Tokenized → List Text
words_of tokens = map (λ piece. piece.text) (pieces_of tokens)
