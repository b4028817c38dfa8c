-- *internal*: Laws of the definitions, which functions of `law` prove.
use Rattle.std.specs.Prelude.{◌≡◌, ℕ, List}
use Rattle.vlex.specs.declared.list.Span.{Span}
use Rattle.vlex.specs.Lexed.{Lexed, Piece}
use Rattle.vlex.specs.Tokenized.{AreWordSpans}

-- a text is cut into tokens in one way
abbrev pub CutsOneWay : Type 0
CutsOneWay = (text : List ℕ) (pieces others : List Piece) → Lexed text pieces → Lexed text others → pieces ≡ others

-- and its words stand in one way
abbrev pub WordsStandOneWay : Type 0
WordsStandOneWay =
    (text : List ℕ) (spans others : List Span) → AreWordSpans text spans → AreWordSpans text others → spans ≡ others
